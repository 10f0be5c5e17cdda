-- How a call ends by its tasks.
use Rattle.std.proofs.Common.{◌≡◌, ℕ, List, [], Some, None, IfSome, Result, Ok, Err, ◌⊎◌, inl, inr, refl, sym, ap, subst, ◌∙◌}
use Rattle.std.specs.declared.option.Option.{Option}
use Rattle.std.specs.Prelude.{IsSome}
use Rattle.trapeze_io.specs.Seen.{Seen, Held, OpenFile}
use Rattle.event_file.specs.declared.fault.LineError.{LineError}
use Rattle.host_rules.specs.Rules.{IsOrdered}
use Rattle.trapeze_cli.specs.declared.status.Status.{Status}
use Rattle.trapeze_cli.specs.declared.status.Status.TheVariants as status
use Rattle.trapeze_cli.specs.declared.status.Input.TheVariants as inputs
use Rattle.trapeze_io.specs.Appends.{AppendsAll, AppendsPrefix, AppendsLess}
use Rattle.trapeze_cli.specs.Command.{Task, Plays, Says, Texts, answer_of_file, texts_by, status_at, events_limit}
use Rattle.trapeze_cli.specs.Ends.{IsFileOf, SaysText, SaysOrRefuses}
use Rattle.trapeze_cli.specs.Played.{played_of}
use Rattle.trapeze_cli.specs.Playing.{PlaysFile, IsOfPlay, file_in, played_in_file, texts_of}
use Rattle.trapeze_cli.specs.Promises.{IsPrivate, StopsAt}
use Rattle.trapeze_cli.specs.Runs.{Setting, text_of}
use Rattle.trapeze_cli.specs.Steps.{HasReason, CallEnds}
use Rattle.trapeze_cli.specs.Whys.{Why, Finished, Refused, ReadFailed, why, given_of, IsAnswered, Writes}
use Rattle.trapeze_cli.proofs.Refusals.{IfSome-map, IfSome-all}
use Rattle.trapeze_io.proofs.Appended.{prefix_none}
use Rattle.trapeze_cli.proofs.Privacy.{private_by}

module _ (tasks : Held → Result Task Status → Type 0) where
  module _ (held : Option Held) (current : Option OpenFile) (out : Option (List ℕ)) where
    -- a refusal that the files say
    pub refused_as : (s : Status) → why s ≡ Refused → IfSome held (λ h. tasks h (Err s)) → CallEnds tasks held current s out out
    refused_as s is told = record {
      answered = subst (λ (x : Why). IsAnswered tasks held x s) (sym is)
          (IfSome-map held (λ h t. (record { status = s; out = [] }, record { task = Err s; is_task = t; answered = refl }, refl)) told);
      written = subst (λ (x : Why). Writes tasks held (given_of current) x out out) (sym is) refl;
      private = λ e. absurd (finished (sym is ∙ e));
      clean = λ e. absurd (failed (sym is ∙ ap why e));
      stopped = λ bad e. absurd (finished (sym is ∙ ap why e));
    }
      where
        finished : ¬ (Refused ≡ Finished)
        finished e = cc

        failed : ¬ (Refused ≡ ReadFailed inputs.Events)
        failed e = cc

    -- a step before the event file ended the call
    pub outcome_refused : {X : Type 0} (step : Held → Result X Status → Type 0) (s : Status) (old new : Seen) → old.held ≡ held → HasReason step old new s (why s)
        → IfSome held (λ h. step h (Err s) → tasks h (Err s)) → ¬ (s ≡ status.ReadFault inputs.Events) → CallEnds tasks held current s out out
    outcome_refused step s old new same refused k never = by s refused k never
      where
        told : (s : Status) → IfSome old.held (λ h. step h (Err s)) → IfSome held (λ h. step h (Err s) → tasks h (Err s)) → IfSome held (λ h. tasks h (Err s))
        told s is k = both held (subst (λ (o : Option Held). IfSome o (λ h. step h (Err s))) same is) k
          where
            both : (o : Option Held) → IfSome o (λ h. step h (Err s)) → IfSome o (λ h. step h (Err s) → tasks h (Err s)) → IfSome o (λ h. tasks h (Err s))
            both None p k = tt
            both (Some h) p k = k p

        by : (s : Status) → HasReason step old new s (why s) → IfSome held (λ h. step h (Err s) → tasks h (Err s)) → ¬ (s ≡ status.ReadFault inputs.Events) → CallEnds tasks held current s out out
        by status.Done r k never = absurd r
        by status.WriteFault r k never = absurd r
        by (status.Events bad) r k never = absurd r
        by (status.TooLong inputs.Events) r k never = absurd r
        by status.Usage r k never = refused_as status.Usage refl (told status.Usage r k)
        by (status.Policy fault) r k never = refused_as (status.Policy fault) refl (told (status.Policy fault) r k)
        by (status.Module f fault) r k never = refused_as (status.Module f fault) refl (told (status.Module f fault) r k)
        by (status.TooLong inputs.Policy) r k never = refused_as (status.TooLong inputs.Policy) refl (told (status.TooLong inputs.Policy) r k)
        by (status.TooLong (inputs.Module f)) r k never = refused_as (status.TooLong (inputs.Module f)) refl (told (status.TooLong (inputs.Module f)) r k)
        by status.NoMemory r k never = record {
          answered = tt;
          written = IfSome-all held (λ h task is. prefix_none _ out);
          private = λ e. cc;
          clean = λ e. cc;
          stopped = λ bad e. cc;
        }
        by (status.ReadFault inputs.Policy) r k never = record { answered = tt; written = refl; private = λ e. cc; clean = λ e. cc; stopped = λ bad e. cc }
        by (status.ReadFault (inputs.Module f)) r k never = record { answered = tt; written = refl; private = λ e. cc; clean = λ e. cc; stopped = λ bad e. cc }
        by (status.ReadFault inputs.Events) r k never = absurd (never refl)

  module _ (held : Option Held) (current : Option OpenFile) (old new : Option (List ℕ)) where
    -- a text was said
    pub outcome_said : (said : List ℕ) (s : Status) (before now : ℕ) → IfSome held (λ h. tasks h (Ok (Says said))) → SaysText said s old new before now → CallEnds tasks held current s old new
    outcome_said said s before now told (inl (is, all)) = subst (λ (x : Status). CallEnds tasks held current x old new) (sym is) (record {
      answered = IfSome-map held (λ h t. (record { status = status.Done; out = said }, record { task = Ok (Says said); is_task = t; answered = refl }, refl)) told;
      written = IfSome-map held (λ h t. (Ok (Says said), t, all)) told;
      private = λ e. IfSome-map held (λ h t. (Says said, t, tt)) told;
      clean = λ e. cc;
      stopped = λ bad e. cc;
    })
    outcome_said said s before now told (inr (is, less, rose)) = subst (λ (x : Status). CallEnds tasks held current x old new) (sym is) (record {
      answered = tt;
      written = IfSome-map held (λ h t. (Ok (Says said), t, less)) told;
      private = λ e. cc;
      clean = λ e. cc;
      stopped = λ bad e. cc;
    })

    -- a text was said, or the call is out of memory
    pub outcome_said_or_refused : (said : List ℕ) (s : Status) (before now : ℕ) → IfSome held (λ h. tasks h (Ok (Says said))) → SaysOrRefuses said s old new before now → CallEnds tasks held current s old new
    outcome_said_or_refused said s before now told (inl (is, same)) = subst (λ (x : Status). CallEnds tasks held current x old new) (sym is) (record {
      answered = tt;
      written = IfSome-all held (λ h task t. subst (λ (o : Option (List ℕ)). AppendsPrefix [] (texts_by h task (given_of current)).all old o) (sym same) (prefix_none _ old));
      private = λ e. cc;
      clean = λ e. cc;
      stopped = λ bad e. cc;
    })
    outcome_said_or_refused said s before now told (inr k) = outcome_said said s before now told k

    -- where the files held are not told
    untold : (s : Status) → held ≡ None → IsOfPlay s (why s) → CallEnds tasks held current s old new
    untold s none of = subst (λ (o : Option Held). CallEnds tasks o current s old new) (sym none) (by s of)
      where
        by : (s : Status) → IsOfPlay s (why s) → CallEnds tasks None current s old new
        by status.Done of = record { answered = tt; written = tt; private = λ e. tt; clean = λ e. tt; stopped = λ bad e. tt }
        by (status.Events bad) of = record { answered = tt; written = tt; private = λ e. tt; clean = λ e. tt; stopped = λ bad e. tt }
        by (status.TooLong inputs.Events) of = record { answered = tt; written = tt; private = λ e. tt; clean = λ e. tt; stopped = λ bad e. tt }
        by status.WriteFault of = record { answered = tt; written = tt; private = λ e. tt; clean = λ e. tt; stopped = λ bad e. tt }
        by status.NoMemory of = record { answered = tt; written = tt; private = λ e. tt; clean = λ e. tt; stopped = λ bad e. tt }
        by (status.ReadFault inputs.Events) of = record { answered = tt; written = tt; private = λ e. tt; clean = λ e. tt; stopped = λ bad e. tt }
        by (status.ReadFault inputs.Policy) of = absurd (cc)
        by (status.ReadFault (inputs.Module f)) of = absurd (cc)
        by status.Usage of = absurd of
        by (status.Policy fault) of = absurd of
        by (status.Module f fault) of = absurd of
        by (status.TooLong inputs.Policy) of = absurd of
        by (status.TooLong (inputs.Module f)) of = absurd of

  -- a file that is told was played
  module _ (h : Held) (r : OpenFile) (g : Setting) (name : List ℕ) (old new : Option (List ℕ)) (t : tasks h (Ok (Plays g name))) (order : IsOrdered g.rules) where
    -- to its end, to a bad line or past the limit
    finished_as : (s : Status) → why s ≡ Finished → h name ≡ Some (file_in r) → s ≡ status_at (played_in_file g r).end → AppendsAll (text_of g (played_in_file g r)) old new
        → ((bad : LineError) → s ≡ status.Events bad → StopsAt g.known bad r)
        → CallEnds tasks (Some h) (Some r) s old new
    finished_as s is file tells wrote stops = record {
      answered = subst (λ (x : Why). IsAnswered tasks (Some h) x s) (sym is)
          (answer_of_file g (h name), record { task = Ok (Plays g name); is_task = t; answered = refl }, tells ∙ ap (λ f. (answer_of_file g f).status) (sym file));
      written = subst (λ (x : Why). Writes tasks (Some h) r.given x old new) (sym is)
          (Ok (Plays g name), t, subst (λ f. AppendsAll (answer_of_file g f).out old new) (sym file) wrote);
      private = λ e. (
        Plays g name,
        t,
        subst (λ f. IfSome f (λ file. IsPrivate g (played_of events_limit g.known file) s old new)) (sym file)
            (private_by g (played_in_file g r) s old new order tells wrote),
      );
      clean = λ e. absurd (failed (sym is ∙ ap why e));
      stopped = λ bad e. (Plays g name, t, stops bad e);
    }
      where
        failed : ¬ (Finished ≡ ReadFailed inputs.Events)
        failed e = cc

    of_name : Texts → Texts
    of_name texts = record { all = (answer_of_file g (h name)).out; heard = texts.heard; before = texts.before }

    all_of : h name ≡ Some (file_in r) → (answer_of_file g (h name)).out ≡ text_of g (played_in_file g r)
    all_of file = ap (λ f. (answer_of_file g f).out) file

    played_as : (s : Status) → PlaysFile g r s old new → (h name ≡ Some (file_in r)) ⊎ (s ≡ status.ReadFault inputs.Events) → ((task : Result Task Status) → tasks h task → Ok (Plays g name) ≡ task)
        → CallEnds tasks (Some h) (Some r) s old new
    played_as status.Done a (inl file) one = finished_as status.Done refl file a.tells a.writes a.stopped
    played_as status.Done a (inr e) one = absurd (cc)
    played_as (status.Events bad) a (inl file) one = finished_as (status.Events bad) refl file a.tells a.writes a.stopped
    played_as (status.Events bad) a (inr e) one = absurd (cc)
    played_as (status.TooLong inputs.Events) a (inl file) one = finished_as (status.TooLong inputs.Events) refl file a.tells a.writes a.stopped
    played_as (status.TooLong inputs.Events) a (inr e) one = absurd (cc)
    played_as status.Usage a f one = absurd a.tells
    played_as (status.Policy fault) a f one = absurd a.tells
    played_as (status.Module k fault) a f one = absurd a.tells
    played_as (status.TooLong inputs.Policy) a f one = absurd a.tells
    played_as (status.TooLong (inputs.Module k)) a f one = absurd a.tells
    played_as (status.ReadFault inputs.Policy) a f one = absurd a.writes
    played_as (status.ReadFault (inputs.Module k)) a f one = absurd a.writes
    played_as (status.ReadFault inputs.Events) a f one = record {
      answered = tt;
      written = (Ok (Plays g name), t, a.writes);
      private = λ e. cc;
      clean = λ e. (Plays g name, t, (a.tells.1, a.tells.2));
      stopped = λ bad e. cc;
    }
    played_as status.WriteFault a (inr e) one = absurd (cc)
    played_as status.WriteFault a (inl file) one = record {
      answered = tt;
      written = (Ok (Plays g name), t, subst (λ all. AppendsLess (texts_of g r).before all old new) (sym (all_of file)) a.writes);
      private = λ e. cc;
      clean = λ e. cc;
      stopped = λ bad e. cc;
    }
    played_as status.NoMemory a (inr e) one = absurd (cc)
    played_as status.NoMemory a (inl file) one = record {
      answered = tt;
      written = λ task is. subst (λ (x : Result Task Status). AppendsPrefix [] (texts_by h x r.given).all old new) (one task is)
          (subst (λ all. AppendsPrefix [] all old new) (sym (all_of file)) a.writes);
      private = λ e. cc;
      clean = λ e. cc;
      stopped = λ bad e. cc;
    }

  -- a file was played
  pub outcome_played : (held : Option Held) (current : Option OpenFile) (g : Setting) (name : List ℕ) (s : Status) (old new : Option (List ℕ))
      → IfSome held (λ h. tasks h (Ok (Plays g name))) → IsOrdered g.rules → IfSome current (λ r. PlaysFile g r s old new) → IsFileOf held name current s → IsOfPlay s (why s)
      → (IsSome held → IsSome current) → ((h : Held) (a b : Result Task Status) → tasks h a → tasks h b → a ≡ b) → CallEnds tasks held current s old new
  outcome_played None current g name s old new t order a f of told one = untold None current old new s refl of
  outcome_played (Some h) None g name s old new t order a f of told one = absurd (cc (told refl))
  outcome_played (Some h) (Some r) g name s old new t order a f of told one =
      played_as h r g name old new t order s a f (λ task is. one h (Ok (Plays g name)) task t is)
