-- What a call answers where no file and no sink failed, and what its error line names.
use Rattle.std.proofs.Common.{◌≡◌, ℕ, List, [], Some, None, IfSome, Result, Ok, Err, ◌⊎◌, inl, inr, refl, sym, ap, subst, ◌∙◌}
use Rattle.std.specs.declared.option.Option.{Option}
use Rattle.trapeze_io.specs.Causes.{Rose}
use Rattle.trapeze_io.specs.Seen.{Held}
use Rattle.policy_toml.specs.Parts.{Parts}
use Rattle.trapeze_cli.specs.declared.status.Status.{Status}
use Rattle.trapeze_cli.specs.declared.status.Status.TheVariants as status
use Rattle.trapeze_cli.specs.declared.status.Input.TheVariants as inputs
use Rattle.trapeze_io.specs.Appends.{AppendsAll}
use Rattle.trapeze_cli.specs.Command.{policy_in, Task, Plays, Says, Answer, answer_of, answer_of_file, status_at, events_limit, IsTask}
use Rattle.trapeze_cli.specs.Forms.{Form, Source, policy_name, Command, OnFiles, on_files}
use Rattle.trapeze_cli.specs.Opens.{IsLast}
use Rattle.trapeze_cli.specs.Played.{FileEnd, AtEnd, AtBad, PastLimit, played_of}
use Rattle.trapeze_cli.specs.Promises.{IsGiven}
use Rattle.trapeze_cli.specs.Runs.{Setting}
use Rattle.trapeze_io.specs.Appends.{Says as SaysLine}
use Rattle.trapeze_cli.specs.Statuses.{Named, no_names, named_by, named_in, error_text, WithNames}
use Rattle.trapeze_cli.specs.Whys.{Finished, Refused, why, IsSaid, IsAnswered, Writes, OfTexts, IfReadFailed}
use Rattle.trapeze_io.proofs.Appended.{all_none}
use Rattle.trapeze_cli.proofs.Refusals.{IfSome-map, IfSome-all}
use Rattle.trapeze_cli.proofs.Tasks.{one_task}

-- a refusal has no text

ended_finished : (end : FileEnd) → why (status_at end) ≡ Finished
ended_finished AtEnd = refl
ended_finished (AtBad bad) = refl
ended_finished PastLimit = refl

refused_file : (g : Setting) (file : Option (List ℕ)) → why (answer_of_file g file).status ≡ Refused → (answer_of_file g file).out ≡ []
refused_file g None is = refl
refused_file g (Some file) is = absurd (other (sym (ended_finished (played_of events_limit g.known file).end) ∙ is))
  where
    other : ¬ (Finished ≡ Refused)
    other e = cc

refused_out : (h : Held) (task : Result Task Status) → why (answer_of h task).status ≡ Refused → (answer_of h task).out ≡ []
refused_out h (Err s) is = refl
refused_out h (Ok (Says said)) is = absurd (cc)
refused_out h (Ok (Plays g events)) is = refused_file g (h events) is

module _ (words : Option Command) (held : Option Held) (given : List ℕ) (old new : Option (List ℕ)) where
  given_finished : (s : Status) → IfSome held (λ h. IsSaid (IsTask words) h s) → OfTexts (IsTask words) held given (λ t. AppendsAll t.all old new) → IfSome held (λ h. IsGiven (IsTask words) h s old new)
  given_finished s said wrote = by held said wrote
    where
      by : (held : Option Held) → IfSome held (λ h. IsSaid (IsTask words) h s) → OfTexts (IsTask words) held given (λ t. AppendsAll t.all old new) → IfSome held (λ h. IsGiven (IsTask words) h s old new)
      by None said wrote = tt
      by (Some h) (answer, k, is) (task, t, all) = (
        answer_of h task,
        record { task = task; is_task = t; answered = refl },
        record { answered = is ∙ ap (λ (a : Answer). a.status) (k.answered ∙ ap (answer_of h) (one_task h words k.task task k.is_task t)); whole = all },
      )

  given_refused : (s : Status) → why s ≡ Refused → IfSome held (λ h. IsSaid (IsTask words) h s) → new ≡ old → IfSome held (λ h. IsGiven (IsTask words) h s old new)
  given_refused s refused said same = IfSome-map held (λ h k. by h k) said
    where
      by : (h : Held) → IsSaid (IsTask words) h s → IsGiven (IsTask words) h s old new
      by h (answer, k, is) =
          let none : answer.out ≡ [] = ap (λ (a : Answer). a.out) k.answered
          ∙ refused_out h k.task (ap (λ (a : Answer). why a.status) (sym k.answered) ∙ ap why (sym is) ∙ refused) in
          (answer, k, record { answered = is; whole = subst (λ text. AppendsAll text old new) (sym none) (same ∙ all_none old) })

  pub completes : (s : Status) (files files_now sink sink_now : ℕ) → IsAnswered (IsTask words) held (why s) s → Writes (IsTask words) held given (why s) old new
      → IfReadFailed (why s) (λ i. Rose files files_now) → (s ≡ status.WriteFault → Rose sink sink_now) → ¬ Rose files files_now → ¬ Rose sink sink_now
      → (s ≡ status.NoMemory) ⊎ IfSome held (λ h. IsGiven (IsTask words) h s old new)
  completes status.Done f f1 k k1 a w r x quiet dry = inr (given_finished status.Done a w)
  completes (status.Events bad) f f1 k k1 a w r x quiet dry = inr (given_finished (status.Events bad) a w)
  completes (status.TooLong inputs.Events) f f1 k k1 a w r x quiet dry = inr (given_finished (status.TooLong inputs.Events) a w)
  completes status.Usage f f1 k k1 a w r x quiet dry = inr (given_refused status.Usage refl a w)
  completes (status.Policy fault) f f1 k k1 a w r x quiet dry = inr (given_refused (status.Policy fault) refl a w)
  completes (status.Module m fault) f f1 k k1 a w r x quiet dry = inr (given_refused (status.Module m fault) refl a w)
  completes (status.TooLong inputs.Policy) f f1 k k1 a w r x quiet dry = inr (given_refused (status.TooLong inputs.Policy) refl a w)
  completes (status.TooLong (inputs.Module m)) f f1 k k1 a w r x quiet dry = inr (given_refused (status.TooLong (inputs.Module m)) refl a w)
  completes (status.ReadFault i) f f1 k k1 a w r x quiet dry = absurd (quiet r)
  completes status.WriteFault f f1 k k1 a w r x quiet dry = absurd (dry (x refl))
  completes status.NoMemory f f1 k k1 a w r x quiet dry = inl refl

-- the functions of the policy that was read
pub names_read : (form : Form) (held : Option Held) (name : List ℕ) (parts : Parts) → name ≡ policy_name form → IfSome held (λ h. policy_in h name ≡ Ok parts)
    → IfSome held (λ h. record { functions = parts.functions; files = parts.files } ≡ named_in (Some form) h)
names_read form held name parts named reads = IfSome-map held (λ h is. ap named_by (sym is) ∙ ap (λ n. named_by (policy_in h n)) named) reads

module _ (words : Option Command) (form : Form) (of : Some (OnFiles form) ≡ words) (held : Option Held) (old new : Option (List ℕ)) (before now : ℕ) where
  -- the names are those of the policy, where the status names a function
  pub says_named : (s : Status) (names : Named) → IfSome held (λ h. names ≡ named_in (Some form) h) → SaysLine old new before now (error_text (Some form) names s)
      → WithNames (on_files words) held s (λ names. SaysLine old new before now (error_text (on_files words) names s))
  says_named s names same k = subst (λ (f : Option Form). WithNames f held s (λ names. SaysLine old new before now (error_text f names s))) (ap on_files of) (by s k)
    where
      told : (s : Status) → SaysLine old new before now (error_text (Some form) names s) → IfSome held (λ h. SaysLine old new before now (error_text (Some form) (named_in (Some form) h) s))
      told s k = IfSome-map held (λ h e. subst (λ (n : Named). SaysLine old new before now (error_text (Some form) n s)) e k) same

      by : (s : Status) → SaysLine old new before now (error_text (Some form) names s) → WithNames (Some form) held s (λ names. SaysLine old new before now (error_text (Some form) names s))
      by (status.Module f fault) k = told (status.Module f fault) k
      by (status.ReadFault (inputs.Module f)) k = told (status.ReadFault (inputs.Module f)) k
      by (status.TooLong (inputs.Module f)) k = told (status.TooLong (inputs.Module f)) k
      by (status.ReadFault inputs.Policy) k = k
      by (status.ReadFault inputs.Events) k = k
      by (status.TooLong inputs.Policy) k = k
      by (status.TooLong inputs.Events) k = k
      by status.Done k = k
      by status.Usage k = k
      by (status.Policy fault) k = k
      by (status.Events bad) k = k
      by status.WriteFault k = k
      by status.NoMemory k = k

  -- a reading of the policy that ended the call names no function
  pub says_unread : (s : Status) (after : List Source) → IsLast s inputs.Policy after → SaysLine old new before now (error_text (Some form) no_names s)
      → WithNames (on_files words) held s (λ names. SaysLine old new before now (error_text (on_files words) names s))
  says_unread s after last k = subst (λ (f : Option Form). WithNames f held s (λ names. SaysLine old new before now (error_text f names s))) (ap on_files of) (by s last k)
    where
      by : (s : Status) → IsLast s inputs.Policy after → SaysLine old new before now (error_text (Some form) no_names s) → WithNames (Some form) held s (λ names. SaysLine old new before now (error_text (Some form) names s))
      by (status.Module f fault) last k = absurd (cc)
      by (status.ReadFault (inputs.Module f)) last k = absurd (cc)
      by (status.TooLong (inputs.Module f)) last k = absurd (cc)
      by (status.ReadFault inputs.Policy) last k = k
      by (status.ReadFault inputs.Events) last k = absurd (cc)
      by (status.TooLong inputs.Policy) last k = k
      by (status.TooLong inputs.Events) last k = absurd (cc)
      by status.Done last k = k
      by status.Usage last k = k
      by (status.Policy fault) last k = k
      by (status.Events bad) last k = k
      by status.WriteFault last k = k
      by status.NoMemory last k = k

-- words without a command

pub unknown_answered : (words : Option Command) (held : Option Held) → None ≡ words → IfSome held (λ h. IsSaid (IsTask words) h status.Usage)
unknown_answered words held none = IfSome-all held (λ h. subst (λ (f : Option Command). IsSaid (IsTask f) h status.Usage) none
    (record { status = status.Usage; out = [] }, record { task = Err status.Usage; is_task = refl; answered = refl }, refl))

pub unknown_given : (words : Option Command) (held : Option Held) (out : Option (List ℕ)) → None ≡ words → IfSome held (λ h. IsGiven (IsTask words) h status.Usage out out)
unknown_given words held out none = IfSome-all held (λ h. subst (λ (f : Option Command). IsGiven (IsTask f) h status.Usage out out) none
    (record { status = status.Usage; out = [] }, record { task = Err status.Usage; is_task = refl; answered = refl }, record { answered = refl; whole = all_none out }))
