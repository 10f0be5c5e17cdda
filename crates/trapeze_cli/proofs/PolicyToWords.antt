-- From a call's policy to its words.
use Rattle.std.proofs.Common.{◌≡◌, ℕ, suc, ◌+◌, ◌<◌, ◌≤◌, List, [], ◌∷◌, ◌++◌, length, Some, None, IfSome, Result, Ok, Err, ◌⊎◌, inl, inr, refl, sym, ap, subst, ◌∙◌, arith}
use Rattle.std.specs.declared.option.Option.{Option}
use Rattle.std.specs.Prelude.{IsOkAnd, slice_index_or}
use Rattle.std.proofs.lemmas.List.{length-map}
use Rattle.trapeze_io.specs.Seen.{Seen, Held, OpenFile, OpensOne, OpensAll, AddsUp}
use Rattle.trapeze_io.proofs.Opens.{adds_up}
use Rattle.policy_toml.specs.Parts.{Parts}
use Rattle.trapeze_cli.specs.declared.status.Status.{Status}
use Rattle.trapeze_cli.specs.declared.status.Status.TheVariants as status
use Rattle.trapeze_cli.specs.declared.status.Input.{Input}
use Rattle.trapeze_cli.specs.declared.status.Input.TheVariants as inputs
use Rattle.trapeze_cli.specs.Command.{policy_in, Task, IsTaskUnder, IsTaskBy, IsTask}
use Rattle.trapeze_cli.specs.Forms.{Form, Check, Play, Command, OnFiles, on_files, policy_name, events_name, file_name, Source, module_sources, event_sources, sources_of}
use Rattle.trapeze_cli.specs.Opens.{names_of, IsLast, OpensTo, files_by, files_in, AreFiles, Opened, opens_before, FailsToRead, IsReachedUnder, IsReached}
use Rattle.trapeze_cli.specs.Promises.{OfTask, IsPrivateIn, IsClean, IsStopped, ReadsEvents}
use Rattle.trapeze_cli.specs.Steps.{HasReason, FaultsRose, Ends, CallEnds}
use Rattle.trapeze_cli.specs.Whys.{Why, Finished, Refused, ReadFailed, WriteFailed, OutOfMemory, why, given_of, IsAnswered, Writes, IfReadFailed}
use Rattle.trapeze_cli.proofs.Refusals.{IfSome-map, IfSome-all}
use Rattle.trapeze_cli.proofs.StepsInTurn.{names-append, opens_first, last_more}
use Rattle.trapeze_cli.proofs.UnderPolicy.{failed_map}
use Rattle.trapeze_cli.proofs.Outcomes.{outcome_refused}

-- tasks that are the same, where the files held are told

record AreSame (a b : Result Task Status → Type 0) : Type 0 where
  there : (t : Result Task Status) → a t → b t
  back : (t : Result Task Status) → b t → a t

module _ (a b : Held → Result Task Status → Type 0) where
  answered_map : (held : Option Held) (w : Why) (s : Status) → IfSome held (λ h. AreSame (a h) (b h)) → IsAnswered a held w s → IsAnswered b held w s
  answered_map None Finished s same is = tt
  answered_map None Refused s same is = tt
  answered_map (Some h) Finished s same (answer, k, e) = (answer, record { task = k.task; is_task = same.there k.task k.is_task; answered = k.answered }, e)
  answered_map (Some h) Refused s same (answer, k, e) = (answer, record { task = k.task; is_task = same.there k.task k.is_task; answered = k.answered }, e)
  answered_map held (ReadFailed input) s same is = tt
  answered_map held WriteFailed s same is = tt
  answered_map held OutOfMemory s same is = tt

  writes_map : (held : Option Held) (given : List ℕ) (w : Why) (old new : Option (List ℕ)) → IfSome held (λ h. AreSame (a h) (b h)) → Writes a held given w old new → Writes b held given w old new
  writes_map None given Finished old new same k = tt
  writes_map None given (ReadFailed inputs.Events) old new same k = tt
  writes_map None given WriteFailed old new same k = tt
  writes_map None given OutOfMemory old new same k = tt
  writes_map (Some h) given Finished old new same (task, t, p) = (task, same.there task t, p)
  writes_map (Some h) given (ReadFailed inputs.Events) old new same (task, t, p) = (task, same.there task t, p)
  writes_map (Some h) given WriteFailed old new same (task, t, p) = (task, same.there task t, p)
  writes_map (Some h) given OutOfMemory old new same k = λ task t. k task (same.back task t)
  writes_map held given Refused old new same k = k
  writes_map held given (ReadFailed inputs.Policy) old new same k = k
  writes_map held given (ReadFailed (inputs.Module f)) old new same k = k

  of_task_map : (P : Held → Task → Type 0) (held : Option Held) → IfSome held (λ h. AreSame (a h) (b h)) → IfSome held (λ h. OfTask a h (P h)) → IfSome held (λ h. OfTask b h (P h))
  of_task_map P None same k = tt
  of_task_map P (Some h) same (task, t, p) = (task, same.there (Ok task) t, p)

  outcome_map : (held : Option Held) (current : Option OpenFile) (s : Status) (old new : Option (List ℕ)) → IfSome held (λ h. AreSame (a h) (b h)) → CallEnds a held current s old new → CallEnds b held current s old new
  outcome_map held current s old new same o = record {
    answered = answered_map held (why s) s same o.answered;
    written = writes_map held (given_of current) (why s) old new same o.written;
    private = λ e. of_task_map (λ h task. IsPrivateIn h task s old new) held same (o.private e);
    clean = λ e. of_task_map (λ h task. IsClean (given_of current) task) held same (o.clean e);
    stopped = λ bad e. of_task_map (λ h task. IsStopped current bad task) held same (o.stopped bad e);
  }

same_by : (form : Form) (h : Held) (parts : Parts) (read : Result Parts Status) → read ≡ Ok parts → AreSame (IsTaskUnder h form parts) (IsTaskBy h form read)
same_by form h parts read is = subst (λ (r : Result Parts Status). AreSame (IsTaskUnder h form parts) (IsTaskBy h form r)) (sym is) (record { there = λ t k. k; back = λ t k. k })

pub one_opened : (old new : Seen) (name : List ℕ) → OpensAll (name ∷ []) old new → OpensOne old name new
one_opened old new name (between, one, same) = subst (λ (seen : Seen). OpensOne old name seen) (sym same) one

last_of : (source last : Source) (before after : List Source) → source ∷ [] ≡ before ++ last ∷ after → last ≡ source
last_of source last [] after split = cc
last_of source last (b ∷ []) after split = absurd (cc)
last_of source last (b ∷ c ∷ before) after split = absurd (cc)

first_of : (source last : Source) (before after : List Source) → source ∷ [] ≡ before ++ last ∷ after → before ≡ []
first_of source last [] after split = refl
first_of source last (b ∷ []) after split = absurd (cc)
first_of source last (b ∷ c ∷ before) after split = absurd (cc)

module _ (words : Option Command) (form : Form) (of : Some (OnFiles form) ≡ words) (name : List ℕ) (named : name ≡ policy_name form) where
  tasks_are : (h : Held) → IsTaskBy h form (policy_in h name) ≡ IsTask words h
  tasks_are h = ap (λ n. IsTaskBy h form (policy_in h n)) named ∙ ap (λ c. IsTask c h) of

  -- the policy was read
  module _ (parts : Parts) (old mid : Seen) (one : OpensOne old name mid) (reads : IfSome old.held (λ h. policy_in h name ≡ Ok parts)) where
    one_named : OpensOne old (policy_name form) mid
    one_named = subst (λ n. OpensOne old n mid) named one

    pub outcome_read : (current : Option OpenFile) (s : Status) (out out_now : Option (List ℕ))
        → CallEnds (λ h t. IsTaskUnder h form parts t) mid.held current s out out_now → CallEnds (IsTask words) old.held current s out out_now
    outcome_read current s out out_now k =
        outcome_map (λ h t. IsTaskUnder h form parts t) (IsTask words) old.held current s out out_now
        (IfSome-map old.held (λ h is. subst (λ (b : Result Task Status → Type 0). AreSame (IsTaskUnder h form parts) b) (tasks_are h) (same_by form h parts (policy_in h name) is)) reads)
        (subst (λ (o : Option Held). CallEnds (λ h t. IsTaskUnder h form parts t) o current s out out_now) one.held k)

    pub files_read : AreFiles old.held form parts.files
    files_read = IfSome-map old.held (λ h is. ap files_by (sym is) ∙ ap (λ n. files_by (policy_in h n)) named) reads

    pub opened_read : (s : Status) (new : Seen) → ((before : Seen) → OpensOne before (policy_name form) mid → OpensTo (sources_of form parts.files) s before new) → Opened (on_files words) s old new
    opened_read s new k = subst (λ (f : Option Form). Opened f s old new) (ap on_files of) (record { files = parts.files; of_policy = files_read; opens = k old one_named })

    reached_by : (h : Held) (read : Result Parts Status) (input : Input) → read ≡ Ok parts → IsReachedUnder h form parts input → IsOkAnd read (λ policy. IsReachedUnder h form policy input)
    reached_by h read input is r = subst (λ (x : Result Parts Status). IsOkAnd x (λ policy. IsReachedUnder h form policy input)) (sym is) r

    reached_form : (h : Held) (input : Input) → policy_in h name ≡ Ok parts → IsReachedUnder h form parts input → IsReached (Some form) h input
    reached_form h inputs.Policy is r = tt
    reached_form h (inputs.Module f) is r = reached_by h (policy_in h (policy_name form)) (inputs.Module f) (ap (policy_in h) (sym named) ∙ is) r
    reached_form h inputs.Events is r = reached_by h (policy_in h (policy_name form)) inputs.Events (ap (policy_in h) (sym named) ∙ is) r

    pub reached_read : (s : Status) → IfReadFailed (why s) (λ input. IfSome mid.held (λ h. IsReachedUnder h form parts input))
        → IfReadFailed (why s) (λ input. IfSome old.held (λ h. IsReached (on_files words) h input))
    reached_read s k = failed_map s (λ input r. by input old.held reads (subst (λ (o : Option Held). IfSome o (λ h. IsReachedUnder h form parts input)) one.held r)) k
      where
        by : (input : Input) (held : Option Held) → IfSome held (λ h. policy_in h name ≡ Ok parts) → IfSome held (λ h. IsReachedUnder h form parts input) → IfSome held (λ h. IsReached (on_files words) h input)
        by input None is r = tt
        by input (Some h) is r = subst (λ (f : Option Form). IsReached f h input) (ap on_files of) (reached_form h input is r)

    pub events_read : (current : Option OpenFile) → ReadsEvents (Some form) mid.held current → ReadsEvents (on_files words) old.held current
    events_read current k = subst (λ (f : Option Form). ReadsEvents f old.held current) (ap on_files of) (subst (λ (o : Option Held). ReadsEvents (Some form) o current) one.held k)

  -- the policy was refused, or could not be read
  module _ (old new : Seen) (s : Status) (e : Ends (record { input = inputs.Policy; name = name } ∷ []) (λ h r. policy_in h name ≡ r) s old new) where
    pub last_policy : e.opens.last.input ≡ inputs.Policy
    last_policy = ap (λ (x : Source). x.input) (last_of (record { input = inputs.Policy; name = name }) e.opens.last e.opens.before e.opens.after e.opens.split)

    pub last_is : IsLast s inputs.Policy e.opens.after
    last_is = subst (λ (i : Input). IsLast s i e.opens.after) last_policy e.opens.is_last

    -- no other input ends such a reading
    pub not_events : ¬ (s ≡ status.ReadFault inputs.Events)
    not_events is = other (sym last_policy ∙ subst (λ (x : Status). IsLast x e.opens.last.input e.opens.after) is e.opens.is_last)
      where
        other : ¬ (inputs.Policy ≡ inputs.Events)
        other e = cc

    refused_by : (h : Held) → policy_in h name ≡ Err s → IsTask words h (Err s)
    refused_by h is = subst (λ (b : Result Task Status → Type 0). b (Err s)) (tasks_are h) (subst (λ (r : Result Parts Status). IsTaskBy h form r (Err s)) (sym is) refl)

    pub outcome_unread : (current : Option OpenFile) (out : Option (List ℕ)) → CallEnds (IsTask words) old.held current s out out
    outcome_unread current out =
        outcome_refused (IsTask words) old.held current out (λ h r. policy_in h name ≡ r) s old new refl e.refused (IfSome-all old.held (λ h is. refused_by h is)) not_events

    abbrev files_held : Option Held → List (List ℕ)
    files_held None = []
    files_held (Some h) = files_in h form

    are_files : (held : Option Held) → AreFiles held form (files_held held)
    are_files None = tt
    are_files (Some h) = refl

    pub opens_unread : (files : List (List ℕ)) → OpensTo (sources_of form files) s old new
    opens_unread files = subst (λ n. OpensTo (record { input = inputs.Policy; name = n } ∷ (module_sources 0 files ++ event_sources form)) s old new) named
        (opens_first (record { input = inputs.Policy; name = name } ∷ []) (module_sources 0 files ++ event_sources form) s old new e.opens
        (λ input after is. last_more (λ h r. policy_in h name ≡ r) old new s input after (module_sources 0 files ++ event_sources form) e.refused is))

    pub opened_unread : Opened (on_files words) s old new
    opened_unread = subst (λ (f : Option Form). Opened f s old new) (ap on_files of) (record { files = files_held old.held; of_policy = are_files old.held; opens = opens_unread (files_held old.held) })

    pub not_write : ¬ (s ≡ status.WriteFault)
    not_write is = subst (λ (x : Status). HasReason (λ h r. policy_in h name ≡ r) old new x (why x)) is e.refused

    pub counted_unread : IfReadFailed (why s) (λ i. FaultsRose old new)
    counted_unread = by s e.refused
      where
        by : (s : Status) → HasReason (λ h r. policy_in h name ≡ r) old new s (why s) → IfReadFailed (why s) (λ i. FaultsRose old new)
        by (status.ReadFault i) r = r
        by status.Done r = tt
        by status.Usage r = tt
        by (status.Policy fault) r = tt
        by (status.Module f fault) r = tt
        by (status.Events bad) r = tt
        by status.WriteFault r = tt
        by status.NoMemory r = tt
        by (status.TooLong inputs.Policy) r = tt
        by (status.TooLong (inputs.Module f)) r = tt
        by (status.TooLong inputs.Events) r = tt

    pub reached_unread : IfReadFailed (why s) (λ input. IfSome old.held (λ h. IsReached (on_files words) h input))
    reached_unread = by s (λ is. sym last_policy ∙ subst (λ (x : Status). IsLast x e.opens.last.input e.opens.after) is.1 e.opens.is_last)
      where
        policy_reached : (h : Held) (i : Input) → inputs.Policy ≡ i → IsReached (on_files words) h i
        policy_reached h i is = subst (λ (x : Input). IsReached (on_files words) h x) is (subst (λ (f : Option Form). IsReached f h inputs.Policy) (ap on_files of) tt)

        by : (t : Status) → ((is : (i : Input) × (s ≡ status.ReadFault i)) → inputs.Policy ≡ is.0) → IfReadFailed (why s) (λ input. IfSome old.held (λ h. IsReached (on_files words) h input))
        by t k = failed_if s refl k
          where
            failed_if : (x : Status) → s ≡ x → ((is : (i : Input) × (s ≡ status.ReadFault i)) → inputs.Policy ≡ is.0) → IfReadFailed (why x) (λ input. IfSome old.held (λ h. IsReached (on_files words) h input))
            failed_if (status.ReadFault i) is k = IfSome-all old.held (λ h. policy_reached h i (k (i, is)))
            failed_if status.Done is k = tt
            failed_if status.Usage is k = tt
            failed_if (status.Policy fault) is k = tt
            failed_if (status.Module f fault) is k = tt
            failed_if (status.Events bad) is k = tt
            failed_if status.WriteFault is k = tt
            failed_if status.NoMemory is k = tt
            failed_if (status.TooLong inputs.Policy) is k = tt
            failed_if (status.TooLong (inputs.Module f)) is k = tt
            failed_if (status.TooLong inputs.Events) is k = tt

-- the files by their places

-- the file of a function, or the one of the events, which comes after them
IsPlaced : Form → List (List ℕ) → ℕ → ℕ → Source → Type 0
IsPlaced form files first n source =
    ((source.input ≡ inputs.Module (first + n)) × (source.name ≡ slice_index_or files n []) × (n < length files))
    ⊎ ((source.input ≡ inputs.Events) × (source.name ≡ events_name form) × (n ≡ length files))

event_place : (form : Form) (first : ℕ) (before after : List Source) (last : Source) → event_sources form ≡ before ++ last ∷ after → IsPlaced form [] first (length before) last
unfolding IsPlaced
event_place (Check name) first [] after last split = absurd (cc)
event_place (Check name) first (b ∷ before) after last split = absurd (cc)
event_place (Play show name events) first [] after last split =
    let same : record { input = inputs.Events; name = events } ≡ last = cc in
    inr (ap (λ (s : Source). s.input) (sym same), ap (λ (s : Source). s.name) (sym same), refl)
event_place (Play show name events) first (b ∷ []) after last split = absurd (cc)
event_place (Play show name events) first (b ∷ c ∷ before) after last split = absurd (cc)

more_placed : (form : Form) (name : List ℕ) (files : List (List ℕ)) (first n : ℕ) (source : Source) → IsPlaced form files (first + 1) n source → IsPlaced form (name ∷ files) first (suc n) source
unfolding IsPlaced
more_placed form name files first n source (inl p) =
    let e : first + 1 + n ≡ first + suc n = omega arith in
    inl (p.0 ∙ ap inputs.Module e, p.1, omega (arith, p.2))
more_placed form name files first n source (inr p) = inr (p.0, p.1, ap suc p.2)

source_place : (form : Form) (files : List (List ℕ)) (first : ℕ) (before after : List Source) (last : Source) → module_sources first files ++ event_sources form ≡ before ++ last ∷ after
    → IsPlaced form files first (length before) last
unfolding IsPlaced
source_place form [] first before after last split = event_place form first before after last split
source_place form (name ∷ files) first [] after last split =
    let same : record { input = inputs.Module first; name = name } ≡ last = cc in
    let e : first ≡ first + 0 = omega arith in
    inl (ap (λ (s : Source). s.input) (sym same) ∙ ap inputs.Module e, ap (λ (s : Source). s.name) (sym same), omega arith)
source_place form (name ∷ files) first (b ∷ before) after last split =
    let rest : module_sources (first + 1) files ++ event_sources form ≡ before ++ last ∷ after = cc in
    more_placed form name files first (length before) last (source_place form files (first + 1) before after last rest)

-- the name of an input, and how many were opened before it
record IsAt (form : Form) (files : List (List ℕ)) (n : ℕ) (source : Source) : Type 0 where
  name : source.name ≡ file_name (Some form) files source.input
  number : n ≡ opens_before (length files) source.input
  few : n ≤ length files + 1

placed_at : (form : Form) (files : List (List ℕ)) (n : ℕ) (source : Source) → IsPlaced form files 0 n source → IsAt form files (suc n) source
unfolding IsPlaced
placed_at form files n source (inl p) =
    let zero : 0 + n ≡ n = omega arith in
    let is : source.input ≡ inputs.Module n = p.0 ∙ ap inputs.Module zero in
    let one : suc n ≡ n + 1 = omega arith in
    record { name = p.1 ∙ ap (file_name (Some form) files) (sym is); number = one ∙ ap (opens_before (length files)) (sym is); few = omega (arith, p.2) }
placed_at form files n source (inr p) =
    let one : suc n ≡ length files + 1 = omega (arith, p.2) in
    record { name = p.1 ∙ ap (file_name (Some form) files) (sym p.0); number = one ∙ ap (opens_before (length files)) (sym p.0); few = omega (arith, p.2) }

form_place : (form : Form) (files : List (List ℕ)) (before after : List Source) (last : Source) → sources_of form files ≡ before ++ last ∷ after → IsAt form files (length before) last
form_place form files [] after last split =
    let same : record { input = inputs.Policy; name = policy_name form } ≡ last = cc in
    subst (IsAt form files 0) same (record { name = refl; number = refl; few = omega arith })
form_place form files (b ∷ before) after last split =
    let rest : module_sources 0 files ++ event_sources form ≡ before ++ last ∷ after = cc in
    placed_at form files (length before) last (source_place form files 0 before after last rest)

-- an input could not be opened or read
pub fails : (words : Option Command) (form : Form) (of : Some (OnFiles form) ≡ words) (files : List (List ℕ)) (old new : Seen) (s : Status) → AreFiles old.held form files → length files ≤ 256
    → OpensTo (sources_of form files) s old new → IfReadFailed (why s) (λ i. FaultsRose old new) → IfReadFailed (why s) (λ i. FailsToRead (on_files words) i old new)
fails words form of files old new s are few opens counted = by s opens counted
  where
    failed : (t : Status) (opens : OpensTo (sources_of form files) t old new) (i : Input) → opens.last.input ≡ i → FaultsRose old new → FailsToRead (on_files words) i old new
    failed t opens i is k =
        let at : IsAt form files (length opens.before) opens.last = form_place form files opens.before opens.after opens.last opens.split in
        let up : AddsUp (names_of opens.before) opens.last.name old new = adds_up (names_of opens.before) opens.last.name old new (subst (λ names. OpensAll names old new) (names-append opens.before (opens.last ∷ [])) opens.opens) in
        let long : length (names_of opens.before) ≡ length opens.before = length-map opens.before (λ s. s.name) in
        let number : length (names_of opens.before) ≡ opens_before (length files) i = long ∙ at.number ∙ ap (opens_before (length files)) is in
        subst (λ (f : Option Form). FailsToRead f i old new) (ap on_files of) (record {
          rose = k.rose;
          marked = k.marked;
          files = files;
          of_policy = are;
          named = IfSome-map new.last_name (λ last e. e ∙ at.name ∙ ap (file_name (Some form) files) is) up.last_name;
          counted = IfSome-map old.opens (λ n next small. next (omega (arith, long, at.few, few, small)) ∙ ap (λ m. Some (n + m + 1)) number) up.opens;
        })

    by : (t : Status) → OpensTo (sources_of form files) t old new → IfReadFailed (why t) (λ i. FaultsRose old new) → IfReadFailed (why t) (λ i. FailsToRead (on_files words) i old new)
    by (status.ReadFault i) o k = failed (status.ReadFault i) o i o.is_last k
    by status.Done o k = tt
    by status.Usage o k = tt
    by (status.Policy fault) o k = tt
    by (status.Module f fault) o k = tt
    by (status.Events bad) o k = tt
    by status.WriteFault o k = tt
    by status.NoMemory o k = tt
    by (status.TooLong inputs.Policy) o k = tt
    by (status.TooLong (inputs.Module f)) o k = tt
    by (status.TooLong inputs.Events) o k = tt

-- the policy could not be opened or read
pub fails_unread : (words : Option Command) (form : Form) (of : Some (OnFiles form) ≡ words) (name : List ℕ) (named : name ≡ policy_name form) (old new : Seen) (s : Status)
    → Ends (record { input = inputs.Policy; name = name } ∷ []) (λ h r. policy_in h name ≡ r) s old new → IfReadFailed (why s) (λ i. FailsToRead (on_files words) i old new)
fails_unread words form of name named old new s e = by s e
  where
    at_policy : (s : Status) (i : Input) → s ≡ status.ReadFault i → Ends (record { input = inputs.Policy; name = name } ∷ []) (λ h r. policy_in h name ≡ r) s old new → FaultsRose old new → FailsToRead (on_files words) i old new
    at_policy s i is e k =
        let last : inputs.Policy ≡ i = sym (last_policy words form of name named old new s e) ∙ subst (λ (x : Status). IsLast x e.opens.last.input e.opens.after) is e.opens.is_last in
        let first : e.opens.before ≡ [] = first_of (record { input = inputs.Policy; name = name }) e.opens.last e.opens.before e.opens.after e.opens.split in
        let is_name : e.opens.last.name ≡ name = ap (λ (x : Source). x.name) (last_of (record { input = inputs.Policy; name = name }) e.opens.last e.opens.before e.opens.after e.opens.split) in
        let up : AddsUp [] e.opens.last.name old new = adds_up [] e.opens.last.name old new (subst (λ (before : List Source). OpensAll (names_of (before ++ e.opens.last ∷ [])) old new) first e.opens.opens) in
        subst (λ (f : Option Form). FailsToRead f i old new) (ap on_files of) (subst (λ (x : Input). FailsToRead (Some form) x old new) last (record {
          rose = k.rose;
          marked = k.marked;
          files = files_held words form of name named old new s e old.held;
          of_policy = are_files words form of name named old new s e old.held;
          named = IfSome-map new.last_name (λ last k. k ∙ is_name ∙ named) up.last_name;
          counted = IfSome-map old.opens (λ n next small. next (omega (arith, small))) up.opens;
        }))

    by : (t : Status) → Ends (record { input = inputs.Policy; name = name } ∷ []) (λ h r. policy_in h name ≡ r) t old new → IfReadFailed (why t) (λ i. FailsToRead (on_files words) i old new)
    by (status.ReadFault i) e = at_policy (status.ReadFault i) i refl e e.refused
    by status.Done e = tt
    by status.Usage e = tt
    by (status.Policy fault) e = tt
    by (status.Module f fault) e = tt
    by (status.Events bad) e = tt
    by status.WriteFault e = tt
    by status.NoMemory e = tt
    by (status.TooLong inputs.Policy) e = tt
    by (status.TooLong (inputs.Module f)) e = tt
    by (status.TooLong inputs.Events) e = tt
