-- What a call does under its policy.
use Rattle.std.proofs.Common.{◌≡◌, ℕ, ◌+◌, ◌<◌, List, [], ◌∷◌, ◌++◌, length, take, Some, None, IfSome, Result, Ok, Err, ◌⊎◌, inl, inr, refl, sym, ap, subst, ◌∙◌, append-nil, arith}
use Rattle.std.specs.declared.option.Option.{Option}
use Rattle.std.specs.Prelude.{IsOk}
use Rattle.trapeze_io.specs.Seen.{Seen, Held, OpenFile, OpensOne, OpensAll}
use Rattle.trapeze_io.proofs.Opens.{OpensAll-append, OpensAll-one, OpensAll-faults}
use Rattle.label_lattice.specs.Order.{Order, count, place_of}
use Rattle.policy_toml.specs.Parts.{Parts}
use Rattle.wasm_ast.specs.declared.modules.Module.{Module as Program}
use Rattle.trapeze_cli.specs.declared.shown.Shown.{Shown}
use Rattle.trapeze_cli.specs.declared.status.Status.{Status}
use Rattle.trapeze_cli.specs.declared.status.Status.TheVariants as status
use Rattle.trapeze_cli.specs.declared.status.Input.{Input}
use Rattle.trapeze_cli.specs.declared.status.Input.TheVariants as inputs
use Rattle.trapeze_cli.specs.Command.{AreModules, IsPrepared, Plays, Says, IsTaskUnder, task_under, check_text, shown_in, shown_to}
use Rattle.trapeze_cli.specs.Ends.{IsFileOf, SaysText}
use Rattle.trapeze_cli.specs.Forms.{Form, Check, Play, OnFiles, Show, Run, Trace, View, Source, module_sources, event_sources, sources_of, policy_name}
use Rattle.trapeze_cli.specs.Opens.{names_of, IsLast, OpensTo, IsReachedUnder}
use Rattle.trapeze_cli.specs.Playing.{PlaysFile, IsOfPlay}
use Rattle.trapeze_cli.specs.Promises.{IsRefusedCommand, ReadsAll, ReadsEvents}
use Rattle.trapeze_cli.specs.Runs.{Setting, setting_of}
use Rattle.trapeze_cli.specs.Steps.{FaultsRose, Ends, IsReachedModule}
use Rattle.trapeze_cli.specs.Whys.{why, IfReadFailed}
use Rattle.trapeze_cli.proofs.Refusals.{IfSome-map}
use Rattle.trapeze_cli.proofs.StepsInTurn.{names-append, opens_first, opens_later, last_more}

-- what is shown

only_usage : (place : Option ℕ) (s : Status) → shown_to place ≡ Err s → s ≡ status.Usage
only_usage None s is = cc
only_usage (Some o) s is = absurd (cc)

-- only a label that is none is refused, and only a form that names one
pub usage_only : (labels : List (List ℕ)) (form : Form) (s : Status) → shown_in labels form ≡ Err s → s ≡ status.Usage
usage_only labels (Check name) s is = absurd (cc)
usage_only labels (Play Run name events) s is = absurd (cc)
usage_only labels (Play Trace name events) s is = absurd (cc)
usage_only labels (Play (View label) name events) s is = only_usage (place_of label labels) s is

pub names_label : (labels : List (List ℕ)) (form : Form) (s : Status) → shown_in labels form ≡ Err s → IsRefusedCommand (Some (OnFiles form))
names_label labels (Check name) s is = absurd (cc)
names_label labels (Play Run name events) s is = absurd (cc)
names_label labels (Play Trace name events) s is = absurd (cc)
names_label labels (Play (View label) name events) s is = tt

pub shown_told : (form : Form) (order : Order) (parts : Parts) (result : Result Shown Status) → order ≡ parts.lattice → result ≡ shown_in order.names form → shown_in parts.lattice.names form ≡ result
shown_told form order parts result same is = sym (is ∙ ap (λ (o : Order). shown_in o.names form) same)

-- what was read says a task

module _ (form : Form) (parts : Parts) where
  pub unshown_task : (s : Status) → shown_in parts.lattice.names form ≡ Err s → (h : Held) → IsTaskUnder h form parts (Err s)
  unshown_task s is h = inl is

  ok_of : {X : Type 0} (r : Result X Status) (x : X) → r ≡ Ok x → IsOk r
  ok_of (Ok y) x is = refl
  ok_of (Err s) x is = absurd (cc)

  pub unread_task : (shown : Shown) (s : Status) → shown_in parts.lattice.names form ≡ Ok shown → (h : Held) → AreModules h 0 parts.files (Err s) → IsTaskUnder h form parts (Err s)
  unread_task shown s is h are = inr (ok_of (shown_in parts.lattice.names form) shown is, are)

  pub check_task : (name : List ℕ) (shown : Shown) (modules : List Program) → form ≡ Check name → shown_in parts.lattice.names form ≡ Ok shown → (h : Held) → AreModules h 0 parts.files (Ok modules)
      → IsTaskUnder h form parts (Ok (Says (check_text (count parts.lattice) (length parts.functions) (length parts.channels) (length parts.clients))))
  check_task name shown modules of is h are =
      (record { shown = shown; modules = modules }, (is, are), sym (ap (λ f. task_under f parts (record { shown = shown; modules = modules })) of))

  pub play_task : (show : Show) (name events : List ℕ) (shown : Shown) (modules : List Program) → form ≡ Play show name events → shown_in parts.lattice.names form ≡ Ok shown
      → (h : Held) → AreModules h 0 parts.files (Ok modules) → IsTaskUnder h form parts (Ok (Plays (setting_of parts modules shown) events))
  play_task show name events shown modules of is h are =
      (record { shown = shown; modules = modules }, (is, are), sym (ap (λ f. task_under f parts (record { shown = shown; modules = modules })) of))

  -- the module of a function was reached, or the event file
  pub reached_module : (shown : Shown) (s : Status) → shown_in parts.lattice.names form ≡ Ok shown → (h : Held) (input : Input) → IsReachedModule h parts.files input → IsReachedUnder h form parts input
  reached_module shown s is h input r =
      subst (λ (i : Input). IsReachedUnder h form parts i) (sym r.is_input) (ok_of (shown_in parts.lattice.names form) shown is, r.few, (r.programs, r.before))

  pub reached_events : (shown : Shown) (modules : List Program) (held : Option Held) (s : Status) → shown_in parts.lattice.names form ≡ Ok shown → IfSome held (λ h. AreModules h 0 parts.files (Ok modules)) → IsOfPlay s (why s)
      → IfReadFailed (why s) (λ input. IfSome held (λ h. IsReachedUnder h form parts input))
  reached_events shown modules held s is are of = by s of
    where
      by : (s : Status) → IsOfPlay s (why s) → IfReadFailed (why s) (λ input. IfSome held (λ h. IsReachedUnder h form parts input))
      by (status.ReadFault i) of =
          IfSome-map held (λ h k. subst (λ (x : Input). IsReachedUnder h form parts x) (sym of) (record { shown = shown; modules = modules }, (is, k))) are
      by status.Done of = tt
      by status.Usage of = tt
      by (status.Policy fault) of = tt
      by (status.Module f fault) of = tt
      by (status.Events bad) of = tt
      by status.WriteFault of = tt
      by status.NoMemory of = tt
      by (status.TooLong inputs.Policy) of = tt
      by (status.TooLong (inputs.Module f)) of = tt
      by (status.TooLong inputs.Events) of = tt

-- which files were opened

pub failed_map : {P Q : Input → Type 0} (s : Status) → ((i : Input) → P i → Q i) → IfReadFailed (why s) P → IfReadFailed (why s) Q
failed_map (status.ReadFault i) k p = k i p
failed_map status.Done k p = tt
failed_map status.Usage k p = tt
failed_map (status.Policy fault) k p = tt
failed_map (status.Module f fault) k p = tt
failed_map (status.Events bad) k p = tt
failed_map status.WriteFault k p = tt
failed_map status.NoMemory k p = tt
failed_map (status.TooLong inputs.Policy) k p = tt
failed_map (status.TooLong (inputs.Module f)) k p = tt
failed_map (status.TooLong inputs.Events) k p = tt

-- a read failed after other files were opened
pub counted_later : (names : List (List ℕ)) (old mid new : Seen) (s : Status) → OpensAll names old mid → IfReadFailed (why s) (λ i. FaultsRose mid new) → IfReadFailed (why s) (λ i. FaultsRose old new)
counted_later names old mid new s opens counted =
    failed_map s (λ i k. record { rose = omega (arith, k.rose, OpensAll-faults names old mid opens); marked = k.marked }) counted

policy_source : Form → Source
policy_source form = record { input = inputs.Policy; name = policy_name form }

pub opens_policy : (form : Form) (files : List (List ℕ)) (s : Status) (old new : Seen) → OpensOne old (policy_name form) new → s ≡ status.Usage → OpensTo (sources_of form files) s old new
opens_policy form files s old new one is = record {
  before = [];
  last = record { input = inputs.Policy; name = policy_name form };
  after = module_sources 0 files ++ event_sources form;
  split = refl;
  is_last = subst (λ (x : Status). IsLast x inputs.Policy (module_sources 0 files ++ event_sources form)) (sym is) refl;
  opens = OpensAll-one old new (policy_name form) one;
}

pub opens_modules : {X : Type 0} (form : Form) (files : List (List ℕ)) (step : Held → Result X Status → Type 0) (s : Status) (old mid new : Seen) → OpensOne old (policy_name form) mid
    → Ends (module_sources 0 files) step s mid new → OpensTo (sources_of form files) s old new
opens_modules form files step s old mid new one e =
    opens_first (record { input = inputs.Policy; name = policy_name form } ∷ module_sources 0 files) (event_sources form) s old new
    (opens_later (record { input = inputs.Policy; name = policy_name form } ∷ []) (module_sources 0 files) s old mid new (OpensAll-one old mid (policy_name form) one) e.opens)
    (λ input after is. last_more step mid new s input after (event_sources form) e.refused is)

-- the last of some files
record Lasts (sources : List Source) : Type 0 where
  before : List Source
  last : Source
  split : sources ≡ before ++ last ∷ []

lasts : (source : Source) (sources : List Source) → Lasts (source ∷ sources)
lasts source [] = record { before = []; last = source; split = refl }
lasts source (next ∷ sources) =
    let l = lasts next sources in
    record { before = source ∷ l.before; last = l.last; split = ap (λ ss. source ∷ ss) l.split }

both_opened : (form : Form) (files : List (List ℕ)) (old mid new : Seen) → OpensOne old (policy_name form) mid → OpensAll (names_of (module_sources 0 files)) mid new
    → OpensAll (names_of (record { input = inputs.Policy; name = policy_name form } ∷ module_sources 0 files)) old new
both_opened form files old mid new one all =
    OpensAll-append (policy_name form ∷ []) (names_of (module_sources 0 files)) old mid new (OpensAll-one old mid (policy_name form) one) all

-- all files were opened, of a form without events
pub opens_check : (form : Form) (name : List ℕ) (files : List (List ℕ)) (s : Status) (old mid new : Seen) → form ≡ Check name → (s ≡ status.Done) ⊎ (s ≡ status.WriteFault)
    → OpensOne old (policy_name form) mid → OpensAll (names_of (module_sources 0 files)) mid new → OpensTo (sources_of form files) s old new
opens_check form name files s old mid new of ends one all =
    let first : Source = record { input = inputs.Policy; name = policy_name form } in
    let l = lasts first (module_sources 0 files) in
    let none : event_sources form ≡ [] = ap event_sources of in
    record {
      before = l.before;
      last = l.last;
      after = [];
      split = ap (λ ss. (first ∷ module_sources 0 files) ++ ss) none ∙ append-nil (first ∷ module_sources 0 files) ∙ l.split;
      is_last = by s ends l.last.input;
      opens = subst (λ ss. OpensAll (names_of ss) old new) l.split (both_opened form files old mid new one all);
    }
  where
    by : (s : Status) → (s ≡ status.Done) ⊎ (s ≡ status.WriteFault) → (i : Input) → IsLast s i []
    by s (inl is) i = subst (λ (x : Status). IsLast x i []) (sym is) refl
    by s (inr is) i = subst (λ (x : Status). IsLast x i []) (sym is) refl

pub said_ends : (said : List ℕ) (s : Status) (old new : Option (List ℕ)) (before now : ℕ) → SaysText said s old new before now → (s ≡ status.Done) ⊎ (s ≡ status.WriteFault)
said_ends said s old new before now (inl p) = inl p.0
said_ends said s old new before now (inr p) = inr p.0

-- and of one with events
pub opens_play : (form : Form) (show : Show) (name events : List ℕ) (files : List (List ℕ)) (s : Status) (old first mid new : Seen) → form ≡ Play show name events → IsOfPlay s (why s)
    → OpensOne old (policy_name form) first → OpensAll (names_of (module_sources 0 files)) first mid → OpensOne mid events new → OpensTo (sources_of form files) s old new
opens_play form show name events files s old first mid new of play one all last =
    let before : List Source = record { input = inputs.Policy; name = policy_name form } ∷ module_sources 0 files in
    let source : Source = record { input = inputs.Events; name = events } in
    record {
      before = before;
      last = source;
      after = [];
      split = ap (λ f. before ++ event_sources f) of;
      is_last = by s play;
      opens = subst (λ names. OpensAll names old new) (sym (names-append before (source ∷ [])))
          (OpensAll-append (names_of before) (events ∷ []) old mid new (both_opened form files old first mid one all) (OpensAll-one mid new events last));
    }
  where
    by : (s : Status) → IsOfPlay s (why s) → IsLast s inputs.Events []
    by status.Done play = refl
    by (status.Events bad) play = refl
    by (status.ReadFault i) play = sym play
    by status.WriteFault play = refl
    by status.NoMemory play = tt
    by (status.TooLong inputs.Events) play = refl
    by (status.TooLong inputs.Policy) play = absurd play
    by (status.TooLong (inputs.Module f)) play = absurd play
    by status.Usage play = absurd play
    by (status.Policy fault) play = absurd play
    by (status.Module f fault) play = absurd play

-- the last file of the functions is one of them
module_last : (files : List (List ℕ)) (f : ℕ) (before after : List Source) (last : Source) → module_sources f files ≡ before ++ last ∷ after → (k : ℕ) × (last.input ≡ inputs.Module k)
module_last [] f [] after last split = absurd (cc)
module_last [] f (b ∷ before) after last split = absurd (cc)
module_last (name ∷ files) f [] after last split = let same : record { input = inputs.Module f; name = name } ≡ last = cc in (f, ap (λ (s : Source). s.input) (sym same))
module_last (name ∷ files) f (b ∷ before) after last split = let rest : module_sources (f + 1) files ≡ before ++ last ∷ after = cc in module_last files (f + 1) before after last rest

-- so no other input ends the reading of them
pub no_events : (files : List (List ℕ)) (s : Status) (old new : Seen) → OpensTo (module_sources 0 files) s old new → ¬ (s ≡ status.ReadFault inputs.Events)
no_events files s old new opens is =
    let m = module_last files 0 opens.before opens.after opens.last opens.split in
    let last : opens.last.input ≡ inputs.Events = subst (λ (x : Status). IsLast x opens.last.input opens.after) is opens.is_last in
    other (sym m.1 ∙ last)
  where
    other : {k : ℕ} → ¬ (inputs.Module k ≡ inputs.Events)
    other e = cc

pub no_usage : (files : List (List ℕ)) (s : Status) (old new : Seen) → OpensTo (module_sources 0 files) s old new → ¬ (s ≡ status.Usage)
no_usage files s old new opens is =
    let m = module_last files 0 opens.before opens.after opens.last opens.split in
    let last : opens.last.input ≡ inputs.Policy = subst (λ (x : Status). IsLast x opens.last.input opens.after) is opens.is_last in
    other (sym m.1 ∙ last)
  where
    other : {k : ℕ} → ¬ (inputs.Module k ≡ inputs.Policy)
    other e = cc

-- the event file was read to its end

pub reads_all : (g : Setting) (held : Option Held) (name : List ℕ) (current : Option OpenFile) (s : Status) (old new : Option (List ℕ)) → s ≡ status.Done
    → IfSome current (λ r. PlaysFile g r s old new) → IsFileOf held name current s → ReadsAll held name current
reads_all g held name None s old new is a f = tt
reads_all g None name (Some r) s old new is a f = (a.ended is, tt)
reads_all g (Some h) name (Some r) s old new is a (inl file) =
    let none : r.rest ≡ [] = a.ended is in
    (none, file ∙ ap Some (ap (λ b. r.given ++ b) none ∙ append-nil r.given))
reads_all g (Some h) name (Some r) s old new is a (inr fault) = absurd (other (sym is ∙ fault))
  where
    other : ¬ (status.Done ≡ status.ReadFault inputs.Events)
    other e = cc

pub read_events : (form : Form) (show : Show) (name events : List ℕ) (held : Option Held) (current : Option OpenFile) → form ≡ Play show name events → ReadsAll held events current
    → ReadsEvents (Some form) held current
read_events form show name events held current of all = subst (λ (f : Form). ReadsEvents (Some f) held current) (sym of) all

-- the file is held under its name still
pub file_later : (old mid : Option Held) (name : List ℕ) (current : Option OpenFile) (s : Status) → mid ≡ old → IsFileOf mid name current s → IsFileOf old name current s
file_later old mid name current s same f = subst (λ (o : Option Held). IsFileOf o name current s) same f
