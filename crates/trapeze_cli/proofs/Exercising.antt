-- Events that are played one after the other, and their lines counted.
use Rattle.std.proofs.Common.{◌≡◌, ℕ, ◌+◌, List, [], ◌∷◌, ◌++◌, Result, Ok, Err, IfOk, refl, sym, ap, subst, ◌∙◌, append-nil, append_assoc, arith}
use Rattle.std.proofs.lemmas.List.{map-append}
use Rattle.std.proofs.lemmas.List.FromFn.{map-range_with_len_more}
use Rattle.trapeze_io.specs.declared.failures.NoMemory.{NoMemory}
use Rattle.wasm_ast.specs.declared.modules.Module.{Module}
use Rattle.wasm_semantics.specs.Threads.{Thread}
use Rattle.policy_toml.specs.Parts.{Parts}
use Rattle.event_file.specs.declared.entry.Event.{Event}
use Rattle.trapeze_lines.specs.declared.line.Line.{Line}
use Rattle.host_rules.specs.Rules.{Rules}
use Rattle.host_rules.specs.Guests.{Guest}
use Rattle.host_rules.specs.Modules.{guest_of}
use Rattle.host_rules.specs.Policies.{rules_of}
use Rattle.host_rules.specs.States.{State, Happens, start}
use Rattle.host_rules.specs.Stores.{facet_lines}
use Rattle.host_rules.specs.Play.{step, play, trace, whole, items_of}
use Rattle.host_rules.proofs.SameToObserver.{play_append}
use Rattle.trapeze_exercise.specs.BuiltIn.{built_in, built_in_modules}
use Rattle.trapeze_exercise.specs.Generated.{generated, first_generated, all_generated}
use Rattle.trapeze_cli.specs.declared.counts.Counts.{Counts}
use Rattle.trapeze_cli.specs.Counts.{counts_of}
use Rattle.trapeze_cli.specs.Counted.{TakesIn, Counted}
use Rattle.trapeze_cli.specs.Exercise.{exercise_lines}
use Rattle.trapeze_lines.specs.Lines.{run_kinds}
use Rattle.trapeze_cli.proofs.Counting.{counts_run}

-- lines that were given from an empty list
pub takes_given : (empty lines told : List Line) (old new : Counts) → empty ≡ [] → lines ≡ empty ++ told → TakesIn lines old new → TakesIn told old new
takes_given empty lines told old new none is takes = subst (λ ls. TakesIn ls old new) (is ∙ ap (λ ls. ls ++ told) none) takes

module _ (P : Rules) (M : Guest Thread) where
  -- no events
  pub counted_none : (before : State Thread → Type 0) (c : Counts) → Counted P M before before [] c c
  counted_none before c = record { stands = λ s is. is; counts = λ s is lines e. e ∙ ap counts_of (sym (append-nil lines)) }

  -- one event, whose lines were counted
  pub counted_one : (before now : State Thread → Type 0) (event : Event) (empty lines : List Line) (old new : Counts) → empty ≡ []
      → ((s : State Thread) → before s → now (step P M s (Happens event)).state) → ((s : State Thread) → before s → lines ≡ empty ++ (step P M s (Happens event)).lines)
      → TakesIn lines old new → Counted P M before now (event ∷ []) old new
  counted_one before now event empty lines old new none stands gave takes = record {
    stands = stands;
    counts = λ s is. subst (λ ls. TakesIn ls old new) (sym (append-nil (step P M s (Happens event)).lines))
        (takes_given empty lines (step P M s (Happens event)).lines old new none (gave s is) takes);
  }

  -- some events, and then others
  pub counted_both : (before mid now : State Thread → Type 0) (first second : List Event) (old between new : Counts)
      → Counted P M before mid first old between → Counted P M mid now second between new → Counted P M before now (first ++ second) old new
  counted_both before mid now first second old between new p q = record {
    stands = λ s is. subst now (sym (state_both s)) (q.stands (play P M s (items_of first)).state (p.stands s is));
    counts = λ s is lines e.
        q.counts (play P M s (items_of first)).state (p.stands s is) (lines ++ trace P M s (items_of first)) (p.counts s is lines e)
        ∙ ap counts_of (append_assoc lines (trace P M s (items_of first)) (trace P M (play P M s (items_of first)).state (items_of second)) ∙ ap (λ ls. lines ++ ls) (sym (trace_both s)));
  }
    where
      state_both : (s : State Thread) → (play P M s (items_of (first ++ second))).state ≡ (play P M (play P M s (items_of first)).state (items_of second)).state
      state_both s = ap (λ items. (play P M s items).state) (map-append Happens first second) ∙ ap (λ m. m.state) (play_append P 0 M (items_of first) (items_of second) s)

      trace_both : (s : State Thread) → trace P M s (items_of (first ++ second)) ≡ trace P M s (items_of first) ++ trace P M (play P M s (items_of first)).state (items_of second)
      trace_both s = ap (λ items. trace P M s items) (map-append Happens first second) ∙ ap (λ m. m.lines) (play_append P 0 M (items_of first) (items_of second) s)

  -- from the start, and the facets in the end
  pub counted_whole : (before now : State Thread → Type 0) (events : List Event) (none all whole_counts : Counts) → before (start []) → none ≡ counts_of []
      → Counted P M before now events none all → ((s : State Thread) → now s → TakesIn (facet_lines s.store) all whole_counts)
      → whole_counts ≡ counts_of (whole P M (start []) (items_of events))
  counted_whole before now events none all whole_counts starts empty p facets =
      facets (play P M (start []) (items_of events)).state (p.stands (start []) starts) (trace P M (start []) (items_of events)) (p.counts (start []) starts [] empty)

-- the events of the exercise, as far as they were made
pub first_none : (number : ℕ) → first_generated number 0 ≡ []
unfolding first_generated
first_none number = refl

pub first_more : (number i : ℕ) → first_generated number (i + 1) ≡ first_generated number i ++ generated number i ∷ []
unfolding first_generated
first_more number i = map-range_with_len_more (generated number) 0 i i (omega arith)

module _ (P : Rules) (M : Guest Thread) (number : ℕ) where
  pub generated_none : (before : State Thread → Type 0) (c : Counts) → Counted P M before before (first_generated number 0) c c
  generated_none before c = subst (λ (es : List Event). Counted P M before before es c c) (sym (first_none number)) (counted_none P M before c)

  pub generated_more : (before mid now : State Thread → Type 0) (i : ℕ) (event : Event) (old between new : Counts) → event ≡ generated number i
      → Counted P M before mid (first_generated number i) old between → Counted P M mid now (event ∷ []) between new
      → Counted P M before now (first_generated number (i + 1)) old new
  generated_more before mid now i event old between new is p q =
      subst (λ (es : List Event). Counted P M before now es old new) (ap (λ e. first_generated number i ++ e ∷ []) is ∙ sym (first_more number i))
      (counted_both P M before mid now (first_generated number i) (event ∷ []) old between new p q)

-- the lines of a policy and modules that are those of the exercise
exercise_lines_are : (number : ℕ)
    → exercise_lines number ≡ run_kinds (whole (rules_of built_in) (guest_of built_in_modules) (start []) (items_of (all_generated number)))
unfolding exercise_lines
exercise_lines_are number = refl

exercised : (number : ℕ) (policy : Parts) (modules : List Module) (counts : Counts) → policy ≡ built_in → modules ≡ built_in_modules
    → counts ≡ counts_of (whole (rules_of policy) (guest_of modules) (start []) (items_of (all_generated number))) → counts ≡ counts_of (exercise_lines number)
exercised number policy modules counts policy_is modules_are is =
    is ∙ ap (λ (p : Parts). counts_of (whole (rules_of p) (guest_of modules) (start []) (items_of (all_generated number)))) policy_is
    ∙ ap (λ (ms : List Module). counts_of (whole (rules_of built_in) (guest_of ms) (start []) (items_of (all_generated number)))) modules_are
    ∙ sym (counts_run (whole (rules_of built_in) (guest_of built_in_modules) (start []) (items_of (all_generated number))))
    ∙ ap counts_of (sym (exercise_lines_are number))

pub exercised_ok : (number : ℕ) (policy : Parts) (modules : List Module) (result : Result Counts NoMemory) → policy ≡ built_in → modules ≡ built_in_modules
    → IfOk result (λ counts. counts ≡ counts_of (whole (rules_of policy) (guest_of modules) (start []) (items_of (all_generated number))))
    → IfOk result (λ counts. counts ≡ counts_of (exercise_lines number))
exercised_ok number policy modules (Ok counts) policy_is modules_are is = exercised number policy modules counts policy_is modules_are is
exercised_ok number policy modules (Err refused) policy_is modules_are is = tt
