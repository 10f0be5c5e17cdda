-- The host call that a run waits in, by what was performed.
use Rattle.std.proofs.Common.{◌≡◌, ℕ, List, Option, sym, subst}
use Rattle.policy_toml.specs.Parts.{Parts}
use Rattle.label_lattice.specs.declared.label.Label.{Label}
use Rattle.facet_list.specs.Rows.{Rows, rows_of}
use Rattle.trapeze_lines.specs.declared.line.Line.{Line}
use Rattle.trapeze_lines.specs.declared.outcome.Cause.{Cause}
use Rattle.wasm_ast.specs.declared.modules.Module.{Module}
use Rattle.wasm_semantics.specs.Threads.{Thread}
use Rattle.sandbox.specs.declared.sandboxes.Sandbox.{Sandbox}
use Rattle.sandbox.specs.declared.suspended.Suspended.{Suspended}
use Rattle.sandbox.specs.Threads.{thread_of, waiting, asked_of, IsWaiting}
use Rattle.shim_calls.specs.declared.effect.ShimTrap.{ShimTrap}
use Rattle.shim_calls.specs.declared.effect.Effect.{Effect}
use Rattle.shim_calls.specs.declared.effect.Performed.{Performed}
use Rattle.shim_calls.specs.declared.effect.Performed.TheVariants as performed
use Rattle.shim_calls.specs.Performing.{asked_in, cause_of_call, Performs}
use Rattle.host_rules.specs.Policies.{rules_of}
use Rattle.host_rules.specs.Modules.{guest_of}
use Rattle.host_rules.specs.States.{Activation, State}
use Rattle.host_rules.specs.Calls.{Called, shim}
use Rattle.host_rules.specs.Turns.{Trapped, Raised, Stint}
use Rattle.trapeze_host.specs.declared.kept.Kept.{Kept}
use Rattle.trapeze_host.specs.declared.runs.Run.{Run}
use Rattle.trapeze_host.specs.Adding.{AddsPart}
use Rattle.trapeze_host.specs.Loans.{Loan, rules_in, guest_in, module_in}
use Rattle.trapeze_host.specs.Keeping.{Keeps, Made, IsWritten}
use Rattle.trapeze_host.specs.Turning.{run_of, run_makes, run_calls, Owes, ends_so}
use Rattle.trapeze_host.proofs.Stints.{written, resumed, resumed_part, raised_so, trapped_so}

module _ {F : Type 0} (rows : F → Rows) (loan : Loan) (k : Kept F) (facets : F) (r : Run) (suspended : Suspended) (before : Option Thread) (rest : Thread → State Thread → Stint Thread)
    (s : State Thread) (keeps : Keeps rows loan k s) (done : Performed) (parts : Parts) (input : List ℕ) (policy_is : parts ≡ loan.policy) (input_is : input ≡ r.input) (waits : IsWaiting (module_in loan r.function) suspended)
    (performs : (m : Module) (modules : List Module) (a : Activation Thread) (s : State Thread) → IsWaiting m suspended → a.input ≡ input → rows k.facets ≡ rows_of s.store
    → Performs (rules_of parts) m r.at.number a s (shim (rules_of parts) (guest_of modules) r.at.number a s.store (asked_in (asked_of suspended)) (waiting m suspended)) (rows facets) done) where
  abbrev called : Called Thread
  called = shim (rules_in loan) (guest_in loan) r.at.number (run_of before r) s.store (asked_in (asked_of suspended)) (waiting (module_in loan r.function) suspended)

  abbrev PerformsHere : Performed → Type 0
  PerformsHere done = Performs (rules_in loan) (module_in loan r.function) r.at.number (run_of before r) s called (rows facets) done

  here : PerformsHere done
  here = subst (λ (p : Parts). Performs (rules_of p) (module_in loan r.function) r.at.number (run_of before r) s
      (shim (rules_of p) (guest_in loan) r.at.number (run_of before r) s.store (asked_in (asked_of suspended)) (waiting (module_in loan r.function) suspended)) (rows facets) done) policy_is
      (performs (module_in loan r.function) loan.modules (run_of before r) s waits (sym input_is) keeps.store)

  -- the store has the call's write, and all else is as it was
  abbrev pub after_write : Kept F
  after_write = record k { facets = facets }

  pub call_goes_on : (next : Sandbox) (effect : Option Effect) → done ≡ performed.Resume next effect → (j : Kept F) (lines after : List Line)
      → ((before : Option Thread) (s : State Thread) → IsWritten rows loan after_write s (run_makes loan r before effect s) → Made rows loan (run_makes loan r before effect s) j lines after)
      → Owes rows loan (run_calls loan r before suspended rest s) j lines after (rest (thread_of (module_in loan r.function) next))
  call_goes_on next effect e j lines after follows =
      let p = subst PerformsHere e here in
      resumed rows loan k facets (rules_in loan) (module_in loan r.function) r.at.number (run_of before r) s keeps called rest next effect p j lines after
      (follows before s (written rows loan k facets (rules_in loan) (module_in loan r.function) r.at.number (run_of before r) s keeps called rest next effect p))

  pub call_makes_part : (next : Sandbox) (effect : Option Effect) → done ≡ performed.Resume next effect → (lines after : List Line)
      → ((before : Option Thread) (s : State Thread) → IsWritten rows loan after_write s (run_makes loan r before effect s) → AddsPart (run_makes loan r before effect s).lines lines after)
      → AddsPart (run_calls loan r before suspended rest s).moved.lines lines after
  call_makes_part next effect e lines after follows =
      let p = subst PerformsHere e here in
      resumed_part rows loan k facets (rules_in loan) (module_in loan r.function) r.at.number (run_of before r) s keeps called rest next effect p lines after
      (follows before s (written rows loan k facets (rules_in loan) (module_in loan r.function) r.at.number (run_of before r) s keeps called rest next effect p))

  pub call_raises : (next : Sandbox) (label : Label) → done ≡ performed.Raise next label → (lines : List Line)
      → Owes rows loan (run_calls loan r before suspended rest s) after_write lines lines (ends_so (Raised label.number (thread_of (module_in loan r.function) next)))
  call_raises next label e lines =
      let p = subst PerformsHere e here in
      raised_so rows loan k facets (rules_in loan) (module_in loan r.function) r.at.number (run_of before r) s keeps called rest label.number (thread_of (module_in loan r.function) next) lines p.0 p.1

  pub call_traps : (trap : ShimTrap) → done ≡ performed.Trapped trap → (cause : Cause) → cause ≡ cause_of_call trap → (lines : List Line)
      → Owes rows loan (run_calls loan r before suspended rest s) after_write lines lines (ends_so (Trapped cause))
  call_traps trap e cause is lines =
      let p = subst PerformsHere e here in
      subst (λ (cause : Cause). Owes rows loan (run_calls loan r before suspended rest s) after_write lines lines (ends_so (Trapped cause))) (sym is)
      (trapped_so rows loan k facets (rules_in loan) (module_in loan r.function) r.at.number (run_of before r) s keeps called rest (cause_of_call trap) lines p.0 p.1)
