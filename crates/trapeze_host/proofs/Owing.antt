-- A stint of which a part is done, by how the engine's run ended.
use Rattle.std.proofs.Common.{◌≡◌, ℕ, ◌-◌, List, Option, refl, sym, subst}
use Rattle.std.specs.Prelude.{Result, Ok}
use Rattle.trapeze_io.specs.declared.failures.NoMemory.{NoMemory}
use Rattle.label_limits.specs.declared.limits.Limits.{Limits}
use Rattle.facet_list.specs.Rows.{Rows}
use Rattle.trapeze_lines.specs.declared.line.Line.{Line}
use Rattle.trapeze_lines.specs.declared.outcome.Cause.{Cause}
use Rattle.wasm_ast.specs.declared.modules.Module.{Module}
use Rattle.wasm_semantics.specs.declared.traps.Trap.{Trap}
use Rattle.wasm_semantics.specs.Threads.{Thread}
use Rattle.wasm_semantics.specs.Units.{units}
use Rattle.sandbox.specs.declared.sandboxes.Sandbox.{Sandbox}
use Rattle.sandbox.specs.declared.suspended.Suspended.{Suspended}
use Rattle.sandbox.specs.declared.going.Going.{Going}
use Rattle.sandbox.specs.declared.going.Going.TheVariants as going
use Rattle.sandbox.specs.Threads.{thread_of}
use Rattle.sandbox.specs.Going.{EndsAs}
use Rattle.host_rules.specs.Rules.{limits_at}
use Rattle.host_rules.specs.States.{State}
use Rattle.host_rules.specs.Modules.{cause_of}
use Rattle.host_rules.specs.Turns.{End, Ended, Trapped, Spent, Stint, stops, stint}
use Rattle.host_rules.specs.Bridges.{GoesByRuns}
use Rattle.trapeze_host.specs.declared.kept.Kept.{Kept}
use Rattle.trapeze_host.specs.declared.runs.Run.{Run}
use Rattle.trapeze_host.specs.declared.runs.Ending.{Ending}
use Rattle.trapeze_host.specs.declared.runs.Reached.{Reached}
use Rattle.trapeze_host.specs.declared.runs.Reached.TheVariants as reached
use Rattle.trapeze_host.specs.Adding.{AddsPart}
use Rattle.trapeze_host.specs.Loans.{Loan, rules_in, guest_in, module_in}
use Rattle.trapeze_host.specs.Keeping.{Keeps}
use Rattle.trapeze_host.specs.Turning.{run_of, run_calls, run_stint, end_of, ends_so, Owes, LeadsOn}
use Rattle.trapeze_host.proofs.Keeping.{no_part}
use Rattle.trapeze_host.proofs.Stints.{owes_then, owes_part, owes_end}
use Rattle.trapeze_host.proofs.EngineRuns.{here_spent, here_done, here_trapped, here_asks}

-- of a stint of so many units a part is done, and the engine has run once more
module _ {F : Type 0} (rows : F → Rows) (law : GoesByRuns) (loan : Loan) (r : Run) (before : Option Thread) (first : Sandbox) (s : State Thread) (k : Kept F) (lines between : List Line) (whole given : ℕ) (whole_is : whole ≡ given)
    (left used : ℕ) (limits : Limits) (program : Module) (sandbox : Sandbox) (how : Going) (own : program ≡ module_in loan r.function) (limit : limits ≡ limits_at (rules_in loan) r.at.number)
    (ends : EndsAs program (units program limits.pages (thread_of program sandbox) left) used how) (o : Owes rows loan (run_stint loan r before whole first s) k lines between (run_stint loan r before left sandbox)) where
  stopped : (end : End Thread) → run_stint loan r before left sandbox o.done.state ≡ stops o.done.state end → Owes rows loan (run_stint loan r before given first s) k lines between (ends_so end)
  stopped end e = subst (λ (n : ℕ). Owes rows loan (run_stint loan r before n first s) k lines between (ends_so end)) whole_is
      (owes_then rows loan (run_stint loan r before whole first s) (stops o.done.state end) k k lines between between (run_stint loan r before left sandbox) (ends_so end) o e (owes_end rows loan k o.done.state between end o.keeps))

  pub stops_spent : (next : Sandbox) → how ≡ going.Spent next → Owes rows loan (run_stint loan r before given first s) k lines between (ends_so (Spent (thread_of (module_in loan r.function) next)))
  stops_spent next e = stopped (Spent (thread_of (module_in loan r.function) next)) (here_spent law loan r before left used limits program sandbox how own limit ends o.done.state next e)

  pub stops_done : how ≡ going.Done → Owes rows loan (run_stint loan r before given first s) k lines between (ends_so Ended)
  stops_done e = stopped Ended (here_done law loan r before left used limits program sandbox how own limit ends o.done.state e)

  pub stops_trapped : (trap : Trap) → how ≡ going.Trapped trap → (cause : Cause) → cause ≡ cause_of trap → Owes rows loan (run_stint loan r before given first s) k lines between (ends_so (Trapped cause))
  stops_trapped trap e cause is = subst (λ (cause : Cause). Owes rows loan (run_stint loan r before given first s) k lines between (ends_so (Trapped cause))) (sym is)
      (stopped (Trapped (cause_of trap)) (here_trapped law loan r before left used limits program sandbox how own limit ends o.done.state trap e))

  -- the engine is out of memory
  pub stops_short : AddsPart (run_stint loan r before given first s).moved.lines lines between
  stops_short = subst (λ (n : ℕ). AddsPart (run_stint loan r before n first s).moved.lines lines between) whole_is
      (owes_part rows loan (run_stint loan r before whole first s) (run_stint loan r before left sandbox o.done.state) k lines between between (run_stint loan r before left sandbox) o refl
      (no_part (run_stint loan r before left sandbox o.done.state).moved.lines between))

  module _ (suspended : Suspended) (asks : how ≡ going.Asks suspended) where
    abbrev rest : Thread → State Thread → Stint Thread
    rest t s = stint (rules_in loan) (guest_in loan) r.at.number (run_of before r) (left - used) t s

    abbrev calls : Stint Thread
    calls = run_calls loan r before suspended rest o.done.state

    asked : run_stint loan r before left sandbox o.done.state ≡ calls
    asked = here_asks law loan r before left used limits program sandbox how own limit ends o.done.state suspended asks

    -- what the call came to
    abbrev pub Came : Kept F → List Line → Result Reached NoMemory → Type 0
    Came j after result = (before : Option Thread) (rest : Thread → State Thread → Stint Thread) (s : State Thread) → Keeps rows loan k s
        → LeadsOn rows loan (module_in loan r.function) rest (run_calls loan r before suspended rest s) j between after result

    came : (j : Kept F) (after : List Line) (x y : Reached) → x ≡ y → Came j after (Ok x) → LeadsOn rows loan (module_in loan r.function) rest calls j between after (Ok y)
    came j after x y e h = subst (λ (y : Reached). LeadsOn rows loan (module_in loan r.function) rest calls j between after (Ok y)) e (h before rest o.done.state o.keeps)

    pub asks_goes : (j : Kept F) (after : List Line) (x : Reached) (next : Sandbox) → x ≡ reached.Goes next → Came j after (Ok x)
        → Owes rows loan (run_stint loan r before whole first s) j lines after (run_stint loan r before (left - used) next)
    asks_goes j after x next e h = owes_then rows loan (run_stint loan r before whole first s) calls k j lines between after (run_stint loan r before left sandbox) (rest (thread_of (module_in loan r.function) next)) o asked
        (came j after x (reached.Goes next) e h)

    pub asks_ends : (j : Kept F) (after : List Line) (x : Reached) (end : Ending) → x ≡ reached.Ends end → Came j after (Ok x)
        → Owes rows loan (run_stint loan r before given first s) j lines after (ends_so (end_of (module_in loan r.function) end))
    asks_ends j after x end e h = subst (λ (n : ℕ). Owes rows loan (run_stint loan r before n first s) j lines after (ends_so (end_of (module_in loan r.function) end))) whole_is
        (owes_then rows loan (run_stint loan r before whole first s) calls k j lines between after (run_stint loan r before left sandbox) (ends_so (end_of (module_in loan r.function) end)) o asked
        (came j after x (reached.Ends end) e h))

    -- out of memory in the call
    pub asks_short : (after : List Line) → ((before : Option Thread) (rest : Thread → State Thread → Stint Thread) (s : State Thread) → Keeps rows loan k s → AddsPart (run_calls loan r before suspended rest s).moved.lines between after)
        → AddsPart (run_stint loan r before given first s).moved.lines lines after
    asks_short after h = subst (λ (n : ℕ). AddsPart (run_stint loan r before n first s).moved.lines lines after) whole_is
        (owes_part rows loan (run_stint loan r before whole first s) calls k lines between after (run_stint loan r before left sandbox) o asked (h before rest o.done.state o.keeps))
