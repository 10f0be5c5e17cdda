-- A stint goes by runs.
use Rattle.std.proofs.Common.{◌≡◌, ℕ, zero, suc, ◌+◌, ◌-◌, List, refl, sym, ◌∙◌, ap, arith}
use Rattle.wasm_ast.specs.declared.modules.Module.{Module}
use Rattle.wasm_semantics.specs.Threads.{Thread, Outcome}
use Rattle.wasm_semantics.specs.Threads as outcome
use Rattle.wasm_semantics.specs.Units as engine
use Rattle.wasm_semantics.specs.Units.{unit, units, units_from}
use Rattle.host_rules.specs.Modules.{unit_of, module_at, guest_of}
use Rattle.host_rules.specs.Rules.{Rules, limits_at}
use Rattle.host_rules.specs.States.{Activation, State}
use Rattle.host_rules.specs.Calls.{shim}
use Rattle.host_rules.specs.Turns.{Stint, after_call, after_unit, stint}
use Rattle.host_rules.specs.Bridges.{after_run, GoesByRuns}

module _ (P : Rules) (modules : List Module) (c : ℕ) (a : Activation Thread) where
  from_here : ℕ → ℕ → ℕ → Thread → State Thread → Stint Thread
  from_here n used k t s =
      let r = units_from (module_at modules a.function) (limits_at P c).pages used k t in
      after_run P (guest_of modules) c a (n - r.used) (unit_of r.stop) s

  -- after so many units of n, with k left
  goes_from : (k used n : ℕ) → n ≡ used + k → (t : Thread) (s : State Thread) → stint P (guest_of modules) c a k t s ≡ from_here n used k t s
  unfolding from_here
  goes_from zero used n e t s = refl
  goes_from (suc k) used n e t s = after (unit (module_at modules a.function) (limits_at P c).pages t) (λ t s. goes_from k (used + 1) n (e ∙ omega arith) t s)
    where
      left : n - (used + 1) ≡ k
      left = omega arith

      after : (o : Outcome) → ((t : Thread) (s : State Thread) → stint P (guest_of modules) c a k t s ≡ from_here n (used + 1) k t s)
          → after_unit P (guest_of modules) c a s (λ t s. stint P (guest_of modules) c a k t s) (unit_of o)
          ≡ (let r = engine.after_unit o (used + 1) (units_from (module_at modules a.function) (limits_at P c).pages (used + 1) k) in
          after_run P (guest_of modules) c a (n - r.used) (unit_of r.stop) s)
      after (outcome.Goes t) hyp = hyp t s
      after (outcome.Calls name args t) hyp = ap (λ k. after_call P c a s (λ t s. stint P (guest_of modules) c a k t s) (shim P (guest_of modules) c a s.store (record { name = name; args = args }) t)) (sym left)
      after outcome.Done hyp = refl
      after (outcome.Trapped trap) hyp = refl
      after outcome.Stuck hyp = refl

pub goes_by_runs : GoesByRuns
unfolding from_here units
goes_by_runs P modules c n a t s = goes_from P modules c a n 0 n (omega arith) t s
