-- Two ways to the same turn: a stint by runs of several units, and a turn whose activation has another one in its place.
use Rattle.std.specs.Prelude.{◌≡◌, ℕ, ◌-◌, ◌<◌, List, ◌∷◌, length, drop}
use Rattle.wasm_ast.specs.declared.modules.Module.{Module}
use Rattle.wasm_semantics.specs.Threads.{Thread}
use Rattle.wasm_semantics.specs.Units.{units}
use Rattle.host_rules.specs.Guests.{OneUnit, Goes, Calls, Done, Traps, Guest}
use Rattle.host_rules.specs.Modules.{unit_of, module_at, guest_of}
use Rattle.host_rules.specs.Rules.{Rules, limits_at}
use Rattle.host_rules.specs.States.{Activation, State, set_at}
use Rattle.host_rules.specs.Calls.{shim}
use Rattle.host_rules.specs.Turns.{Ended, Trapped, Spent, Stint, stops, after_call, stint, run}

-- what comes after a run that stopped so and leaves so many units: after a host call the stint goes on with these
abbrev pub after_run : {T : Type 0} → Rules → Guest T → ℕ → Activation T → ℕ → OneUnit T → State T → Stint T
after_run P M c a left (Goes t) s = stops s (Spent t)
after_run P M c a left (Calls asked t) s = after_call P c a s (λ t s. stint P M c a left t s) (shim P M c a s.store asked t)
after_run P M c a left Done s = stops s Ended
after_run P M c a left (Traps cause) s = stops s (Trapped cause)

-- a stint of n units is what comes after the run of at most n units of the engine
abbrev pub GoesByRuns : Type 0
GoesByRuns = (P : Rules) (modules : List Module) (c n : ℕ) (a : Activation Thread) (t : Thread) (s : State Thread) →
    let r = units (module_at modules a.function) (limits_at P c).pages t n in
    stint P (guest_of modules) c a n t s ≡ after_run P (guest_of modules) c a (n - r.used) (unit_of r.stop) s

-- another activation in the place of the front of a label's list
abbrev pub with_front : {T : Type 0} → State T → ℕ → Activation T → State T
with_front s c x = record s { lists = set_at s.lists c (x ∷ drop 1 (s.lists c)) }

-- what stands in the place of the running activation changes nothing
abbrev pub IsIndifferent : {T : Type 0} → Rules → Guest T → Type 0
IsIndifferent {T} P M = (c number : ℕ) (a x : Activation T) (t : T) (s : State T) → 0 < length (s.lists c) →
    run P M c number a t s ≡ run P M c number a t (with_front s c x)
