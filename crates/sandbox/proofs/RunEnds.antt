-- What a run of a machine came to, of the sandbox.
use Rattle.std.proofs.Common.{◌≡◌, ℕ, sym, subst}
use Rattle.wasm_ast.specs.declared.modules.Module.{Module}
use Rattle.wasm_semantics.specs.declared.traps.Trap.{Trap}
use Rattle.wasm_semantics.specs.Units.{Course}
use Rattle.wasm_exec.specs.declared.machine.Machine.{Machine}
use Rattle.wasm_exec.specs.declared.stops.Asked.{Asked}
use Rattle.wasm_exec.specs.declared.stops.Stop.{Stop}
use Rattle.wasm_exec.specs.declared.stops.Stop.TheVariants as stop
use Rattle.wasm_exec.specs.Machines.{StopsAs}
use Rattle.sandbox.specs.declared.going.Going.{Going}
use Rattle.sandbox.specs.declared.going.Going.TheVariants as going
use Rattle.sandbox.specs.Threads.{thread_of, IsReady, waiting, IsWaiting, asked_of}
use Rattle.sandbox.specs.Going.{Asks, EndsAs}

-- the same stop, as the sandbox tells it
abbrev Told : Module → Course → ℕ → Stop → Machine → Going → Stop → Type 0
Told m course used why x went is = StopsAs m course used why x → why ≡ is → (g : Going) → g ≡ went → EndsAs m course used g

by_parts : (m : Module) (course : Course) (used : ℕ) (went g : Going) → EndsAs m course used went → g ≡ went → EndsAs m course used g
by_parts m course used went g e same = subst (EndsAs m course used) (sym same) e

pub spent : (m : Module) (course : Course) (used : ℕ) (why : Stop) (x : Machine) → Told m course used why x (going.Spent (record { machine = x })) stop.Spent
unfolding thread_of IsReady
spent m course used why x s e g same = by_parts m course used (going.Spent (record { machine = x })) g (subst (λ w. StopsAs m course used w x) e s) same

pub done : (m : Module) (course : Course) (used : ℕ) (why : Stop) (x : Machine) → Told m course used why x going.Done stop.Done
done m course used why x s e g same = by_parts m course used going.Done g (subst (λ w. StopsAs m course used w x) e s) same

pub trapped : (m : Module) (course : Course) (used : ℕ) (why : Stop) (x : Machine) (t : Trap) → Told m course used why x (going.Trapped t) (stop.Trapped t)
trapped m course used why x t s e g same = by_parts m course used (going.Trapped t) g (subst (λ w. StopsAs m course used w x) e s) same

asks_by : (m : Module) (course : Course) (used : ℕ) (x : Machine) (asked : Asked) → StopsAs m course used (stop.Call asked) x → Asks m course used (record { machine = x; asked = asked })
unfolding waiting IsWaiting asked_of
asks_by m course used x asked s = record { args = s.args; course_is = s.is; places = s.places; waits = s.waits }

pub asks : (m : Module) (course : Course) (used : ℕ) (why : Stop) (x : Machine) (asked : Asked) → Told m course used why x (going.Asks (record { machine = x; asked = asked })) (stop.Call asked)
asks m course used why x asked s e g same =
    by_parts m course used (going.Asks (record { machine = x; asked = asked })) g (asks_by m course used x asked (subst (λ w. StopsAs m course used w x) e s)) same

pub none : (m : Module) (course : Course) (used : ℕ) (g : Going) → g ≡ going.NoMemory → EndsAs m course used g
none m course used g same = by_parts m course used going.NoMemory g tt same
