-- What the calls of a sandbox come to.
use Rattle.std.specs.Prelude.{ℕ, ◌<◌, ◌≤◌, ◌≡◌, List}
use Rattle.wasm_ast.specs.declared.modules.Module.{Module}
use Rattle.wasm_ast.specs.Spaces.{first_pages}
use Rattle.wasm_semantics.specs.Threads.{Goes, Calls, Trapped, Done}
use Rattle.wasm_semantics.specs.Units.{Course}
use Rattle.wasm_semantics.specs.Begin.{begin}
use Rattle.wasm_semantics.specs.Laws.{in_four_places}
use Rattle.sandbox.specs.declared.going.Begun.{Begun}
use Rattle.sandbox.specs.declared.going.Begun.TheVariants as begun
use Rattle.sandbox.specs.declared.going.Going.{Going}
use Rattle.sandbox.specs.declared.going.Going.TheVariants as going
use Rattle.sandbox.specs.declared.suspended.Suspended.{Suspended}
use Rattle.sandbox.specs.Threads.{thread_of, IsReady, waiting, IsWaiting, asked_of}

-- what a start gives: the starting thread, or that the memory has more pages at least
abbrev pub Begins : Module → ℕ → Begun → Type 0
Begins m pages (begun.Ready s) = (first_pages m ≤ pages) × (thread_of m s ≡ begin m) × IsReady m s
Begins m pages begun.Pages = pages < first_pages m

-- it asks the host: the arguments in four places
pub record Asks (m : Module) (course : Course) (used : ℕ) (s : Suspended) : Type 0 where
  pub args : List ℕ
  pub course_is : course ≡ record { used = used; stop = Calls (asked_of s).name args (waiting m s) }
  pub places : (asked_of s).args ≡ in_four_places args
  pub waits : IsWaiting m s

-- how a run of units ended
abbrev pub EndsAs : Module → Course → ℕ → Going → Type 0
EndsAs m course used (going.Spent s) = (course ≡ record { used = used; stop = Goes (thread_of m s) }) × IsReady m s
EndsAs m course used going.Done = course ≡ record { used = used; stop = Done }
EndsAs m course used (going.Trapped t) = course ≡ record { used = used; stop = Trapped t }
EndsAs m course used (going.Asks s) = Asks m course used s
EndsAs m course used going.NoMemory = Unit {0}
