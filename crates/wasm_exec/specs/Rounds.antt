-- What a round of units comes to, which ends where the array or the code at hand does not reach.
use Rattle.std.proofs.Common.{Bor}
use Rattle.std.specs.Prelude.{ℕ, ◌-◌, ◌<◌, ◌≡◌, List, length}
use Rattle.wasm_ast.specs.declared.hosts.HostName.{HostName}
use Rattle.wasm_ast.specs.declared.trees.Instr.{Instr}
use Rattle.wasm_ast.specs.declared.modules.Module.{Module}
use Rattle.wasm_semantics.specs.Threads.{Store, Outcome, Goes, Trapped, Done}
use Rattle.wasm_semantics.specs.Units.{Course, units_from}
use Rattle.wasm_semantics.specs.OfModule.{Sound}
use Rattle.wasm_frames.specs.declared.active.Active.{Active}
use Rattle.wasm_frames.specs.Standing.{Surroundings, thread_in}
use Rattle.wasm_frames.specs.Turns.{AsksHost, IsBounded, IsCold}
use Rattle.wasm_exec.specs.declared.rounds.Halt.{Halt}
use Rattle.wasm_exec.specs.declared.rounds.Halt.TheVariants as halt
use Rattle.wasm_exec.specs.Going.{IsGoing}

-- so many units, and what the last of them came to
abbrev pub ended : ℕ → Outcome → Course
ended used o = record { used = used; stop = o }

-- the units that are left of a course are those of this thread; where none were done, the same code is at hand as before
pub record IsLeft (m : Module) (pages count : ℕ) (course : Course) (first : ℕ) (codes : List (Bor (List Instr)))
    (st : Store) (h : Surroundings) (a : Active) (used : ℕ) : Type 0 where
  pub is : course ≡ units_from m pages used (count - used) (thread_in m st a h)
  pub going : IsGoing m st a h
  pub still : used ≡ first → h.codes ≡ codes

-- a frame that asked the host waits for the answer
pub record HasStopped (m : Module) (course : Course) (used : ℕ) (st : Store) (h : Surroundings) (name : HostName) (a : Active) : Type 0 where
  pub outcome : Outcome
  pub is : course ≡ ended used outcome
  pub asked : AsksHost m outcome st h name a
  pub sound : Sound m outcome
  pub bounded : IsBounded h

-- what was answered is the course, or there are units left
abbrev pub Comes : Module → ℕ → ℕ → Course → ℕ → List (Bor (List Instr)) → Store → Surroundings → Active → ℕ → Halt → Type 0
Comes m pages count course first codes st h a used halt.Spent = (course ≡ ended used (Goes (thread_in m st a h))) × IsGoing m st a h
Comes m pages count course first codes st h a used halt.Done = course ≡ ended used Done
Comes m pages count course first codes st h a used (halt.Trapped t) = course ≡ ended used (Trapped t)
Comes m pages count course first codes st h a used (halt.Asks name) = HasStopped m course used st h name a
Comes m pages count course first codes st h a used halt.Full =
    IsLeft m pages count course first codes st h a used × (used < count) × (length h.values < 65536)
Comes m pages count course first codes st h a used halt.Cold =
    IsLeft m pages count course first codes st h a used × (used < count) × IsCold h
Comes m pages count course first codes st h a used halt.NoMemory = Unit {0}
