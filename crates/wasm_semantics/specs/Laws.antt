-- What laws about units and effects speak of.
use Rattle.std.specs.Prelude.{ℕ, ◌+◌, ◌-◌, ◌≡◌, ◌≤◌, min, List, ◌∷◌, ◌++◌, length, replicate}
use Rattle.wasm_ast.specs.declared.modules.Module.{Module}
use Rattle.wasm_ast.specs.Spaces.{page_limit}
use Rattle.wasm_semantics.specs.Data.{Data, DataEffect, Moves, Traps, Wrong}
use Rattle.wasm_ast.specs.declared.trees.Instr.{Instr}
use Rattle.wasm_semantics.specs.Control.{Spot, spot_with}
use Rattle.wasm_semantics.specs.Units.{Course, units}
use Rattle.wasm_semantics.specs.Threads.{Thread, values_of, blocks_of, Outcome, Goes, Calls, Done, Trapped, Stuck}

-- the memory that a unit leaves, where it leaves one, has at least so many bytes
abbrev pub KeepsBytes : ℕ → Outcome → Type 0
KeepsBytes n (Goes t) = n ≤ length t.store.memory
KeepsBytes n (Calls h args t) = n ≤ length t.store.memory
KeepsBytes n Done = Unit {0}
KeepsBytes n (Trapped trap) = Unit {0}
KeepsBytes n Stuck = Unit {0}

-- the two numbers of pages allow the module's memory the same
abbrev pub AllowTheSame : Module → ℕ → ℕ → Type 0
AllowTheSame m p q = min p (page_limit m) ≡ min q (page_limit m)

-- the same data with more operands below
abbrev pub deeper : Data → List ℕ → Data
deeper d below = record { memory = d.memory; globals = d.globals; locals = d.locals; values = d.values ++ below }

-- the same effect on it
abbrev pub lifted : List ℕ → DataEffect → DataEffect
lifted below (Moves d) = Moves (deeper d below)
lifted below (Traps t) = Traps t
lifted below Wrong = Wrong

-- the same place with this instruction in front
abbrev pub before : Instr → Spot → Spot
before i p = spot_with p p.level.values (i ∷ p.level.code)

-- within the limits of values, frames and blocks
pub record IsWithinLimits (t : Thread) : Type 0 where
  pub values : values_of t.frames ≤ 65536
  pub frames : length t.frames ≤ 1024
  pub blocks : blocks_of t.frames ≤ 16384

-- a thread that a unit goes on with, or that waits behind it, is within the limits
abbrev pub KeepsLimits : Outcome → Type 0
KeepsLimits (Goes t) = IsWithinLimits t
KeepsLimits (Calls h args t) = IsWithinLimits t
KeepsLimits Done = Unit {0}
KeepsLimits (Trapped trap) = Unit {0}
KeepsLimits Stuck = Unit {0}

-- it goes on
abbrev pub GoesOn : Outcome → Type 0
GoesOn o = (t : Thread) × (o ≡ Goes t)

-- the same course, after so many units
abbrev pub later : ℕ → Course → Course
later n c = record { used = n + c.used; stop = c.stop }

-- a course, and where it goes on, another one behind it
abbrev pub joined : ℕ → Outcome → (Thread → Course) → Course
joined used (Goes t) go = later used (go t)
joined used (Calls h args t) go = record { used = used; stop = Calls h args t }
joined used Done go = record { used = used; stop = Done }
joined used (Trapped t) go = record { used = used; stop = Trapped t }
joined used Stuck go = record { used = used; stop = Stuck }

-- a course, and where it goes on, so many units more
abbrev pub then_units : Module → ℕ → Course → ℕ → Course
then_units m pages c n = joined c.used c.stop (λ t. units m pages t n)

-- the arguments of a host call in four places, of which those not used are 0
abbrev pub in_four_places : List ℕ → List ℕ
in_four_places args = args ++ replicate (4 - length args) 0
