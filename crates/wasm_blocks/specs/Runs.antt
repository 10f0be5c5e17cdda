-- The frame that runs, its values in an array and its blocks on stacks that other frames share.
use Rattle.std.proofs.Common.{Bor}
use Rattle.std.specs.Prelude.{ℕ, ◌-◌, ◌≤◌, ◌≡◌, List, length, take, drop, map}
use Rattle.wasm_ast.specs.declared.trees.Instr.{Instr}
use Rattle.wasm_semantics.specs.Threads.{Store, Frame, Outcome, Goes}
use Rattle.wasm_semantics.specs.Control.{Spot, thread_at}
use Rattle.wasm_data.specs.Cuts.{above, under}
use Rattle.wasm_data.specs.Marked.{AreInArray, locals_in, operands_in}
use Rattle.wasm_blocks.specs.declared.open.Open.{Open}
use Rattle.wasm_blocks.specs.declared.hot.Hot.{Hot}
use Rattle.wasm_blocks.specs.Levels.{spot_in, IsTower}

-- what branches to the frame's own blocks go on with: both stacks have them on top
abbrev pub own_nexts : ℕ → List Open → List (Bor (List Instr)) → List (List Instr)
own_nexts low opens nexts = map (λ s. s.now) (take (length opens - low) nexts)

-- what lies around a frame
pub record Outer : Type 0 where
  pub store : Store
  pub gives : ℕ
  pub frames : List Frame

-- where the thread runs
abbrev pub place : Outer → Hot → List ℕ → List Open → List (Bor (List Instr)) → Spot
place a hot values opens nexts =
    let locals = locals_in hot.marks.base hot.marks.floor values in
    spot_in (record { store = a.store; locals = locals; gives = a.gives; frames = a.frames }) hot.code.now
    (own_nexts hot.low opens nexts) (above hot.low opens) (operands_in hot.marks.floor hot.marks.sp values)

-- the frame lies within the array, and its blocks on top of both stacks
pub record StandsInArray (hot : Hot) (values : List ℕ) (opens : List Open) (nexts : List (Bor (List Instr))) : Type 0 where
  pub within : AreInArray hot.marks (length values)
  pub low : hot.low ≤ length opens
  pub many : length opens - hot.low ≤ length nexts
  pub tower : IsTower (above hot.low opens) (hot.marks.sp - hot.marks.floor)

-- whatever lies around the frame, it goes on so, and what others have stays
pub record GoesOnAnywhere (out : Outer → Outcome) (was now : Hot) (values values' : List ℕ)
    (opens opens' : List Open) (nexts nexts' : List (Bor (List Instr))) : Type 0 where
  pub on : (a : Outer) → out a ≡ Goes (thread_at (place a now values' opens' nexts'))
  pub stands : StandsInArray now values' opens' nexts'
  pub low : now.low ≡ was.low
  pub base : now.marks.base ≡ was.marks.base
  pub deep : take was.marks.base values' ≡ take was.marks.base values
  pub others : under was.low opens' ≡ under was.low opens
  pub other_nexts : drop (length opens' - was.low) nexts' ≡ drop (length opens - was.low) nexts
