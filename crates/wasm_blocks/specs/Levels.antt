-- The thread of a machine that runs, one frame of it: its open blocks are numbers, and the code that remains lies in slices.
use Rattle.std.specs.Prelude.{ℕ, ◌≡◌, ◌≤◌, Bool, if◌then◌else◌, List, [], ◌∷◌, length, drop, Some, slice_get}
use Rattle.wasm_ast.specs.declared.trees.Instr.{Instr}
use Rattle.wasm_semantics.specs.Operators.{truth}
use Rattle.wasm_semantics.specs.Threads.{Store, Level, Frame}
use Rattle.wasm_semantics.specs.Control.{Spot}
use Rattle.wasm_data.specs.Cuts.{above, under}
use Rattle.wasm_blocks.specs.declared.open.Open.{Open}

-- the code behind a block, of the code that a branch to it goes on with: a loop stands in front of it
abbrev pub rest_of : Bool → List Instr → List Instr
rest_of loops next = if loops then drop 1 next else next

-- the first of these sequences
abbrev pub first_of : List (List Instr) → List Instr
first_of [] = []
first_of (next ∷ nexts) = next

-- the operands of the innermost level, of all operands of the frame
abbrev pub values_in : List Open → List ℕ → List ℕ
values_in [] operands = operands
values_in (o ∷ os) operands = above o.height operands

-- how many values a branch to the innermost block keeps
abbrev pub keeps_in : List Open → ℕ
keeps_in [] = 0
keeps_in (o ∷ os) = truth o.keeps

-- where a branch to the innermost block goes on
abbrev pub target_in : List Open → List (List Instr) → List Instr
target_in [] nexts = []
target_in (o ∷ os) nexts = first_of nexts

-- the innermost level of a frame with this code, these blocks, what branches to them go on with, and all its operands
abbrev pub level_in : List Instr → List (List Instr) → List Open → List ℕ → Level
level_in code nexts opens operands = record {
  values = values_in opens operands;
  code = code;
  keeps = keeps_in opens;
  target = target_in opens nexts;
}

-- the levels around it
abbrev pub levels_in : List (List Instr) → List Open → List ℕ → List Level
levels_in nexts [] operands = []
levels_in nexts (o ∷ os) operands =
    let below = under o.height operands in
    level_in (rest_of o.loops (first_of nexts)) (drop 1 nexts) os below ∷ levels_in (drop 1 nexts) os below

-- what lies around the levels of the frame that runs
pub record Around : Type 0 where
  pub store : Store
  pub locals : List ℕ
  pub gives : ℕ
  pub frames : List Frame

-- where the thread runs
abbrev pub spot_in : Around → List Instr → List (List Instr) → List Open → List ℕ → Spot
spot_in a code nexts opens operands = record {
  store = a.store;
  locals = a.locals;
  gives = a.gives;
  frames = a.frames;
  level = level_in code nexts opens operands;
  levels = levels_in nexts opens operands;
}

-- each block's operands begin where those of the block around it end
abbrev pub IsTower : List Open → ℕ → Type 0
IsTower [] n = Unit {0}
IsTower (o ∷ os) n = (o.height ≤ n) × IsTower os o.height

-- the innermost level has what a branch to this label keeps
abbrev pub HasKept : List Open → ℕ → List ℕ → Type 0
HasKept opens n operands = (o : Open) → slice_get opens n ≡ Some o → truth o.keeps ≤ length (values_in opens operands)
