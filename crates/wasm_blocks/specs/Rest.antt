-- Where a frame stands by numbers alone: each open block by how much is left behind it in the code around it.
use Rattle.std.specs.Prelude.{ℕ, ◌-◌, ◌+◌, ◌≡◌, Bool, if◌then◌else◌, List, [], ◌∷◌, ◌++◌, length, drop, slice_get, Option, Some, None}
use Rattle.wasm_ast.specs.declared.trees.Instr.{Instr}
use Rattle.wasm_ast.specs.declared.trees.Instr.TheOpen.{Instr-F}
use Rattle.wasm_ast.specs.Trees.{Layer, layer}
use Rattle.wasm_blocks.specs.declared.open.Open.{Open}

-- the last n instructions
abbrev pub last : List Instr → ℕ → List Instr
last code n = drop (length code - n) code

-- a part of a block, the second one of an if
abbrev pub part_of : Bool → Layer → List Instr
part_of second (Instr-F.Block bt body) = body.items
part_of second (Instr-F.Loop bt body) = body.items
part_of second (Instr-F.If bt one two) = if second then two.items else one.items
part_of second _ = []

-- the same of an instruction that is there
abbrev pub part_at : Bool → Option Instr → List Instr
part_at second None = []
part_at second (Some i) = part_of second (layer i)

-- how many instructions stand from the block's own on
abbrev pub from_block : Open → ℕ
from_block o = if o.loops then o.left else o.left + 1

-- the sequence inside these blocks of a body
abbrev pub code_in : List Instr → List Open → List Instr
code_in body [] = body
code_in body (o ∷ os) = part_at o.second (slice_get (code_in body os) (length (code_in body os) - from_block o))

-- what branches to the blocks go on with
abbrev pub nexts_in : List Instr → List Open → List (List Instr)
nexts_in body [] = []
nexts_in body (o ∷ os) = last (code_in body os) o.left ∷ nexts_in body os

-- the one is an end of the other
abbrev pub IsEnd : List Instr → List Instr → Type 0
IsEnd code whole = (front : List Instr) × (whole ≡ front ++ code)

-- the slices of a run are what the numbers say
pub record Placed (body code : List Instr) (nexts : List (List Instr)) (opens : List Open) : Type 0 where
  pub nexts_are : nexts ≡ nexts_in body opens
  pub code_ends : IsEnd code (code_in body opens)
