-- Frames that wait, by numbers alone: their code is found again in the module, their values lie in an array.
use Rattle.std.specs.Prelude.{ℕ, ◌-◌, ◌≤◌, ◌≡◌, List, [], ◌∷◌, length, Option, Some, None, slice_get}
use Rattle.wasm_ast.specs.declared.trees.Instr.{Instr}
use Rattle.wasm_ast.specs.declared.bodies.Body.{Body}
use Rattle.wasm_ast.specs.declared.modules.Module.{Module}
use Rattle.wasm_semantics.specs.Operators.{truth}
use Rattle.wasm_semantics.specs.Threads.{Frame}
use Rattle.wasm_data.specs.Cuts.{above, under}
use Rattle.wasm_data.specs.Marked.{AreInArray, locals_in, operands_in}
use Rattle.wasm_blocks.specs.declared.open.Open.{Open}
use Rattle.wasm_blocks.specs.Levels.{level_in, levels_in, IsTower}
use Rattle.wasm_blocks.specs.Rest.{last, code_in, nexts_in}
use Rattle.wasm_frames.specs.declared.active.Place.{Place}

-- the code of a body, where it is there
abbrev pub code_of : Option Body → List Instr
code_of None = []
code_of (Some body) = body.code.items

-- the code of the function with this number among those that the module defines
abbrev pub body_of : Module → ℕ → List Instr
body_of m k = code_of (slice_get m.bodies k)

-- a frame at this place with this code, these blocks, and what branches to them go on with
abbrev pub frame_in : Place → List Instr → List (List Instr) → List Open → List ℕ → Frame
frame_in p code nexts own values =
    let operands = operands_in p.marks.floor p.marks.sp values in record {
      locals = locals_in p.marks.base p.marks.floor values;
      levels = level_in code nexts own operands ∷ levels_in nexts own operands;
      gives = truth p.gives;
    }

-- the same, with what the numbers of its blocks say; its blocks lie on top
abbrev pub frame_at_rest : Module → Place → List ℕ → List Open → Frame
frame_at_rest m p values opens =
    let own = above p.low opens in
    let body = body_of m p.function in
    frame_in p (last (code_in body own) p.left) (nexts_in body own) own values

-- the frames that wait, the topmost first
abbrev pub frames_at_rest : Module → List Place → List ℕ → List Open → List Frame
frames_at_rest m [] values opens = []
frames_at_rest m (p ∷ ps) values opens = frame_at_rest m p values opens ∷ frames_at_rest m ps values (under p.low opens)

-- a frame with its first local here begins where the values of those below it end
abbrev pub BeginsAt : List Place → ℕ → Type 0
BeginsAt [] base = base ≡ 0
BeginsAt (p ∷ ps) base = p.marks.sp ≡ base

-- a frame lies within the array, its blocks on top of those below
pub record IsResting (p : Place) (values : List ℕ) (opens : List Open) (ps : List Place) : Type 0 where
  pub within : AreInArray p.marks (length values)
  pub low : p.low ≤ length opens
  pub tower : IsTower (above p.low opens) (p.marks.sp - p.marks.floor)
  pub begins : BeginsAt ps p.marks.base

-- so does each, and the last lies over no blocks
abbrev pub AreResting : List Place → List ℕ → List Open → Type 0
AreResting [] values opens = length opens ≡ 0
AreResting (p ∷ ps) values opens = IsResting p values opens ps × AreResting ps values (under p.low opens)
