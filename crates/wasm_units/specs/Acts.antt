-- What an instruction that was taken answers, where a thread runs behind it.
use Rattle.std.proofs.Common.{Bor}
use Rattle.std.specs.Prelude.{ℕ, ◌<◌, ◌≡◌, ◌≢◌, List, ◌∷◌, length, Result, Ok, Err}
use Rattle.wasm_ast.specs.declared.trees.Instr.{Instr}
use Rattle.wasm_ast.specs.declared.modules.Module.{Module}
use Rattle.wasm_ast.specs.Trees.{Layer, layer}
use Rattle.wasm_semantics.specs.Threads.{Store, Stuck}
use Rattle.wasm_semantics.specs.Units.{act}
use Rattle.wasm_data.specs.declared.moved.Moved.{Moved}
use Rattle.wasm_data.specs.declared.moved.Moved.TheVariants as moved
use Rattle.wasm_data.specs.Cuts.{above}
use Rattle.wasm_data.specs.Marked.{operands_in, raised}
use Rattle.wasm_blocks.specs.declared.open.Open.{Open}
use Rattle.wasm_blocks.specs.declared.hot.Hot.{Hot}
use Rattle.wasm_blocks.specs.Levels.{values_in}
use Rattle.wasm_blocks.specs.Rest.{Placed}
use Rattle.wasm_blocks.specs.Runs.{own_nexts}
use Rattle.wasm_frames.specs.declared.active.Active.{Active}
use Rattle.wasm_frames.specs.declared.active.Place.{Place}
use Rattle.wasm_frames.specs.declared.turns.Turn.{Turn}
use Rattle.wasm_frames.specs.declared.turns.Turn.TheVariants as turn
use Rattle.wasm_frames.specs.Resting.{body_of}
use Rattle.wasm_frames.specs.Standing.{Surroundings, held, spot_at, IsStanding, IsPlaced}
use Rattle.wasm_frames.specs.Turns.{Answered}

-- some module has a rule for the instruction there
pub record CanAct (y : Layer) (a : Active) (h : Surroundings) : Type 0 where
  pub program : Module
  pub pages : ℕ
  pub instr : Instr
  pub store : Store
  pub ruled : act program pages instr y (spot_at program store a h) ≢ Stuck

-- the frame runs behind this instruction, and all slices are what the numbers say
pub record IsBehind (m : Module) (i : Instr) (y : Layer) (a : Active) (h : Surroundings) : Type 0 where
  pub is : layer i ≡ y
  pub front : Placed (body_of m a.function) (i ∷ a.hot.code.now) (own_nexts a.hot.low h.opens h.nexts) (above a.hot.low h.opens)
  pub placed : IsPlaced m a h

-- whatever the module and the store are, what was answered is what the instruction comes to
abbrev pub Acts : Instr → Layer → Active → Surroundings → Surroundings → Turn → Type 0
Acts i y a was h answer =
    (m : Module) (pages : ℕ) (store : Store) → IsBehind m i y a was →
    Answered m (act m pages i y (spot_at m store a was)) store store was h answer

-- the same of an instruction that opens a block, whatever frames wait
abbrev pub Enters : Instr → Layer → Active → List ℕ → List Open → List Open →
    List (Bor (List Instr)) → List (Bor (List Instr)) → Turn → Type 0
Enters i y a values opens opens' nexts nexts' answer =
    (places : List Place) (codes : List (Bor (List Instr))) →
    let was = held places codes values opens nexts in
    IsStanding a was → Acts i y a was (held places codes values opens' nexts') answer

-- there are frames that wait over which the frame stands
abbrev pub StandsOver : Active → List ℕ → List Open → List (Bor (List Instr)) → Type 0
StandsOver a values opens nexts =
    (places : List Place) × (codes : List (Bor (List Instr))) × IsStanding a (held places codes values opens nexts)

-- the innermost level has an operand
abbrev pub HasOperand : Active → List ℕ → List Open → Type 0
HasOperand a values opens = 0 < length (values_in (above a.hot.low opens) (operands_in a.hot.marks.floor a.hot.marks.sp values))

-- on in a block, where there was memory to open it
abbrev pub inside_of : {E : Type 0} → Active → Result Hot E → Turn
inside_of a (Ok hot) = turn.Grew (record { hot = hot; function = a.function; gives = a.gives })
inside_of a (Err e) = turn.NoMemory

-- the frame with the free places from here on
abbrev pub with_sp : Active → ℕ → Active
with_sp a sp = record {
  hot = record { code = a.hot.code; marks = raised a.hot.marks sp; low = a.hot.low };
  function = a.function;
  gives = a.gives;
}

-- on behind an instruction that moved data
abbrev pub turn_of : Active → Moved → Turn
turn_of a (moved.Goes sp) = turn.Goes (with_sp a sp)
turn_of a (moved.Trapped t) = turn.Trapped t
turn_of a moved.Full = turn.Full
turn_of a moved.NoMemory = turn.NoMemory
