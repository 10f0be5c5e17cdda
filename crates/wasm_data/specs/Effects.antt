-- What an instruction that only moves data comes to, where the values of all frames lie in one array.
use Rattle.std.specs.Prelude.{ℕ, ◌≡◌, List, ◌∷◌, length, take}
use Rattle.wasm_ast.specs.declared.modules.Module.{Module}
use Rattle.wasm_ast.specs.Trees.{Layer}
use Rattle.wasm_ast.specs.Spaces.{page_limit}
use Rattle.wasm_semantics.specs.Data.{Data, DataEffect, Moves, Traps, moves, effect_of}
use Rattle.wasm_memory.specs.Contents.{Contents}
use Rattle.wasm_data.specs.declared.marks.Marks.{Marks}
use Rattle.wasm_data.specs.declared.moved.Moved.{Moved}
use Rattle.wasm_data.specs.declared.moved.Moved.TheVariants as moved
use Rattle.wasm_data.specs.Marked.{AreInArray, locals_in, operands_in, raised}

-- what such instructions read and change: the bytes of the memory, the globals, and the values of all frames
pub record Cells : Type 0 where
  pub memory : List ℕ
  pub globals : List ℕ
  pub values : List ℕ

-- these cells
abbrev pub cells : List ℕ → List ℕ → List ℕ → Cells
cells memory globals values = record { memory = memory; globals = globals; values = values }

-- what an instruction of the frame between these marks sees of them
abbrev pub seen : Cells → Marks → Data
seen c marks = record {
  memory = c.memory;
  globals = c.globals;
  locals = locals_in marks.base marks.floor c.values;
  values = operands_in marks.floor marks.sp c.values;
}

-- the frame's data are as the effect says, with the free places from sp on, and what lies below the frame stays
pub record HasMoved (effect : DataEffect) (old new : Cells) (marks : Marks) (sp : ℕ) : Type 0 where
  pub is : effect ≡ Moves (seen new (raised marks sp))
  pub within : AreInArray (raised marks sp) (length new.values)
  pub deep : take marks.base new.values ≡ take marks.base old.values

-- one operand more, for which there is no place
pub record LacksRoom (effect : DataEffect) (old : Cells) (marks : Marks) : Type 0 where
  pub value : ℕ
  pub is : effect ≡ moves (seen old marks) (value ∷ operands_in marks.floor marks.sp old.values)
  pub full : marks.sp ≡ length old.values

-- what was answered is the effect; at a trap, for want of room and out of memory nothing changes
abbrev pub Does : DataEffect → Cells → Cells → Marks → Moved → Type 0
Does effect old new marks (moved.Goes sp) = HasMoved effect old new marks sp
Does effect old new marks (moved.Trapped t) = (new ≡ old) × (effect ≡ Traps t)
Does effect old new marks moved.Full = (new ≡ old) × LacksRoom effect old marks
Does effect old new marks moved.NoMemory = new ≡ old

-- the same of an instruction that changes values alone, whatever the memory and the globals are
abbrev pub DoesToValues : (Data → DataEffect) → List ℕ → List ℕ → Marks → Moved → Type 0
DoesToValues effect old new marks answer =
    (memory globals : List ℕ) →
    Does (effect (seen (cells memory globals old) marks)) (cells memory globals old) (cells memory globals new) marks answer

-- the instruction is carried out so, in any module and under any limit of pages
abbrev pub CarriesOut : Layer → List ℕ → List ℕ → Marks → Moved → Type 0
CarriesOut y old new marks answer = (m : Module) (pages : ℕ) → DoesToValues (effect_of m pages y) old new marks answer

-- the same of an instruction that may change globals too, and no memory
abbrev pub CarriesGlobals : Layer → List ℕ → List ℕ → List ℕ → List ℕ → Marks → Moved → Type 0
CarriesGlobals y globals globals' old new marks answer =
    (m : Module) (pages : ℕ) (memory : List ℕ) →
    let before = cells memory globals old in Does (effect_of m pages y (seen before marks)) before (cells memory globals' new) marks answer

-- the same of an instruction that may change the memory and no global, in a module whose memories have that maximum
abbrev pub CarriesMemory : Layer → ℕ → Contents → Contents → List ℕ → List ℕ → Marks → Moved → Type 0
CarriesMemory y pages memory memory' old new marks answer =
    (m : Module) (globals : List ℕ) → page_limit m ≡ memory.maximum →
    let before = cells memory.bytes globals old in
    Does (effect_of m pages y (seen before marks)) before (cells memory'.bytes globals new) marks answer
