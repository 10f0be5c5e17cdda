-- What an instruction needs before it is carried out.
use Rattle.std.specs.Prelude.{ℕ, ◌≢◌, List}
use Rattle.wasm_ast.specs.declared.modules.Module.{Module}
use Rattle.wasm_ast.specs.declared.trees.Instr.TheOpen.{Instr-F}
use Rattle.wasm_ast.specs.Trees.{Layer}
use Rattle.wasm_semantics.specs.Data.{Wrong, effect_of}
use Rattle.wasm_semantics.specs.Operands.{operand_types, LieOnTop}
use Rattle.wasm_data.specs.declared.marks.Marks.{Marks}
use Rattle.wasm_data.specs.Marked.{operands_in}
use Rattle.wasm_data.specs.Effects.{cells, seen}

-- in some module with some memory there is a rule for the instruction, and the operands have the types that it declares
pub record HasRule (y : Layer) (globals values : List ℕ) (marks : Marks) : Type 0 where
  pub program : Module
  pub pages : ℕ
  pub memory : List ℕ
  pub typed : effect_of program pages y (seen (cells memory globals values) marks) ≢ Wrong
  pub fits : LieOnTop (operand_types program y) (operands_in marks.floor marks.sp values)

-- the instruction moves data and leaves the memory alone
abbrev pub IsPlain : Layer → Type 0
IsPlain Instr-F.Nop = Unit {0}
IsPlain Instr-F.Drop = Unit {0}
IsPlain Instr-F.Select = Unit {0}
IsPlain (Instr-F.LocalGet x) = Unit {0}
IsPlain (Instr-F.LocalSet x) = Unit {0}
IsPlain (Instr-F.LocalTee x) = Unit {0}
IsPlain (Instr-F.GlobalGet x) = Unit {0}
IsPlain (Instr-F.GlobalSet x) = Unit {0}
IsPlain (Instr-F.I32Const n) = Unit {0}
IsPlain (Instr-F.I64Const n) = Unit {0}
IsPlain (Instr-F.Num code) = Unit {0}
IsPlain _ = ⊥
