-- The operands that an instruction declares by itself, by its opcode or by an index into its module.
use Rattle.std.specs.Prelude.{ℕ, List, [], ◌∷◌, length, take, reverse, Option, Some, None, slice_get}
use Rattle.wasm_ast.specs.declared.val_types.ValType.{ValType}
use Rattle.wasm_ast.specs.declared.val_types.ValType.TheVariants.{I32}
use Rattle.wasm_ast.specs.declared.trees.Instr.TheOpen.{Instr-F}
use Rattle.wasm_ast.specs.declared.func_types.FuncType.{FuncType}
use Rattle.wasm_ast.specs.declared.global_vars.GlobalVar.{GlobalVar}
use Rattle.wasm_ast.specs.declared.modules.Module.{Module}
use Rattle.wasm_ast.specs.Trees.{Layer}
use Rattle.wasm_ast.specs.Spaces.{type_of}
use Rattle.wasm_ast.specs.Operators.{OperatorType, operator_type, Access, store_of}
use Rattle.wasm_semantics.specs.OfModule.{Holds}

-- what a function takes, the last parameter on top
abbrev pub taken_by : Option FuncType → List ValType
taken_by None = []
taken_by (Some ft) = reverse ft.params

-- what a global takes
abbrev pub set_by : Option GlobalVar → List ValType
set_by None = []
set_by (Some g) = g.val_type ∷ []

-- what a store takes, the value on top of the address
abbrev pub stored_by : Option Access → List ValType
stored_by None = []
stored_by (Some a) = a.val_type ∷ I32 ∷ []

-- what an operator takes
abbrev pub operated_by : Option OperatorType → List ValType
operated_by None = []
operated_by (Some o) = o.takes

-- the types that an instruction declares of its topmost operands: conditions, addresses, sizes and the operands of operators and calls
abbrev pub operand_types : Module → Layer → List ValType
operand_types m (Instr-F.If bt first second) = I32 ∷ []
operand_types m (Instr-F.BrIf n) = I32 ∷ []
operand_types m (Instr-F.BrTable ns n) = I32 ∷ []
operand_types m (Instr-F.Call x) = taken_by (type_of m x)
operand_types m (Instr-F.CallIndirect k) = I32 ∷ taken_by (slice_get m.types k)
operand_types m Instr-F.Select = I32 ∷ []
operand_types m (Instr-F.GlobalSet x) = set_by (slice_get m.globals x)
operand_types m (Instr-F.Load op align offset) = I32 ∷ []
operand_types m (Instr-F.Store op align offset) = stored_by (store_of op)
operand_types m Instr-F.MemoryGrow = I32 ∷ []
operand_types m Instr-F.MemoryCopy = I32 ∷ I32 ∷ I32 ∷ []
operand_types m Instr-F.MemoryFill = I32 ∷ I32 ∷ I32 ∷ []
operand_types m (Instr-F.Num op) = operated_by (operator_type op)
operand_types m _ = []

-- numbers of these types lie on top
abbrev pub LieOnTop : List ValType → List ℕ → Type 0
LieOnTop ts values = Holds ts (take (length ts) values)
