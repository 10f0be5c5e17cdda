-- The tables of opcodes as the code has them.
use Rattle.std.specs.Prelude.{◌≡◌, ◌^◌, [], ◌∷◌, if◌then◌else◌, Option, Some, None}
use Rattle.wasm_ast.specs.Operators.{OperatorType, Access}
use Rattle.wasm_typing.specs.declared.opcodes.Operator.{Operator}
use Rattle.wasm_typing.specs.declared.opcodes.Move.{Move}

abbrev pub type_in : Operator → OperatorType
type_in o = record { takes = if o.binary then o.operand ∷ (o.operand ∷ []) else o.operand ∷ []; leaves = o.leaves }

-- the same type and width, or neither is there
abbrev pub Accesses : Option Access → Option Move → Type 0
Accesses None None = Unit {0}
Accesses None (Some m) = ⊥
Accesses (Some a) None = ⊥
Accesses (Some a) (Some m) = (a.val_type ≡ m.val_type) × (a.width ≡ 2 ^ m.exponent)
