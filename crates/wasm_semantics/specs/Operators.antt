-- What the operators on integers compute, by opcode (4.3.2, 4.4.1, 5.4.5).
use Rattle.std.specs.Prelude.{ℕ, ◌-◌, ◌*◌, ◌%◌, ◌^◌, Bool, true, false, nat_eq, if◌then◌else◌, List, [], ◌∷◌}
use Rattle.std.specs.Prelude.{Option, Some, None, option_map, slice_get, Result, Ok, Err}
use Rattle.wasm_ast.specs.declared.val_types.ValType.TheVariants.{I32, I64}
use Rattle.wasm_num.specs.declared.operators.UnaryOp.{UnaryOp}
use Rattle.wasm_num.specs.declared.operators.UnaryOp.TheVariants as unary
use Rattle.wasm_num.specs.declared.operators.BinaryOp.{BinaryOp}
use Rattle.wasm_num.specs.declared.operators.BinaryOp.TheVariants as binary
use Rattle.wasm_num.specs.declared.operators.CompareOp.{CompareOp}
use Rattle.wasm_num.specs.declared.operators.CompareOp.TheVariants as compare
use Rattle.wasm_num.specs.declared.operators.ConvertOp.{ConvertOp}
use Rattle.wasm_num.specs.declared.operators.ConvertOp.TheVariants as convert
use Rattle.wasm_num.specs.declared.operators.NumTrap.{NumTrap}
use Rattle.wasm_num.specs.Num.{signed, wrap, num_unary, num_binary, num_compare, num_convert}
use Rattle.wasm_semantics.specs.declared.operators.Operator.{Operator}
use Rattle.wasm_semantics.specs.declared.operators.Operator.TheVariants.{Test, Compare, Unary, Binary, Convert, Extend}
use Rattle.wasm_ast.specs.Operators.{bits, between, OperatorType, test_type, compare_type, unary_type, binary_type, convert_type, Access}

-- the comparisons in the order of their opcodes
abbrev pub compares : List CompareOp
compares =
    compare.Eq ∷ compare.Ne ∷ compare.LtS ∷ compare.LtU ∷ compare.GtS ∷ compare.GtU
    ∷ compare.LeS ∷ compare.LeU ∷ compare.GeS ∷ compare.GeU ∷ []

-- those on one number
abbrev pub unaries : List UnaryOp
unaries = unary.Clz ∷ unary.Ctz ∷ unary.Popcnt ∷ []

-- those on two numbers
abbrev pub binaries : List BinaryOp
binaries =
    binary.Add ∷ binary.Sub ∷ binary.Mul ∷ binary.DivS ∷ binary.DivU ∷ binary.RemS ∷ binary.RemU ∷ binary.And ∷ binary.Or ∷ binary.Xor
    ∷ binary.Shl ∷ binary.ShrS ∷ binary.ShrU ∷ binary.Rotl ∷ binary.Rotr ∷ []

-- those from 32 to 64 bits
abbrev pub extensions : List ConvertOp
extensions = convert.ExtendS ∷ convert.ExtendU ∷ []

-- how many low bits a sign extension keeps
abbrev pub low_bits : List ℕ
low_bits = 8 ∷ 16 ∷ 32 ∷ []

-- the operator with this opcode
unfoldable pub operator_of : ℕ → Option Operator
operator_of n =
    if nat_eq n 69 then Some (Test I32) else
    if between 70 79 n then option_map (Compare I32) (slice_get compares (n - 70)) else
    if nat_eq n 80 then Some (Test I64) else
    if between 81 90 n then option_map (Compare I64) (slice_get compares (n - 81)) else
    if between 103 105 n then option_map (Unary I32) (slice_get unaries (n - 103)) else
    if between 106 120 n then option_map (Binary I32) (slice_get binaries (n - 106)) else
    if between 121 123 n then option_map (Unary I64) (slice_get unaries (n - 121)) else
    if between 124 138 n then option_map (Binary I64) (slice_get binaries (n - 124)) else
    if nat_eq n 167 then Some (Convert convert.Wrap) else
    if between 172 173 n then option_map Convert (slice_get extensions (n - 172)) else
    if between 192 193 n then option_map (Extend I32) (slice_get low_bits (n - 192)) else
    if between 194 196 n then option_map (Extend I64) (slice_get low_bits (n - 194)) else
    None

-- what a conversion takes and leaves
abbrev pub converted_type : ConvertOp → OperatorType
converted_type convert.Wrap = convert_type I64 I32
converted_type convert.ExtendS = convert_type I32 I64
converted_type convert.ExtendU = convert_type I32 I64

-- what an operator takes and leaves
abbrev pub type_of_operator : Operator → OperatorType
type_of_operator (Test t) = test_type t
type_of_operator (Compare t op) = compare_type t
type_of_operator (Unary t op) = unary_type t
type_of_operator (Binary t op) = binary_type t
type_of_operator (Convert op) = converted_type op
type_of_operator (Extend t n) = unary_type t

-- a number, a trap, or operands that are missing
pub data Computed : Type 0 where
  Number : ℕ → Computed
  Fails : NumTrap → Computed
  Missing : Computed

-- 1 or 0
abbrev pub truth : Bool → ℕ
truth true = 1
truth false = 0

-- a number or a trap
abbrev pub of_result : Result ℕ NumTrap → Computed
of_result (Ok n) = Number n
of_result (Err trap) = Fails trap

-- the operand
abbrev pub with_one : List ℕ → (ℕ → Computed) → Computed
with_one [] go = Missing
with_one (a ∷ others) go = go a

-- the second operand lies on top
abbrev pub with_two : List ℕ → (ℕ → ℕ → Computed) → Computed
with_two [] go = Missing
with_two (b ∷ []) go = Missing
with_two (b ∷ a ∷ others) go = go a b

-- the number of w bits whose signed reading is that of the low n bits of a
abbrev pub extended_from : ℕ → ℕ → ℕ → ℕ
extended_from n w a = wrap w (signed n (a % 2 ^ n))

-- what an operator makes of its operands, the topmost first
abbrev pub compute : Operator → List ℕ → Computed
compute (Test t) args = with_one args (λ a. Number (truth (nat_eq a 0)))
compute (Compare t op) args = with_two args (λ a b. Number (truth (num_compare op (bits t) a b)))
compute (Unary t op) args = with_one args (λ a. Number (num_unary op (bits t) a))
compute (Binary t op) args = with_two args (λ a b. of_result (num_binary op (bits t) a b))
compute (Convert op) args = with_one args (λ a. Number (num_convert op a))
compute (Extend t n) args = with_one args (λ a. Number (extended_from n (bits t) a))

-- the value of its type that a load makes of the number that its bytes are (4.4.4)
abbrev pub read_as : Access → ℕ → ℕ
read_as a n = if a.signed then extended_from (8 * a.width) (bits a.val_type) n else n % 2 ^ bits a.val_type
