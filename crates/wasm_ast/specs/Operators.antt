-- What the integer instructions of an opcode take and leave (3.3.1, 3.3.4, 5.4.4, 5.4.5). Operands are listed topmost first.
use Rattle.std.specs.Prelude.{ℕ, Bool, true, false, ◌&&◌, nat_eq, nat_le, if◌then◌else◌, List, [], ◌∷◌, Option, Some, None}
use Rattle.wasm_ast.specs.declared.val_types.ValType.{ValType}
use Rattle.wasm_ast.specs.declared.val_types.ValType.TheVariants.{I32, I64, F32, F64}

-- how many bits a value of a type has (2.3.1)
abbrev pub bits : ValType → ℕ
bits I32 = 32
bits I64 = 64
bits F32 = 32
bits F64 = 64

-- an operator's operands and its one result
pub record OperatorType : Type 0 where
  pub takes : List ValType
  pub leaves : ValType

-- eqz
abbrev pub test_type : ValType → OperatorType
test_type t = record { takes = t ∷ []; leaves = I32 }

-- a comparison
abbrev pub compare_type : ValType → OperatorType
compare_type t = record { takes = t ∷ t ∷ []; leaves = I32 }

-- clz, ctz, popcnt, and the extension of the sign within a type
abbrev pub unary_type : ValType → OperatorType
unary_type t = record { takes = t ∷ []; leaves = t }

-- an operator on two numbers of a type
abbrev pub binary_type : ValType → OperatorType
binary_type t = record { takes = t ∷ t ∷ []; leaves = t }

-- a conversion from one type to another
abbrev pub convert_type : ValType → ValType → OperatorType
convert_type from to = record { takes = from ∷ []; leaves = to }

-- n is from low to high
abbrev pub between : ℕ → ℕ → ℕ → Bool
between low high n = nat_le low n && nat_le n high

-- the type of the operator with this opcode
unfoldable pub operator_type : ℕ → Option OperatorType
operator_type n =
    if nat_eq n 69 then Some (test_type I32) else
    if between 70 79 n then Some (compare_type I32) else
    if nat_eq n 80 then Some (test_type I64) else
    if between 81 90 n then Some (compare_type I64) else
    if between 103 105 n then Some (unary_type I32) else
    if between 106 120 n then Some (binary_type I32) else
    if between 121 123 n then Some (unary_type I64) else
    if between 124 138 n then Some (binary_type I64) else
    if nat_eq n 167 then Some (convert_type I64 I32) else
    if between 172 173 n then Some (convert_type I32 I64) else
    if between 192 193 n then Some (unary_type I32) else
    if between 194 196 n then Some (unary_type I64) else
    None

-- a load or a store: the type of the value, how many bytes are moved, and whether a narrow load extends the sign
pub record Access : Type 0 where
  pub val_type : ValType
  pub width : ℕ
  pub signed : Bool

-- the load or store of a type, a width and a sign
abbrev pub access : ValType → ℕ → Bool → Option Access
access t width signed = Some (record { val_type = t; width = width; signed = signed })

-- the load with this opcode
unfoldable pub load_of : ℕ → Option Access
load_of n =
    if nat_eq n 40 then access I32 4 false else
    if nat_eq n 41 then access I64 8 false else
    if nat_eq n 44 then access I32 1 true else
    if nat_eq n 45 then access I32 1 false else
    if nat_eq n 46 then access I32 2 true else
    if nat_eq n 47 then access I32 2 false else
    if nat_eq n 48 then access I64 1 true else
    if nat_eq n 49 then access I64 1 false else
    if nat_eq n 50 then access I64 2 true else
    if nat_eq n 51 then access I64 2 false else
    if nat_eq n 52 then access I64 4 true else
    if nat_eq n 53 then access I64 4 false else
    None

-- the store with this opcode, which keeps the low bytes
unfoldable pub store_of : ℕ → Option Access
store_of n =
    if nat_eq n 54 then access I32 4 false else
    if nat_eq n 55 then access I64 8 false else
    if nat_eq n 58 then access I32 1 false else
    if nat_eq n 59 then access I32 2 false else
    if nat_eq n 60 then access I64 1 false else
    if nat_eq n 61 then access I64 2 false else
    if nat_eq n 62 then access I64 4 false else
    None
