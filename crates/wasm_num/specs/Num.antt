-- The integer operators (WebAssembly Core 1.0, section 4.3.2): numbers of w bits are those below 2^w.
use Rattle.std.specs.Prelude.{ℕ, zero, suc, ◌+◌, ◌-◌, ◌*◌, ◌/◌, ◌%◌, ◌^◌, ℤ, pos, negsuc, ◌-ℤ◌, Bool, not, ◌&&◌, ◌==◌, nat_lt, nat_le, int_lt, if◌then◌else◌, Result, Ok, Err}
use Rattle.std.specs.Int.{int_div_euclid}
use Rattle.std.specs.Int.RustNames.{int_le, int_div, int_rem, bit_and, bit_or, bit_xor}
use Rattle.std.specs.Int.Count.{count_leading_zeros, count_trailing_zeros}
use Rattle.wasm_num.specs.declared.operators.UnaryOp.{UnaryOp}
use Rattle.wasm_num.specs.declared.operators.UnaryOp.TheVariants.{Clz, Ctz, Popcnt}
use Rattle.wasm_num.specs.declared.operators.BinaryOp.{BinaryOp}
use Rattle.wasm_num.specs.declared.operators.BinaryOp.TheVariants.{Add, Sub, Mul, DivS, DivU, RemS, RemU, And, Or, Xor, Shl, ShrS, ShrU, Rotl, Rotr}
use Rattle.wasm_num.specs.declared.operators.CompareOp.{CompareOp}
use Rattle.wasm_num.specs.declared.operators.CompareOp.TheVariants.{Eq, Ne, LtS, LtU, GtS, GtU, LeS, LeU, GeS, GeU}
use Rattle.wasm_num.specs.declared.operators.ConvertOp.{ConvertOp}
use Rattle.wasm_num.specs.declared.operators.ConvertOp.TheVariants.{Wrap, ExtendS, ExtendU}
use Rattle.wasm_num.specs.declared.operators.NumTrap.{NumTrap}
use Rattle.wasm_num.specs.declared.operators.NumTrap.TheVariants.{Divide, Overflow}

-- the bits of an operand
abbrev pub width : Bool → ℕ
width wide = if wide then 64 else 32

-- the signed reading of n: two's complement
abbrev pub signed : ℕ → ℕ → ℤ
signed w n = if nat_lt n (2 ^ (w - 1)) then pos n else pos n -ℤ pos (2 ^ w)

-- z modulo 2^w; negsuc n is -(n + 1)
abbrev pub wrap : ℕ → ℤ → ℕ
wrap w (pos n) = n % 2 ^ w
wrap w (negsuc n) = 2 ^ w - 1 - n % 2 ^ w

-- how many of the lowest w bits of n are set
unfoldable pub set_bits : ℕ → ℕ → ℕ
set_bits zero n = 0
set_bits (suc w) n = n % 2 + set_bits w (n / 2)

-- n moved k bits up, k being at most w; what leaves at the top enters at the bottom
abbrev pub rotate : ℕ → ℕ → ℕ → ℕ
rotate w n k = (n * 2 ^ k) % 2 ^ w + n / 2 ^ (w - k)

-- the zero bits above the highest set bit, those below the lowest, and the set bits
abbrev pub num_unary : UnaryOp → ℕ → ℕ → ℕ
num_unary Clz w a = count_leading_zeros w a
num_unary Ctz w a = count_trailing_zeros w a
num_unary Popcnt w a = set_bits w a

-- The value or the trap: a signed quotient is rounded towards zero, and its remainder has the sign of the dividend; a count is taken
-- modulo w, and a shift to the right divides and rounds down.
abbrev pub num_binary : BinaryOp → ℕ → ℕ → ℕ → Result ℕ NumTrap
num_binary Add w a b = Ok ((a + b) % 2 ^ w)
num_binary Sub w a b = Ok (wrap w (pos a -ℤ pos b))
num_binary Mul w a b = Ok ((a * b) % 2 ^ w)
num_binary DivS w a b =
    if b == 0 then Err Divide else
    if (a == 2 ^ (w - 1)) && (b == 2 ^ w - 1) then Err Overflow else
    Ok (wrap w (int_div (signed w a) (signed w b)))
num_binary DivU w a b = if b == 0 then Err Divide else Ok (a / b)
num_binary RemS w a b = if b == 0 then Err Divide else Ok (wrap w (int_rem (signed w a) (signed w b)))
num_binary RemU w a b = if b == 0 then Err Divide else Ok (a % b)
num_binary And w a b = Ok (bit_and a b)
num_binary Or w a b = Ok (bit_or a b)
num_binary Xor w a b = Ok (bit_xor a b)
num_binary Shl w a b = Ok ((a * 2 ^ (b % w)) % 2 ^ w)
num_binary ShrS w a b = Ok (wrap w (int_div_euclid (signed w a) (pos (2 ^ (b % w)))))
num_binary ShrU w a b = Ok (a / 2 ^ (b % w))
num_binary Rotl w a b = Ok (rotate w a (b % w))
num_binary Rotr w a b = Ok (rotate w a (w - b % w))

-- whether a is 0
abbrev pub num_test : ℕ → ℕ → Bool
num_test w a = a == 0

-- `S` compares the signed readings, `U` the numbers themselves
abbrev pub num_compare : CompareOp → ℕ → ℕ → ℕ → Bool
num_compare Eq w a b = a == b
num_compare Ne w a b = not (a == b)
num_compare LtS w a b = int_lt (signed w a) (signed w b)
num_compare LtU w a b = nat_lt a b
num_compare GtS w a b = int_lt (signed w b) (signed w a)
num_compare GtU w a b = nat_lt b a
num_compare LeS w a b = int_le (signed w a) (signed w b)
num_compare LeU w a b = nat_le a b
num_compare GeS w a b = int_le (signed w b) (signed w a)
num_compare GeU w a b = nat_le b a

-- the bits of what a conversion takes
abbrev pub source_width : ConvertOp → ℕ
source_width Wrap = 64
source_width ExtendS = 32
source_width ExtendU = 32

-- the bits of what it gives
abbrev pub target_width : ConvertOp → ℕ
target_width Wrap = 32
target_width ExtendS = 64
target_width ExtendU = 64

-- modulo 2^32, by the sign, by zeros
abbrev pub num_convert : ConvertOp → ℕ → ℕ
num_convert Wrap a = a % 2 ^ 32
num_convert ExtendS a = wrap 64 (signed 32 a)
num_convert ExtendU a = a
