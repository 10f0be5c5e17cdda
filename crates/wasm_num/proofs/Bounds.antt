-- Counts of set bits, and the bounds of all results.
use Rattle.std.proofs.Common.{◌≡◌, ℕ, zero, suc, ◌+◌, ◌-◌, ◌*◌, ◌/◌, ◌%◌, ◌^◌, ◌<◌, Bool, true, false, Result, Ok, Err, sym, ap, ◌∙◌, arith}
use Rattle.std.proofs.Math.Nat.{pow-suc, div-le_self, mod-le}
use Rattle.std.proofs.lemmas.Nat.{pow_pos, mod_below, shr_le, and_le_l, or_lt, xor_lt, leading_le, trailing_le, ones-le}
use Rattle.std.specs.Prelude.{◌-ℤ◌, ℤ, pos, negsuc, ◌==◌, ◌&&◌, IfOk, if◌then◌else◌}
use Rattle.std.specs.Int.{int_div_euclid}
use Rattle.std.specs.Int.RustNames.{int_div, int_rem}
use Rattle.std.specs.Int.Count.{ones, ones_step}
use Rattle.wasm_num.specs.declared.operators.UnaryOp.{UnaryOp}
use Rattle.wasm_num.specs.declared.operators.UnaryOp.TheVariants.{Clz, Ctz, Popcnt}
use Rattle.wasm_num.specs.declared.operators.BinaryOp.{BinaryOp}
use Rattle.wasm_num.specs.declared.operators.BinaryOp.TheVariants.{Add, Sub, Mul, DivS, DivU, RemS, RemU, And, Or, Xor, Shl, ShrS, ShrU, Rotl, Rotr}
use Rattle.wasm_num.specs.declared.operators.ConvertOp.{ConvertOp}
use Rattle.wasm_num.specs.declared.operators.ConvertOp.TheVariants.{Wrap, ExtendS, ExtendU}
use Rattle.wasm_num.specs.declared.operators.NumTrap.{NumTrap}
use Rattle.wasm_num.specs.declared.operators.NumTrap.TheVariants.{Divide, Overflow}
use Rattle.wasm_num.specs.Num.{set_bits, signed, wrap, num_unary, num_binary, num_convert, source_width, target_width}
use Rattle.wasm_num.proofs.Rotations.{rotate_below}

pub set_bits_is : (w n : ℕ) → n < 2 ^ w → set_bits w n ≡ ones n
unfolding set_bits
set_bits_is zero n lt = omega (arith, ones-le 0 n lt)
set_bits_is (suc w) n lt =
    let twice : 2 ^ suc w ≡ 2 ^ w * 2 = pow-suc 2 w in
    ap (λ s. n % 2 + s) (set_bits_is w (n / 2) (omega (arith, lt, twice))) ∙ sym (ones_step n)

width_below : (w : ℕ) → w < 2 ^ w
width_below zero = omega arith
width_below (suc w) = omega (arith, width_below w, pow-suc 2 w)

pub wrap_below : (w : ℕ) (z : ℤ) → wrap w z < 2 ^ w
wrap_below w (pos n) = mod_below n (2 ^ w) (pow_pos w)
wrap_below w (negsuc n) = omega (arith, pow_pos w)

pub unary_below : (op : UnaryOp) (w a : ℕ) → a < 2 ^ w → num_unary op w a < 2 ^ w
unary_below Clz w a lt = omega (arith, leading_le w a, width_below w)
unary_below Ctz w a lt = omega (arith, trailing_le w a, width_below w)
unary_below Popcnt w a lt = omega (arith, set_bits_is w a lt, ones-le w a lt, width_below w)

abbrev IsBelow : ℕ → Result ℕ NumTrap → Type 0
IsBelow w r = IfOk r (λ n. n < 2 ^ w)

tested : (t : Bool) (w : ℕ) (trap : NumTrap) (r : Result ℕ NumTrap) → IsBelow w r → IsBelow w (if t then Err trap else r)
tested true w trap r h = tt
tested false w trap r h = h

pub binary_below : (op : BinaryOp) (w a b : ℕ) → 0 < w → a < 2 ^ w → b < 2 ^ w → IfOk (num_binary op w a b) (λ n. n < 2 ^ w)
binary_below Add w a b l p q = mod_below (a + b) (2 ^ w) (pow_pos w)
binary_below Sub w a b l p q = wrap_below w (pos a -ℤ pos b)
binary_below Mul w a b l p q = mod_below (a * b) (2 ^ w) (pow_pos w)
binary_below DivS w a b l p q =
    let quotient = wrap w (int_div (signed w a) (signed w b)) in
    let overflows = (a == 2 ^ (w - 1)) && (b == 2 ^ w - 1) in
    tested (b == 0) w Divide (if overflows then Err Overflow else Ok quotient)
    (tested overflows w Overflow (Ok quotient) (wrap_below w (int_div (signed w a) (signed w b))))
binary_below DivU w a b l p q = tested (b == 0) w Divide (Ok (a / b)) (omega (arith, p, div-le_self a b))
binary_below RemS w a b l p q = tested (b == 0) w Divide (Ok (wrap w (int_rem (signed w a) (signed w b)))) (wrap_below w (int_rem (signed w a) (signed w b)))
binary_below RemU w a b l p q = tested (b == 0) w Divide (Ok (a % b)) (omega (arith, p, mod-le a b))
binary_below And w a b l p q = omega (arith, and_le_l a b)
binary_below Or w a b l p q = or_lt w a b p q
binary_below Xor w a b l p q = xor_lt w a b p q
binary_below Shl w a b l p q = mod_below (a * 2 ^ (b % w)) (2 ^ w) (pow_pos w)
binary_below ShrS w a b l p q = wrap_below w (int_div_euclid (signed w a) (pos (2 ^ (b % w))))
binary_below ShrU w a b l p q = omega (arith, shr_le a (b % w))
binary_below Rotl w a b l p q = rotate_below w (b % w) a (omega (arith, mod_below b w l)) p
binary_below Rotr w a b l p q = rotate_below w (w - b % w) a (omega arith) p

pub convert_below : (op : ConvertOp) (a : ℕ) → a < 2 ^ source_width op → num_convert op a < 2 ^ target_width op
convert_below Wrap a p = mod_below a (2 ^ 32) (pow_pos 32)
convert_below ExtendS a p = wrap_below 64 (signed 32 a)
convert_below ExtendU a p = omega (arith, p)
