-- A sign extension by two shifts.
use Rattle.std.proofs.Common.{◌≡◌, ◌≤◌, ◌<◌, ◌+◌, ◌-◌, ◌*◌, ◌%◌, ◌^◌, ℕ, Bool, true, false, refl, sym, ap, subst, ◌∙◌, arith}
use Rattle.std.specs.Prelude.{pos, negsuc, ◌-ℤ◌, nat_lt, if◌then◌else◌, Ok, suc, zero}
use Rattle.std.specs.Int.{int_div_euclid}
use Rattle.std.proofs.lemmas.Int.{ints}
use Rattle.std.proofs.Math.Nat.{mul-div_cancel, mul-mod_left, mul-lt-mul_of_pos_right, mul-le-mul_right, pow-succ', mod-eq_of_lt}
use Rattle.std.proofs.lemmas.Nat.{pow-add, pow_pos, mod_below, mod-pow-add, div-mul-add}
use Rattle.std.proofs.lemmas.Bool.Decides.{nat_tests}
use Rattle.wasm_num.specs.declared.operators.BinaryOp.TheVariants.{Shl, ShrS}
use Rattle.wasm_num.specs.Num.{signed, wrap, num_binary}
use Rattle.wasm_semantics.specs.Operators.{extended_from}

below_zero : (a b e : ℕ) → a + suc e ≡ b → pos a -ℤ pos b ≡ negsuc e
below_zero a b e h = omega (arith, ints)

-- the low bits moved up are all that is left
moved_up : (a n k : ℕ) → (a * 2 ^ k) % 2 ^ (n + k) ≡ (a % 2 ^ n) * 2 ^ k
moved_up a n k =
    mod-pow-add (a * 2 ^ k) n k
    ∙ (ap (λ x. (x % 2 ^ n) * 2 ^ k + a * 2 ^ k % 2 ^ k) (mul-div_cancel a (pow_pos k)) ∙ (ap (λ x. (a % 2 ^ n) * 2 ^ k + x) (mul-mod_left a (2 ^ k)) ∙ omega arith))

-- a number below zero, moved up and divided again
back_down : (e p : ℕ) → 0 < p → int_div_euclid (negsuc (e * p + (p - 1))) (pos p) ≡ negsuc e
back_down e p h = ap negsuc (div-mul-add e p (p - 1) (omega arith))

-- the test of the sign bit, moved up
same_test : (b p q : ℕ) → 0 < p → (t : Bool) → nat_lt b q ≡ t → nat_lt (b * p) (q * p) ≡ t
same_test b p q h true e =
    let less : b < q = grind (arith, nat_tests) in
    let more : b * p < q * p = mul-lt-mul_of_pos_right less h in
    grind (arith, nat_tests)
same_test b p q h false e =
    let less : q ≤ b = grind (arith, nat_tests) in
    let more : q * p ≤ b * p = mul-le-mul_right p less in
    grind (arith, nat_tests)

split_up : (b e p : ℕ) → (b + suc e) * p ≡ b * p + (e * p + p)
split_up b e p = grind arith

-- a number whose sign bit is set, moved up and divided again
negative : (b p q : ℕ) → 0 < p → b < 2 * q → int_div_euclid (pos (b * p) -ℤ pos (2 * q * p)) (pos p) ≡ pos b -ℤ pos (2 * q)
negative b p q h less =
    let e = 2 * q - b - 1 in
    let whole : b + suc e ≡ 2 * q = omega arith in
    let large : b * p + suc (e * p + (p - 1)) ≡ 2 * q * p = omega (arith, split_up b e p, ap (λ x. x * p) whole) in
    ap (λ z. int_div_euclid z (pos p)) (below_zero (b * p) (2 * q * p) (e * p + (p - 1)) large) ∙ (back_down e p h ∙ sym (below_zero b (2 * q) e whole))

-- the signed reading, moved up by a power and divided again
up_and_down : (b p q : ℕ) → 0 < p → b < 2 * q → int_div_euclid (if nat_lt (b * p) (q * p) then pos (b * p) else pos (b * p) -ℤ pos (2 * q * p)) (pos p) ≡ (if nat_lt b q then pos b else pos b -ℤ pos (2 * q))
up_and_down b p q h less = by_test (nat_lt b q) refl where
  by_test : (t : Bool) → nat_lt b q ≡ t → int_div_euclid (if nat_lt (b * p) (q * p) then pos (b * p) else pos (b * p) -ℤ pos (2 * q * p)) (pos p) ≡ (if t then pos b else pos b -ℤ pos (2 * q))
  by_test true e = ap (λ t. int_div_euclid (if t then pos (b * p) else pos (b * p) -ℤ pos (2 * q * p)) (pos p)) (same_test b p q h true e) ∙ ap pos (mul-div_cancel b h)
  by_test false e = ap (λ t. int_div_euclid (if t then pos (b * p) else pos (b * p) -ℤ pos (2 * q * p)) (pos p)) (same_test b p q h false e) ∙ negative b p q h less

-- the same of so many bits
signed_back : (b n k : ℕ) → b < 2 ^ suc n → int_div_euclid (signed (suc n + k) (b * 2 ^ k)) (pos (2 ^ k)) ≡ signed (suc n) b
signed_back b n k less =
    let half : suc n + k - 1 ≡ n + k = omega arith in
    let whole : 2 ^ (suc n + k) ≡ 2 * 2 ^ n * 2 ^ k = pow-add 2 (suc n) k ∙ ap (λ x. x * 2 ^ k) (pow-succ' 2 n) in
    ap (λ j. int_div_euclid (if nat_lt (b * 2 ^ k) (2 ^ j) then pos (b * 2 ^ k) else pos (b * 2 ^ k) -ℤ pos (2 ^ (suc n + k))) (pos (2 ^ k))) half
    ∙ (ap (λ j. int_div_euclid (if nat_lt (b * 2 ^ k) j then pos (b * 2 ^ k) else pos (b * 2 ^ k) -ℤ pos (2 ^ (suc n + k))) (pos (2 ^ k))) (pow-add 2 n k)
    ∙ (ap (λ j. int_div_euclid (if nat_lt (b * 2 ^ k) (2 ^ n * 2 ^ k) then pos (b * 2 ^ k) else pos (b * 2 ^ k) -ℤ pos j) (pos (2 ^ k))) whole
    ∙ (up_and_down b (2 ^ k) (2 ^ n) (pow_pos k) (let twice = pow-succ' 2 n in omega (arith, less))
    ∙ (ap (λ j. if nat_lt b (2 ^ n) then pos b else pos b -ℤ pos j) (sym (pow-succ' 2 n)) ∙ ap (λ j. if nat_lt b (2 ^ j) then pos b else pos b -ℤ pos (2 ^ suc n)) (let less : n ≡ suc n - 1 = omega arith in less)))))

-- to the left and back to the right, by the bits that are left out
shifts_extend : (n k a : ℕ) → num_binary ShrS (suc n + k) ((a * 2 ^ k) % 2 ^ (suc n + k)) k ≡ Ok (extended_from (suc n) (suc n + k) a)
shifts_extend n k a =
    ap (λ j. Ok (wrap (suc n + k) (int_div_euclid (signed (suc n + k) ((a * 2 ^ k) % 2 ^ (suc n + k))) (pos (2 ^ j))))) (mod-eq_of_lt (omega arith))
    ∙ (ap (λ x. Ok (wrap (suc n + k) (int_div_euclid (signed (suc n + k) x) (pos (2 ^ k))))) (moved_up a (suc n) k)
    ∙ ap (λ z. Ok (wrap (suc n + k) z)) (signed_back (a % 2 ^ suc n) n k (mod_below a (2 ^ suc n) (pow_pos (suc n)))))

by_count : (n w k a : ℕ) → suc n + k ≡ w → num_binary ShrS w ((a * 2 ^ k) % 2 ^ w) k ≡ Ok (extended_from (suc n) w a)
by_count n w k a e = subst (λ v. num_binary ShrS v ((a * 2 ^ k) % 2 ^ v) k ≡ Ok (extended_from (suc n) v a)) e (shifts_extend n k a)

pub shifted_left : (n w a : ℕ) → 0 < n → n ≤ w → num_binary Shl w a (w - n) ≡ Ok ((a * 2 ^ (w - n)) % 2 ^ w)
shifted_left n w a some most = ap (λ j. Ok ((a * 2 ^ j) % 2 ^ w)) (mod-eq_of_lt (omega arith))

pub shifted_back : (n w a : ℕ) → 0 < n → n ≤ w → num_binary ShrS w ((a * 2 ^ (w - n)) % 2 ^ w) (w - n) ≡ Ok (extended_from n w a)
shifted_back zero w a some most = absurd (omega arith)
shifted_back (suc n) w a some most = by_count n w (w - suc n) a (omega arith)
