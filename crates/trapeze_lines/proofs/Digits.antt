-- Digits without capital letters are told by the bytes that they spell.
use Rattle.std.proofs.Common.{◌≡◌, ℕ, zero, suc, ◌+◌, ◌*◌, ◌<◌, ◌/◌, ◌%◌, Bool, true, false, List, [], ◌∷◌, Option, Some, None, Result, Ok, Err, refl, sym, ap, ◌∙◌, arith, slice_index}
use Rattle.std.specs.Prelude.{not, ◌&&◌}
use Rattle.std.specs.List.{list_all}
use Rattle.std.specs.Char.{is_ascii_uppercase}
use Rattle.std.proofs.lemmas.Bool.Decides.{nat_tests}
use Rattle.std.proofs.lemmas.Bool.{and_parts}
use Rattle.hex.specs.Hex.{encode_lower, encode_with, lower_digits, decode_of, decode_pairs, hex_digit_value, digit_or_error, value_at, pair_value, ◌>>=◌}
use Rattle.hex.specs.declared.error.FromHexError.{FromHexError}
use Rattle.hex.proofs.HexLemmas.{decode_of-ok, decode_of-even, IsDigits-lower_digits}

-- the byte is no capital letter
abbrev pub is_lower : ℕ → Bool
is_lower b = not (is_ascii_uppercase b)

-- digits that are no capital letters are told by their values
told_digit : (c d v : ℕ) → hex_digit_value c ≡ Some v → hex_digit_value d ≡ Some v → is_ascii_uppercase c ≡ false → is_ascii_uppercase d ≡ false → c ≡ d
told_digit c d v hc hd lc ld = grind (arith, nat_tests)

not_capital : (t : Bool) → not t ≡ true → t ≡ false
not_capital true e = cc
not_capital false e = refl

lower_place : (ds : List ℕ) (n : ℕ) → list_all is_lower ds ≡ true → is_ascii_uppercase (slice_index ds n) ≡ false
lower_place [] n h = refl
lower_place (d ∷ ds) zero h = not_capital (is_ascii_uppercase d) (and_parts (is_lower d) (list_all is_lower ds) h).0
lower_place (d ∷ ds) (suc n) h = lower_place ds n (and_parts (is_lower d) (list_all is_lower ds) h).1

-- the digit of a value is the one that was read
lower_digit : (c v : ℕ) → hex_digit_value c ≡ Some v → v < 16 → is_lower c ≡ true → slice_index lower_digits v ≡ c
lower_digit c v h lt low =
    told_digit (slice_index lower_digits v) c v (IsDigits-lower_digits v lt) h (lower_place lower_digits v refl) (not_capital (is_ascii_uppercase c) low)

bind_ok : {A B : Type 0} (r : Result A FromHexError) (f : A → Result B FromHexError) (y : B)
    → (r >>= f) ≡ Ok y → (x : A) × (r ≡ Ok x) × (f x ≡ Ok y)
bind_ok (Ok x) f y h = (x, refl, h)
bind_ok (Err e) f y h = absurd (cc)

digit_read : (c i : ℕ) (o : Option ℕ) (v : ℕ) → digit_or_error c i o ≡ Ok v → o ≡ Some v
digit_read c i (Some w) v h = cc
digit_read c i None v h = absurd (cc)

small_digit : (c v : ℕ) → hex_digit_value c ≡ Some v → v < 16
small_digit c v h = grind (arith)

-- digits without capital letters are those of the bytes that they spell
lower_pairs : (i : ℕ) (s bytes : List ℕ) → decode_pairs i s ≡ Ok bytes → list_all is_lower s ≡ true → encode_lower bytes ≡ s
unfolding decode_pairs encode_with
lower_pairs i [] bytes h low = let e : [] ≡ bytes = cc in rw (← e) refl
lower_pairs i (a ∷ []) bytes h low = absurd (cc)
lower_pairs i (a ∷ b ∷ rest) bytes h low =
    let first = and_parts (is_lower a) (is_lower b && list_all is_lower rest) low in
    let second = and_parts (is_lower b) (list_all is_lower rest) first.1 in
    let p0 = bind_ok (pair_value a b i) _ bytes h in
    let p1 = bind_ok (value_at a i) _ p0.0 p0.1 in
    let p2 = bind_ok (value_at b (i + 1)) _ p0.0 p1.2 in
    let p3 = bind_ok (decode_pairs (i + 2) rest) _ bytes p0.2 in
    let ih = lower_pairs (i + 2) rest p3.0 p3.1 second.1 in
    let e : p0.0 ∷ p3.0 ≡ bytes = cc (p3.2) in
    let ra = digit_read a i (hex_digit_value a) p1.0 p1.1 in
    let rb = digit_read b (i + 1) (hex_digit_value b) p2.0 p2.1 in
    let va = small_digit a p1.0 ra in
    let vb = small_digit b p2.0 rb in
    let byte : p1.0 * 16 + p2.0 ≡ p0.0 = cc (p2.2) in
    let high : p0.0 / 16 ≡ p1.0 = omega arith in
    let low_ : p0.0 % 16 ≡ p2.0 = omega arith in
    let da : slice_index lower_digits (p0.0 / 16) ≡ a = ap (slice_index lower_digits) high ∙ lower_digit a p1.0 ra va first.0 in
    let db : slice_index lower_digits (p0.0 % 16) ≡ b = ap (slice_index lower_digits) low_ ∙ lower_digit b p2.0 rb vb second.0 in
    ap encode_lower (sym e) ∙ (λ j. da j ∷ db j ∷ ih j)

pub lower_text : (s bytes : List ℕ) → decode_of s ≡ Ok bytes → list_all is_lower s ≡ true → encode_lower bytes ≡ s
lower_text s bytes h low = let even = (decode_of-ok s bytes h).0 in lower_pairs 0 s bytes (sym (decode_of-even s even) ∙ h) low

pub lower_all : (bs : List ℕ) → list_all is_lower (encode_lower bs) ≡ true
unfolding encode_with
lower_all [] = refl
lower_all (b ∷ bs) = rw (lower_place lower_digits (b / 16) refl, lower_place lower_digits (b % 16) refl) (lower_all bs)
