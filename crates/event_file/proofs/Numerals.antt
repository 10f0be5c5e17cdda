-- Digits are text, and parse as their number where there are some and it is below 2 ^ 32.
use Rattle.std.proofs.Common.{◌≡◌, ℕ, ◌<◌, ◌≤◌, ◌^◌, true, false, List, [], ◌∷◌, length, Err, refl, ap, subst, arith}
use Rattle.std.specs.Prelude.{◌==◌, cond, drop}
use Rattle.std.specs.Char.{is_ascii_digit, digit_value}
use Rattle.std.specs.List.{list_all}
use Rattle.std.specs.Str.{IsAscii, IsUtf8}
use Rattle.std.specs.Str.Parse.{AllDigits, IsNumeral, digits_value, without_leading_plus, ParsesUnsigned}
use Rattle.std.proofs.lemmas.Bool.{and_parts}
use Rattle.std.proofs.lemmas.Bool.Decides.{nat_tests}
use Rattle.std.proofs.lemmas.Str.{IsUtf8-from_ascii}
use Rattle.std.proofs.lemmas.Str.Ascii.{IsAscii-nil, IsAscii-cons}

digit_range : (c : ℕ) → is_ascii_digit c ≡ true → (48 ≤ c) × (c ≤ 57)
digit_range c h = (grind (arith, nat_tests), grind (arith, nat_tests))

is_digit : (c : ℕ) → is_ascii_digit c ≡ true → digit_value c < 10
is_digit c h = let r = digit_range c h in grind (arith, nat_tests)

all_digits : (ds : List ℕ) → list_all is_ascii_digit ds ≡ true → AllDigits 10 ds
all_digits [] h = tt
all_digits (d ∷ ds) h =
    let parts = and_parts (is_ascii_digit d) (list_all is_ascii_digit ds) h in
    (is_digit d parts.0, all_digits ds parts.1)

are_ascii : (ds : List ℕ) → list_all is_ascii_digit ds ≡ true → IsAscii ds
are_ascii [] h = IsAscii-nil
are_ascii (d ∷ ds) h =
    let parts = and_parts (is_ascii_digit d) (list_all is_ascii_digit ds) h in
    let r = digit_range d parts.0 in
    IsAscii-cons d ds (omega (arith, r.1)) (are_ascii ds parts.1)

-- digits are text
pub digits_are_text : (ds : List ℕ) → list_all is_ascii_digit ds ≡ true → IsUtf8 ds
digits_are_text ds h = IsUtf8-from_ascii ds (are_ascii ds h)

-- digits have no plus before them
no_plus : (ds : List ℕ) → list_all is_ascii_digit ds ≡ true → without_leading_plus ds ≡ ds
no_plus [] h = refl
no_plus (d ∷ ds) h =
    let parts = and_parts (is_ascii_digit d) (list_all is_ascii_digit ds) h in
    let r = digit_range d parts.0 in
    let none : (d == 43) ≡ false = grind (arith, nat_tests) in
    ap (λ b. drop (cond b 1 0) (d ∷ ds)) none

abbrev pub IsCount : List ℕ → Type 0
IsCount ds = (0 < length ds) × (digits_value 10 ds < 2 ^ 32)

pub unparsed_digits : {E : Type 0} (ds : List ℕ) (e : E) → list_all is_ascii_digit ds ≡ true → ParsesUnsigned 32 10 ds (Err e) → IsCount ds → ⊥
unparsed_digits ds e h p =
    let q = subst (λ (t : List ℕ). (IsNumeral 10 t × (digits_value 10 t < 2 ^ 32)) → ⊥) (no_plus ds h) p in
    λ k. q ((k.0, all_digits ds h), k.1)
