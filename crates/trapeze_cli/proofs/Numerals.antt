-- What parsing says of the number that a word says.
use Rattle.std.proofs.Common.{rules, ◌≡◌, ℕ, ◌<◌, ◌≤◌, ◌^◌, true, false, List, length, Ok, Err, Some, None, sym, ap, ◌∙◌, arith}
use Rattle.std.specs.Prelude.{⊤, nat_le, nat_lt, ◌&&◌}
use Rattle.std.specs.Char.{is_ascii_digit}
use Rattle.std.specs.List.{list_all}
use Rattle.std.specs.Result.{OkIff}
use Rattle.std.specs.Str.Parse.{digits_value, ParsesUnsigned}
use Rattle.std.proofs.lemmas.Bool.{and_parts, and_from, leb-true, ltb-true, le-leb, lt-ltb, cond-true, cond-false, false_from_ne_true}
use Rattle.std.proofs.lemmas.Str.Parse.{IsNumeralModel, numerals_by_value, parse_digits}
use Rattle.trapeze_cli.specs.Numbers.{says_number, number_said}

digits_own : IsNumeralModel (λ ds. list_all is_ascii_digit ds ≡ true) (digits_value 10)
digits_own = numerals_by_value _ (search rules)

-- what is tested of a word
record IsTested (word : List ℕ) : Type 0 where
  some : 1 ≤ length word
  few : length word ≤ 20
  digits : list_all is_ascii_digit word ≡ true
  small : digits_value 10 word < 2 ^ 64

tested : (word : List ℕ) → says_number word ≡ true → IsTested word
tested word is =
    let ends = and_parts (nat_le 1 (length word) && nat_le (length word) 20) (list_all is_ascii_digit word && nat_lt (digits_value 10 word) (2 ^ 64)) is in
    let counts = and_parts (nat_le 1 (length word)) (nat_le (length word) 20) ends.0 in
    let values = and_parts (list_all is_ascii_digit word) (nat_lt (digits_value 10 word) (2 ^ 64)) ends.1 in
    record {
      some = leb-true 1 (length word) counts.0;
      few = leb-true (length word) 20 counts.1;
      digits = values.0;
      small = ltb-true (digits_value 10 word) (2 ^ 64) values.1;
    }

passes : (word : List ℕ) → IsTested word → says_number word ≡ true
passes word is =
    and_from (nat_le 1 (length word) && nat_le (length word) 20) (list_all is_ascii_digit word && nat_lt (digits_value 10 word) (2 ^ 64))
    (and_from (nat_le 1 (length word)) (nat_le (length word) 20) (le-leb 1 (length word) is.some) (le-leb (length word) 20 is.few))
    (and_from (list_all is_ascii_digit word) (nat_lt (digits_value 10 word) (2 ^ 64)) is.digits (lt-ltb (digits_value 10 word) (2 ^ 64) is.small))

none_said : (word : List ℕ) → ¬ IsTested word → None ≡ number_said word
unfolding number_said
none_said word k = sym (cond-false (says_number word) (Some (digits_value 10 word)) None (false_from_ne_true (says_number word) (λ e. k (tested word e))))

some_said : (word : List ℕ) → IsTested word → Some (digits_value 10 word) ≡ number_said word
unfolding number_said
some_said word is = sym (cond-true (says_number word) (Some (digits_value 10 word)) None (passes word is))

-- too many digits, or a byte that is none
pub long_said : (word : List ℕ) → 20 < length word → None ≡ number_said word
long_said word long = none_said word (λ is. omega (arith, long, is.few))

pub other_said : (word : List ℕ) → list_all is_ascii_digit word ≡ false → None ≡ number_said word
other_said word other = none_said word (λ is. absurd (let e : false ≡ true = sym other ∙ is.digits in cc))

-- what parsing gives of digits
pub parsed_said : (word : List ℕ) (n : ℕ) → length word ≤ 20 → list_all is_ascii_digit word ≡ true → ParsesUnsigned {E = ⊤} 64 10 word (Ok n) → Some n ≡ number_said word
parsed_said word n few digits p =
    let q : OkIff {E = ⊤} (Ok n) ((0 < length word) × (digits_value 10 word < 2 ^ 64)) (digits_value 10 word) = parse_digits digits_own {E = ⊤} 64 word (Ok n) p digits in
    ap Some q.1 ∙ some_said word (record { some = omega (arith, q.0.0); few = few; digits = digits; small = q.0.1 })

pub unparsed_said : {E : Type 0} (word : List ℕ) (e : E) → length word ≤ 20 → list_all is_ascii_digit word ≡ true → ParsesUnsigned 64 10 word (Err e) → None ≡ number_said word
unparsed_said {E} word e few digits p =
    none_said word (λ is.
    let q : OkIff {E = E} (Err e) ((0 < length word) × (digits_value 10 word < 2 ^ 64)) (digits_value 10 word) = parse_digits digits_own 64 word (Err e) p digits in
    q (omega (arith, is.some), is.small))
