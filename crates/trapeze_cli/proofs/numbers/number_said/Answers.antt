use Rattle.std.proofs.Common.{◌≡◌, true, ap, sym, ◌∙◌, arith}
use Rattle.std.specs.Char.{is_ascii_digit}
use Rattle.std.specs.List.{list_all}
use Rattle.trapeze_cli.proofs.Numerals.{long_said, other_said, parsed_said, unparsed_said}
use Rattle.trapeze_cli.proofs.numbers.number_said.Goals as goal

pub returns-then-word-gt-MOST_DIGITS : goal.returns-then-word-gt-MOST_DIGITS
returns-then-word-gt-MOST_DIGITS c = long_said c.args.word.now (omega (arith, c.if-word-gt-MOST_DIGITS.true))

pub returns-then-not-are_digits : goal.returns-then-not-are_digits
returns-then-not-are_digits c =
    other_said c.args.word.now (ap (list_all is_ascii_digit) (sym c.as_bytes.ensures.value) ∙ sym c.are_digits.ensures ∙ c.if-not-are_digits.true)

pub returns-in-Ok : goal.returns-in-Ok
returns-in-Ok c =
    let value = rw c.in-Ok.is at c.parse.ensures.value in
    let digits : list_all is_ascii_digit c.args.word.now ≡ true = ap (list_all is_ascii_digit) (sym c.as_bytes.ensures.value) ∙ sym c.are_digits.ensures ∙ c.if-not-are_digits.false in
    parsed_said c.args.word.now c.in-Ok.number (omega (arith, c.if-word-gt-MOST_DIGITS.false)) digits value.0

pub returns-in-Err : goal.returns-in-Err
returns-in-Err c =
    let value = rw c.in-Err.is at c.parse.ensures.value in
    let digits : list_all is_ascii_digit c.args.word.now ≡ true = ap (list_all is_ascii_digit) (sym c.as_bytes.ensures.value) ∙ sym c.are_digits.ensures ∙ c.if-not-are_digits.false in
    unparsed_said c.args.word.now c.in-Err.field-0 (omega (arith, c.if-word-gt-MOST_DIGITS.false)) digits value.0
