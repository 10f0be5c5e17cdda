use Rattle.std.proofs.Common.{ap, sym, subst, ◌∙◌}
use Rattle.std.specs.Char.{is_ascii_digit}
use Rattle.std.specs.List.{list_all}
use Rattle.event_file.proofs.Numerals.{IsCount, digits_are_text, unparsed_digits}
use Rattle.event_file.proofs.words.number_of.Goals as goal

pub returns-in_default : goal.returns-in_default
returns-in_default c = absurd (c.in_default.ensures.cases.0 (digits_are_text c.args.digits.now c.requires))

pub returns-in-Err : goal.returns-in-Err
returns-in-Err c = λ k.
    let same = c.in-Ok.ensures.cases.0 in
    let value = rw c.in-Err.is at c.parse.ensures.value in
    unparsed_digits c.in-Ok.text.now c.in-Err.field-0 (ap (list_all is_ascii_digit) same ∙ c.requires) value.0 (subst IsCount (sym same) k)
