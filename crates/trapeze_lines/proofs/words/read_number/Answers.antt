use Rattle.std.proofs.Common.{◌≡◌, false, sym, ap, ◌∙◌, true}
use Rattle.trapeze_lines.specs.Reading.{number_of}
use Rattle.trapeze_lines.proofs.Spellings.{silent, same_text, text_same, no_text, not_parsed, parsed, parsed_other}
use Rattle.trapeze_lines.proofs.words.read_number.Goals as goal

pub returns-in_default : goal.returns-in_default
returns-in_default c = silent (number_of c.args.word.now) (no_text c.args.word.now (c.in_default.ensures.cases.0))

pub returns-in_default-parse : goal.returns-in_default-parse
returns-in_default-parse c =
    let value = rw c.in_default-parse.is at c.parse.ensures.value in
    silent (number_of c.args.word.now) (ap number_of (sym c.in-Ok.ensures.cases.0) ∙ not_parsed c.in-Ok.text.now c.in_default-parse.field-0 value.0)

pub returns-then-eq : goal.returns-then-eq
returns-then-eq c =
    let value = rw c.in-Ok-parse.is at c.parse.ensures.value in
    let same : c.as_bytes.result.now ≡ c.args.word.now = same_text c.as_bytes.result.now c.args.word.now (sym c.eq.ensures ∙ c.if-eq.true) in
    ap number_of (sym c.in-Ok.ensures.cases.0)
    ∙ parsed c.in-Ok.text.now c.in-Ok-parse.number value.0 (sym c.format.ensures.text ∙ sym c.as_bytes.ensures.value ∙ same ∙ sym c.in-Ok.ensures.cases.0)

pub returns-else-eq : goal.returns-else-eq
returns-else-eq c =
    let value = rw c.in-Ok-parse.is at c.parse.ensures.value in
    silent (number_of c.args.word.now) (ap number_of (sym c.in-Ok.ensures.cases.0)
    ∙ parsed_other c.in-Ok.text.now c.in-Ok-parse.number value.0 (λ e.
    let same : c.as_bytes.result.now ≡ c.args.word.now = c.as_bytes.ensures.value ∙ c.format.ensures.text ∙ e ∙ c.in-Ok.ensures.cases.0 in
    let test : false ≡ true = sym c.if-eq.false ∙ c.eq.ensures ∙ text_same c.as_bytes.result.now c.args.word.now same in
    cc))
