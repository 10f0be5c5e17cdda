use Rattle.std.proofs.Common.{◌≡◌, Ok, Err, refl, sym, ap, ◌∙◌, List, ℕ}
use Rattle.trapeze_io.specs.Words.{words_of}
use Rattle.trapeze_lines.specs.Reading.{SaysNothing, line_of}
use Rattle.trapeze_lines.proofs.Reading.{text_sound, text_complete}
use Rattle.trapeze_lines.proofs.read.read_text.Goals as goal

pub returns-in-Ok : goal.returns-in-Ok
returns-in-Ok c =
    let says = rw c.in-Ok.is at c.read_line.ensures in
    text_sound c.args.lattice.now.names c.args.bytes.now c.in-Ok.line (ap (line_of c.args.lattice.now.names) (sym c.of.ensures) ∙ says)

pub returns-in-Err-NotALine : goal.returns-in-Err-NotALine
returns-in-Err-NotALine c = λ line is.
    let says = rw (c.in-Err-NotALine.is, c.in-Err-NotALine.field-0-is) at c.read_line.ensures in
    let none : line_of c.args.lattice.now.names (words_of c.args.bytes.now) ≡ Err SaysNothing = ap (line_of c.args.lattice.now.names) (sym c.of.ensures) ∙ says SaysNothing refl in
    let some = text_complete c.args.lattice.now.names c.count.ensures.sound.names line is.0 in
    let there = ap (λ (t : List ℕ). line_of c.args.lattice.now.names (words_of t)) is.1 in
    let k : Ok line ≡ Err SaysNothing = sym some ∙ there ∙ none in
    cc
