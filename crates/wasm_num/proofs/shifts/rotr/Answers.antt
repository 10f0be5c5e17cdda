use Rattle.std.proofs.Common.{ap, ◌∙◌, lit<}
use Rattle.wasm_num.specs.Num.{width}
use Rattle.wasm_num.proofs.Rotations.{rotr_at}
use Rattle.wasm_num.proofs.shifts.rotr.Goals as goal

pub returns-then-wide : goal.returns-then-wide
returns-then-wide c =
    c.rotate_right.ensures
    ∙ rotr_at c.args.wide 64 c.args.a c.args.b c.count_of-count.result (ap width c.if-wide.true) (lit< tt) c.requires c.count_of-count.ensures.value

pub returns-else-wide : goal.returns-else-wide
returns-else-wide c =
    (c.from.ensures ∙ c.rotate_right-else-wide.ensures)
    ∙ rotr_at c.args.wide 32 c.args.a c.args.b c.count_of-count.result (ap width c.if-wide.false) (lit< tt) c.requires c.count_of-count.ensures.value
