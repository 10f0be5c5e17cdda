use Rattle.std.proofs.Common.{◌-◌, ◌+◌, ◌≤◌, ◌++◌, take, sym, subst, ap, ◌∙◌, arith, Bool}
use Rattle.wasm_semantics.specs.Operators.{truth}
use Rattle.wasm_data.specs.Cuts.{under}
use Rattle.wasm_data.specs.Marked.{operands_in}
use Rattle.wasm_data.proofs.Arrays.{keep_one, under_operands, put_locals}
use Rattle.wasm_data.proofs.marks.keep.Goals as goal

pub returns-then-keeps-clause-operands : goal.returns-then-keeps-clause-operands
returns-then-keeps-clause-operands c =
    let m = c.args.marks in
    let ops = operands_in m.floor m.sp c.args.values.now in
    let R : Bool → Type 0 = λ b. c.args.to + truth b ≤ m.sp in
    let room : c.args.to + 1 ≤ m.sp = subst R c.if-keeps.true c.requires.room in
    keep_one m.floor c.args.to m.sp c.args.values.now c.requires.above room c.requires.within.room
    ∙ ap (λ b. take (truth b) ops ++ under (c.args.to - m.floor) ops) (sym c.if-keeps.true)

pub returns-then-keeps-clause-locals : goal.returns-then-keeps-clause-locals
returns-then-keeps-clause-locals c = put_locals c.args.marks.base c.args.marks.floor c.args.to c.args.values.now _ c.requires.within.locals c.requires.above

pub returns-else-keeps-clause-operands : goal.returns-else-keeps-clause-operands
returns-else-keeps-clause-operands c =
    let m = c.args.marks in
    let ops = operands_in m.floor m.sp c.args.values.now in
    let R : Bool → Type 0 = λ b. c.args.to + truth b ≤ m.sp in
    let room : c.args.to + 0 ≤ m.sp = subst R c.if-keeps.false c.requires.room in
    under_operands m.floor c.args.to m.sp c.args.values.now c.requires.above (omega (arith, room)) c.requires.within.room
    ∙ ap (λ b. take (truth b) ops ++ under (c.args.to - m.floor) ops) (sym c.if-keeps.false)
