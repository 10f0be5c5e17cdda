use Rattle.std.proofs.Common.{◌+◌, ◌≤◌, ◌++◌, take, sym, subst, ap, ◌∙◌, arith, Bool}
use Rattle.wasm_semantics.specs.Operators.{truth}
use Rattle.wasm_data.specs.Marked.{operands_in}
use Rattle.wasm_data.proofs.Arrays.{put_operands, top_operand}
use Rattle.wasm_data.proofs.frames.hand.Goals as goal

pub returns-then-gives-clause-operands : goal.returns-then-gives-clause-operands
returns-then-gives-clause-operands c =
    let m = c.args.marks in
    let b = c.args.below in
    let R : Bool → Type 0 = λ g. m.floor + truth g ≤ m.sp in
    let room : m.floor + 1 ≤ m.sp = subst R c.if-gives.true c.requires.room in
    let deep = operands_in b.floor b.sp c.args.values.now in
    put_operands b.floor b.sp c.args.values.now _ c.requires.below.operands (omega (arith, room, c.requires.begins, c.requires.within.locals, c.requires.within.room))
    ∙ (ap (λ xs. take 1 xs ++ deep) (sym (top_operand m.floor m.sp c.args.values.now (omega (arith, room)) c.requires.within.room))
    ∙ ap (λ g. take (truth g) (operands_in m.floor m.sp c.args.values.now) ++ deep) (sym c.if-gives.true))
