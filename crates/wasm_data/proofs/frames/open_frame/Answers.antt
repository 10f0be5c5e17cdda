use Rattle.std.proofs.Common.{◌≡◌, ◌-◌, ◌+◌, take, drop, subst, arith}
use Rattle.std.specs.Prelude.{replicate}
use Rattle.wasm_data.proofs.Opened.{zero_more, before_more, locals_before, none_above, callers_operands, new_locals, take_before}
use Rattle.wasm_data.proofs.frames.open_frame.Goals as goal

pub zeros-preserved : goal.zeros-preserved
zeros-preserved c = record {
  before = before_more c.zeros.values c.args.values.now c.args.marks.sp c.zeros.i (omega (arith, c.zeros.auto.i)) c.zeros.invariant.before;
  zeros = zero_more c.zeros.values c.args.marks.sp c.zeros.i (omega (arith, c.zeros.auto.i)) (omega (arith, c.zeros.auto.values, c.zeros-test.true, c.requires.room)) c.zeros.invariant.zeros;
}

pub returns-clause-locals : goal.returns-clause-locals
returns-clause-locals c =
    let m = c.args.marks in
    let at : c.zeros.i - m.sp ≡ c.args.declared = omega (arith, c.zeros-test.false, c.zeros.auto.i, c.zeros.auto.i-end) in
    new_locals m.floor m.sp c.args.params c.args.declared c.zeros.values c.args.values.now c.requires.params c.requires.within.operands c.requires.within.room (omega (arith, c.zeros.auto.values)) c.zeros.invariant.before
    (subst (λ n. take n (drop m.sp c.zeros.values) ≡ replicate n 0) at c.zeros.invariant.zeros)

pub returns-clause-operands : goal.returns-clause-operands
returns-clause-operands c = none_above (c.args.marks.sp + c.args.declared) c.zeros.values

pub returns-clause-callers_locals : goal.returns-clause-callers_locals
returns-clause-callers_locals c = locals_before c.args.marks.base c.args.marks.floor c.args.marks.sp c.zeros.values c.args.values.now c.requires.within.locals c.requires.within.operands c.zeros.invariant.before

pub returns-clause-callers_operands : goal.returns-clause-callers_operands
returns-clause-callers_operands c =
    callers_operands c.args.marks.floor c.args.marks.sp c.args.params c.zeros.values c.args.values.now c.requires.params c.requires.within.operands c.requires.within.room c.zeros.invariant.before

pub returns-clause-deep : goal.returns-clause-deep
returns-clause-deep c = take_before (c.args.marks.sp - c.args.params) c.args.marks.sp c.zeros.values c.args.values.now (omega arith) c.zeros.invariant.before
