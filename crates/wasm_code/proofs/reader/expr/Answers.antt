use Rattle.std.proofs.Common.{◌∙◌, sym, subst}
use Rattle.std.proofs.lemmas.Result.{err_from_is_err_and}
use Rattle.wasm_code.specs.Answers.{place, IsFirstFault}
use Rattle.wasm_code.proofs.Stepping.{smaller, goes, ends}
use Rattle.wasm_code.proofs.Runs.{fails, begins}
use Rattle.wasm_code.proofs.reader.expr.Goals as goal

pub opcodes-init : goal.opcodes-init
opcodes-init c = begins c.new.result c.new-2.result (place c.args.input) c.new.ensures c.new-2.ensures

pub opcodes-smaller : goal.opcodes-smaller
opcodes-smaller c =
    let old = c.opcodes.reader in
    let new = c.step.new.self in
    smaller old.frames old.items (place old.input) new.frames new.items (place new.input) (rw c.if-branch.false at c.in_ok-step.ensures)

pub opcodes-preserved : goal.opcodes-preserved
opcodes-preserved c =
    let old = c.opcodes.reader in
    let new = c.step.new.self in
    sym (goes old.frames old.items (place old.input) new.frames new.items (place new.input) (rw c.if-branch.false at c.in_ok-step.ensures)) ∙ c.opcodes.invariant

pub returns-then-branch : goal.returns-then-branch
returns-then-branch c =
    let old = c.opcodes.reader in
    let new = c.step.new.self in
    sym c.opcodes.invariant ∙ ends old.frames old.items (place old.input) new.items (place new.input) (rw c.if-branch.true at c.in_ok-step.ensures)

pub returns-in_err-step : goal.returns-in_err-step
returns-in_err-step c =
    let old = c.opcodes.reader in
    let p = err_from_is_err_and c.from_residual.result c.from_residual.ensures.1 in
    rw (p.1, p.2) (subst (IsFirstFault c.in_err-step.field-0.0) c.opcodes.invariant (fails old.frames old.items (place old.input) c.in_err-step.field-0.0 c.in_err-step.ensures))
