use Rattle.std.proofs.Common.{arith}
use Rattle.std.proofs.lemmas.Result.{err_from_is_err_and}
use Rattle.wasm_code.specs.Answers.{place}
use Rattle.wasm_code.proofs.Runs.{IsOther, other_step, other_stops}
use Rattle.wasm_code.proofs.reader.Reader.step.Goals as goal

pub returns-in_err-instr-in_default : goal.returns-in_err-instr-in_default
returns-in_err-instr-in_default c =
    let old = c.args.self.now in
    let p = err_from_is_err_and c.from_residual-in_err-instr-in_default.result c.from_residual-in_err-instr-in_default.ensures.1 in
    let h : IsOther c.in_ok-opcode.opcode = record { block = omega arith; loop = omega arith; if_ = omega arith; otherwise = omega arith; end = omega arith } in
    rw (p.1, p.2) (other_stops c.in_ok-opcode.opcode old.frames old.items (place old.input) (place c.in_ok-opcode.after) c.in_err-instr-in_default.field-0.0 c.in_ok-opcode.ensures.exact h c.in_err-instr-in_default.ensures)

pub returns-in_ok-push-in_default : goal.returns-in_ok-push-in_default
returns-in_ok-push-in_default c =
    let old = c.args.self.now in
    let h : IsOther c.in_ok-opcode.opcode = record { block = omega arith; loop = omega arith; if_ = omega arith; otherwise = omega arith; end = omega arith } in
    rw c.in_ok-push-in_default.ensures (other_step c.in_ok-opcode.opcode old.frames old.items (place old.input) (place c.in_ok-opcode.after) c.in_ok-instr-in_default.instr (place c.in_ok-instr-in_default.after) c.in_ok-opcode.ensures.exact h c.in_ok-instr-in_default.ensures)
