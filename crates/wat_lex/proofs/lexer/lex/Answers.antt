use Rattle.std.proofs.Common.{◌≡◌, ap, sym, ◌∙◌, Ok, List, length}
use Rattle.std.proofs.lemmas.Result.{err_from_is_err_and}
use Rattle.wat_lex.proofs.Walk.{goes, stops, done, fails, within}
use Rattle.wat_lex.proofs.lexer.lex.Goals as goal

pub returns-in_err-state : goal.returns-in_err-state
returns-in_err-state c =
    let p = err_from_is_err_and c.from_residual.result c.from_residual.ensures.1 in
    rw (p.1, p.2) (stops c.in_err-state.field-0.0 c.bytes.found.items c.step.new.found.items c.bytes.state c.bytes.at c.args.text.now c.bytes-test.true c.in_err-state.ensures c.bytes.invariant.stands)

pub bytes-preserved : goal.bytes-preserved
bytes-preserved c = record {
  within = within c.bytes.at (length c.args.text.now) c.bytes-test.true;
  stands = goes c.bytes.found.items c.step.new.found.items c.bytes.state c.in_ok-state.state c.bytes.at c.args.text.now c.bytes-test.true c.in_ok-state.ensures c.bytes.invariant.stands;
}

pub returns-in_err-finish : goal.returns-in_err-finish
returns-in_err-finish c =
    let p = err_from_is_err_and c.from_residual-in_err-finish.result c.from_residual-in_err-finish.ensures.1 in
    rw (p.1, p.2) (fails c.in_err-finish.field-0.0 c.bytes.found.items c.finish.new.found.items c.bytes.state c.bytes.at c.args.text.now c.bytes.invariant.within c.bytes-test.false c.in_err-finish.ensures c.bytes.invariant.stands)

pub returns : goal.returns
returns c = rw c.of.ensures (done c.bytes.found.items c.finish.new.found.items c.bytes.state c.bytes.at c.args.text.now c.bytes.invariant.within c.bytes-test.false c.in_ok-finish.ensures c.bytes.invariant.stands)
