use Rattle.std.proofs.lemmas.Result.{err_from_is_err_and}
use Rattle.wasm_code.specs.Answers.{place}
use Rattle.wasm_code.specs.Fields.{times}
use Rattle.wasm_code.proofs.Loops.{begins, goes_on, stops, is_done}
use Rattle.wasm_decode.proofs.members.times.Goals as goal

pub members-init : goal.members-init
members-init g c = rw c.new-found.ensures.items (begins g.T.Member.read c.args.count (place c.args.input))

pub returns-in_err-member : goal.returns-in_err-member
returns-in_err-member g c =
    let p = err_from_is_err_and c.from_residual.result c.from_residual.ensures.1 in
    rw (p.1, p.2) (stops g.T.Member.read c.members.found.items c.args.count c.members.counter (place c.members.left) (times g.T.Member.read c.args.count (place c.args.input)) c.in_err-member.field-0.0 c.members-test.true c.in_err-member.ensures c.members.invariant)

pub members-preserved : goal.members-preserved
members-preserved g c =
    rw c.in_ok-push.ensures.items (goes_on g.T.Member.read c.members.found.items c.args.count c.members.counter (place c.members.left) c.in_ok-member.member (place c.in_ok-member.after) (times g.T.Member.read c.args.count (place c.args.input)) c.members-test.true c.in_ok-member.ensures c.members.invariant)

pub returns : goal.returns
returns g c = is_done g.T.Member.read c.members.found.items c.args.count c.members.counter (place c.members.left) (times g.T.Member.read c.args.count (place c.args.input)) c.members-test.false c.members.invariant
