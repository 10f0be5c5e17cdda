use Rattle.std.proofs.lemmas.Result.{err_from_is_err_and}
use Rattle.wasm_code.specs.Answers.{place}
use Rattle.wasm_code.specs.Fields.{times, u32}
use Rattle.wasm_code.proofs.Loops.{begins, goes_on, stops, is_done}
use Rattle.wasm_code.proofs.indices.times.Goals as goal

pub indices-init : goal.indices-init
indices-init c = rw c.new-found.ensures.items (begins u32 c.args.count (place c.args.input))

pub returns-in_err-index : goal.returns-in_err-index
returns-in_err-index c =
    let p = err_from_is_err_and c.from_residual.result c.from_residual.ensures.1 in
    rw (p.1, p.2) (stops u32 c.indices.found.items c.args.count c.indices.counter (place c.indices.left) (times u32 c.args.count (place c.args.input)) c.in_err-index.field-0.0 c.indices-test.true c.in_err-index.ensures c.indices.invariant)

pub indices-preserved : goal.indices-preserved
indices-preserved c =
    rw c.in_ok-push.ensures.items (goes_on u32 c.indices.found.items c.args.count c.indices.counter (place c.indices.left) c.in_ok-index.index (place c.in_ok-index.after) (times u32 c.args.count (place c.args.input)) c.indices-test.true c.in_ok-index.ensures c.indices.invariant)

pub returns : goal.returns
returns c = is_done u32 c.indices.found.items c.args.count c.indices.counter (place c.indices.left) (times u32 c.args.count (place c.args.input)) c.indices-test.false c.indices.invariant
