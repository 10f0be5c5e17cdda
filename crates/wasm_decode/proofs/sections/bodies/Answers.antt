use Rattle.std.proofs.lemmas.Result.{err_from_is_err_and}
use Rattle.wasm_code.specs.Answers.{place}
use Rattle.wasm_decode.specs.Parts.{bodies}
use Rattle.wasm_decode.proofs.NumberedBodies.{begins, goes_on, stops_at_size, stops_at_body, is_done}
use Rattle.wasm_decode.proofs.sections.bodies.Goals as goal

pub bodies-init : goal.bodies-init
bodies-init c = rw c.new-found.ensures.items (begins c.args.count (place c.args.input))

pub returns-in_err-range : goal.returns-in_err-range
returns-in_err-range c =
    let p = err_from_is_err_and c.from_residual.result c.from_residual.ensures.1 in
    rw (p.1, p.2) (stops_at_size c.bodies.found.items c.args.count c.bodies.function (place c.bodies.left) (bodies 0 c.args.count (place c.args.input)) c.in_err-range.field-0.0 c.bodies-test.true c.in_err-range.ensures.exact c.bodies.invariant)

pub returns-in_err-body : goal.returns-in_err-body
returns-in_err-body c =
    let p = err_from_is_err_and c.from_residual-in_err-body.result c.from_residual-in_err-body.ensures.1 in
    rw (p.1, p.2) (stops_at_body c.bodies.found.items c.args.count c.bodies.function (place c.bodies.left) (place c.in_ok-range.range, place c.in_ok-range.after) (bodies 0 c.args.count (place c.args.input)) c.in_err-body.field-0.0 c.bodies-test.true c.in_ok-range.ensures.exact c.in_err-body.ensures c.bodies.invariant)

pub bodies-preserved : goal.bodies-preserved
bodies-preserved c =
    rw c.in_ok-push.ensures.items (goes_on c.bodies.found.items c.args.count c.bodies.function (place c.bodies.left) (place c.in_ok-range.range, place c.in_ok-range.after) c.in_ok-body.body (bodies 0 c.args.count (place c.args.input)) c.bodies-test.true c.in_ok-range.ensures.exact c.in_ok-body.ensures c.bodies.invariant)

pub returns : goal.returns
returns c = is_done c.bodies.found.items c.args.count c.bodies.function (place c.bodies.left) (bodies 0 c.args.count (place c.args.input)) c.bodies-test.false c.bodies.invariant
