use Rattle.std.proofs.Common.{subst}
use Rattle.wasm_semantics.specs.Units.{units}
use Rattle.wasm_exec.specs.Machines.{thread_of, HasAsked, StopsAs}
use Rattle.engine_tests.proofs.machines.turn.Goals as goal

pub returns-in-Call : goal.returns-in-Call
returns-in-Call c =
    let m = c.args.module.now in
    let course = units m c.args.pages (thread_of m c.args.machine.now) c.args.units in
    let x = c.run-ran.new.self in
    let has_asked : HasAsked m course c.run-ran.result.used c.in-Call.asked x =
    subst (λ w. StopsAs m course c.run-ran.result.used w x) c.in-Call.is c.run-ran.ensures.stops in
    c.resume.ensures.ready m c.in-Call.asked.name has_asked.waits c.answer_to.ensures
