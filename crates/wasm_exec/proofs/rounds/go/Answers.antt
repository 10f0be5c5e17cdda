use Rattle.std.proofs.Common.{◌+◌, ◌-◌, refl, ◌∙◌}
use Rattle.wasm_semantics.specs.Threads.{Trapped, Done}
use Rattle.wasm_frames.specs.Standing.{held, store_of}
use Rattle.wasm_exec.specs.Rounds.{ended}
use Rattle.wasm_exec.proofs.Courses.{stops, goes_next, asks}
use Rattle.wasm_exec.proofs.rounds.go.Goals as goal

pub returns-in-Trapped-clause-comes : goal.returns-in-Trapped-clause-comes
returns-in-Trapped-clause-comes c =
    let st = store_of c.units.memory.bytes c.units.globals c.args.table.now in
    let h = held c.units.places c.units.codes c.units.values c.units.opens c.units.nexts in
    stops c.args.program.now c.args.pages c.args.count c.args.used c.units.at _ c.args.codes.now st h c.units.here (Trapped c.in-Trapped.trap) (ended (c.units.at + 1) (Trapped c.in-Trapped.trap))
    c.units-test.true c.units.invariant.left c.in-Trapped.ensures.answered refl

pub returns-in-Done-clause-comes : goal.returns-in-Done-clause-comes
returns-in-Done-clause-comes c =
    let st = store_of c.units.memory.bytes c.units.globals c.args.table.now in
    let h = held c.units.places c.units.codes c.units.values c.units.opens c.units.nexts in
    stops c.args.program.now c.args.pages c.args.count c.args.used c.units.at _ c.args.codes.now st h c.units.here Done (ended (c.units.at + 1) Done)
    c.units-test.true c.units.invariant.left c.in-Done.ensures.answered refl

pub returns-in-Asks-clause-comes : goal.returns-in-Asks-clause-comes
returns-in-Asks-clause-comes c =
    let st = store_of c.units.memory.bytes c.units.globals c.args.table.now in
    let h = held c.units.places c.units.codes c.units.values c.units.opens c.units.nexts in
    let st' = store_of c.step.new.memory.bytes c.step.new.globals c.args.table.now in
    let h' = held c.step.new.places c.step.new.codes c.step.new.values c.step.new.opens c.step.new.nexts in
    asks c.args.program.now c.args.pages c.args.count c.args.used c.units.at _ c.args.codes.now st st' h h' c.units.here c.in-Asks.waits c.in-Asks.name
    c.requires.valid c.units-test.true c.units.invariant.left c.in-Asks.ensures.answered.0 c.in-Asks.ensures.answered.1

pub units-preserved : goal.units-preserved
units-preserved c =
    let st = store_of c.units.memory.bytes c.units.globals c.args.table.now in
    let h = held c.units.places c.units.codes c.units.values c.units.opens c.units.nexts in
    let st' = store_of c.step.new.memory.bytes c.step.new.globals c.args.table.now in
    let h' = held c.step.new.places c.step.new.codes c.step.new.values c.step.new.opens c.step.new.nexts in
    record {
      maximum = c.step.ensures.maximum ∙ c.units.invariant.maximum;
      left = goes_next c.args.program.now c.args.pages c.args.count c.args.used c.units.at _ c.args.codes.now st st' h h' c.units.here c.in-Goes.next
          c.requires.valid c.units.auto.at c.units-test.true c.units.invariant.left c.in-Goes.ensures.answered.0 c.in-Goes.ensures.answered.1;
    }
