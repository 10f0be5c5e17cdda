use Rattle.wasm_semantics.specs.Units.{units}
use Rattle.sandbox.specs.Threads.{thread_of, IsReady}
use Rattle.sandbox.proofs.RunEnds.{spent, done, trapped, asks, none}
use Rattle.sandbox.proofs.sandboxes.Sandbox.go.Goals as goal
use Rattle.sandbox.proofs.sandboxes.Sandbox.go.Goals.{in-Spent, in-Done, in-Trapped, in-Call, in-NoMemory}

pub run-ran-requires : goal.run-ran-requires
unfolding IsReady
run-ran-requires c = c.requires.ready

pub returns-clause-ends : goal.returns-clause-ends
unfolding thread_of
returns-clause-ends c =
    let m = c.args.module.now in
    let course = units m c.args.pages (thread_of m c.args.self) c.args.units in
    let r = c.run-ran.result in
    let x = c.run-ran.new.self in
    let s = c.run-ran.ensures.stops in
    elim c.match-ran.branch [
      | in-Spent w ↦ spent m course r.used r.stop x s w.in-Spent.is c.match-ran.going w.going-is
      | in-Done w ↦ done m course r.used r.stop x s w.in-Done.is c.match-ran.going w.going-is
      | in-Trapped w ↦ trapped m course r.used r.stop x w.in-Trapped.trap s w.in-Trapped.is c.match-ran.going w.going-is
      | in-Call w ↦ asks m course r.used r.stop x w.in-Call.asked s w.in-Call.is c.match-ran.going w.going-is
      | in-NoMemory w ↦ none m course r.used c.match-ran.going w.going-is
    ]
