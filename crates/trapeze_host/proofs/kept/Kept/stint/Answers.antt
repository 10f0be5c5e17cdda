use Rattle.std.proofs.Common.{refl, subst, arith}
use Rattle.label_lattice.specs.Order.{count}
use Rattle.wasm_semantics.specs.Units.{units}
use Rattle.sandbox.specs.declared.going.Going.{Going}
use Rattle.sandbox.specs.Threads.{thread_of}
use Rattle.sandbox.specs.Going.{EndsAs, Asks}
use Rattle.trapeze_host.specs.Loans.{module_in}
use Rattle.trapeze_host.specs.Turning.{IsFitReached}
use Rattle.trapeze_host.proofs.Stints.{owed}
use Rattle.trapeze_host.proofs.EngineRuns.{asks_some}
use Rattle.trapeze_host.proofs.Owing.{stops_spent, stops_done, stops_trapped, stops_short, asks_goes, asks_ends, asks_short}
use Rattle.trapeze_host.proofs.MoreRequests.{run_more, same_more, numbers_then, members_then}
use Rattle.trapeze_host.proofs.kept.Kept.stint.Goals as goal

pub units-init : goal.units-init
units-init g c = record {
  sound = c.requires.sound;
  run = c.requires.run;
  ready = c.requires.ready;
  owes = λ before s keeps. owed g.F.Facets.rows c.args.lent.now c.args.self.now s c.args.lines.now _ keeps;
  labelled = λ h. h;
  numbers = record { turns = λ l. refl; requests = λ l. refl };
  members = λ l. omega arith;
}

pub units-smaller : goal.units-smaller
units-smaller g c =
    let m = c.program-program.result.now in
    let left = c.units.left in
    let t = thread_of m c.units.sandbox in
    let pages = c.limits-pages.result.pages in
    let asks : Asks m (units m pages t left) c.go-went.result.used c.in-Asks.suspended =
    subst (λ (x : Going). EndsAs m (units m pages t left) c.go-went.result.used x) c.in-Asks.is c.go-went.ensures.ends in
    omega (arith, asks_some m pages left c.go-went.result.used t c.in-Asks.suspended (c.units_are_counted.ensures.none m pages t) (c.units_are_counted.ensures.some m pages left t) asks, c.go-went.ensures.within)

pub units-preserved : goal.units-preserved
units-preserved g c = record {
  sound = c.in-Ok-Goes.ensures.sound;
  run = run_more c.args.lent.now c.units.self.requests c.call.new.self.requests (same_more c.units.self c.call.new.self c.in-Ok-Goes.ensures.numbers) c.args.run.now c.units.invariant.run;
  ready = subst (IsFitReached (module_in c.args.lent.now c.args.run.now.function) (count c.args.lent.now.policy.lattice)) c.in-Ok-Goes.field-0-is c.in-Ok-Goes.ensures.fit;
  owes = λ before s keeps.
      asks_goes g.F.Facets.rows c.stints_go_by_runs.ensures c.args.lent.now c.args.run.now before c.args.sandbox s c.units.self c.args.lines.now c.units.lines _ _ c.from-left.ensures c.units.left c.go-went.result.used
      c.limits-pages.result c.program-program.result.now c.units.sandbox c.go-went.result.going c.program-program.ensures c.limits-pages.ensures c.go-went.ensures.ends (c.units.invariant.owes before s keeps)
      c.in-Asks.suspended c.in-Asks.is c.call.new.self c.call.new.lines _ c.in-Ok-Goes.next c.in-Ok-Goes.field-0-is c.in-Ok-Goes.ensures.reached;
  labelled = λ h. c.in-Ok-Goes.ensures.labelled (c.units.invariant.labelled h);
  numbers = numbers_then c.args.self.now c.units.self c.call.new.self c.units.invariant.numbers c.in-Ok-Goes.ensures.numbers;
  members = members_then c.args.self.now c.units.self c.call.new.self c.units.invariant.members c.in-Ok-Goes.ensures.members;
}

pub returns-in-Ok-Ends-clause-finished : goal.returns-in-Ok-Ends-clause-finished
returns-in-Ok-Ends-clause-finished g c = λ before s keeps.
    asks_ends g.F.Facets.rows c.stints_go_by_runs.ensures c.args.lent.now c.args.run.now before c.args.sandbox s c.units.self c.args.lines.now c.units.lines _ _ c.from-left.ensures c.units.left c.go-went.result.used
    c.limits-pages.result c.program-program.result.now c.units.sandbox c.go-went.result.going c.program-program.ensures c.limits-pages.ensures c.go-went.ensures.ends (c.units.invariant.owes before s keeps)
    c.in-Asks.suspended c.in-Asks.is c.call.new.self c.call.new.lines _ c.in-Ok-Ends.end c.in-Ok-Ends.field-0-is c.in-Ok-Ends.ensures.reached

pub returns-in-Err-clause-finished : goal.returns-in-Err-clause-finished
returns-in-Err-clause-finished g c = λ before s keeps.
    asks_short g.F.Facets.rows c.stints_go_by_runs.ensures c.args.lent.now c.args.run.now before c.args.sandbox s c.units.self c.args.lines.now c.units.lines _ _ c.from-left.ensures c.units.left c.go-went.result.used
    c.limits-pages.result c.program-program.result.now c.units.sandbox c.go-went.result.going c.program-program.ensures c.limits-pages.ensures c.go-went.ensures.ends (c.units.invariant.owes before s keeps)
    c.in-Asks.suspended c.in-Asks.is c.call.new.lines c.in-Err.ensures.reached

pub returns-in-Spent-clause-finished : goal.returns-in-Spent-clause-finished
returns-in-Spent-clause-finished g c = λ before s keeps.
    stops_spent g.F.Facets.rows c.stints_go_by_runs.ensures c.args.lent.now c.args.run.now before c.args.sandbox s c.units.self c.args.lines.now c.units.lines _ _ c.from-left.ensures c.units.left c.go-went.result.used
    c.limits-pages.result c.program-program.result.now c.units.sandbox c.go-went.result.going c.program-program.ensures c.limits-pages.ensures c.go-went.ensures.ends (c.units.invariant.owes before s keeps)
    c.in-Spent.sandbox c.in-Spent.is

pub returns-in-Done-clause-finished : goal.returns-in-Done-clause-finished
returns-in-Done-clause-finished g c = λ before s keeps.
    stops_done g.F.Facets.rows c.stints_go_by_runs.ensures c.args.lent.now c.args.run.now before c.args.sandbox s c.units.self c.args.lines.now c.units.lines _ _ c.from-left.ensures c.units.left c.go-went.result.used
    c.limits-pages.result c.program-program.result.now c.units.sandbox c.go-went.result.going c.program-program.ensures c.limits-pages.ensures c.go-went.ensures.ends (c.units.invariant.owes before s keeps)
    c.in-Done.is

pub returns-in-Trapped-clause-finished : goal.returns-in-Trapped-clause-finished
returns-in-Trapped-clause-finished g c = λ before s keeps.
    stops_trapped g.F.Facets.rows c.stints_go_by_runs.ensures c.args.lent.now c.args.run.now before c.args.sandbox s c.units.self c.args.lines.now c.units.lines _ _ c.from-left.ensures c.units.left c.go-went.result.used
    c.limits-pages.result c.program-program.result.now c.units.sandbox c.go-went.result.going c.program-program.ensures c.limits-pages.ensures c.go-went.ensures.ends (c.units.invariant.owes before s keeps)
    c.in-Trapped.trap c.in-Trapped.is c.cause_of_unit.result c.cause_of_unit.ensures

pub returns-in-NoMemory-clause-finished : goal.returns-in-NoMemory-clause-finished
returns-in-NoMemory-clause-finished g c = λ before s keeps.
    stops_short g.F.Facets.rows c.stints_go_by_runs.ensures c.args.lent.now c.args.run.now before c.args.sandbox s c.units.self c.args.lines.now c.units.lines _ _ c.from-left.ensures c.units.left c.go-went.result.used
    c.limits-pages.result c.program-program.result.now c.units.sandbox c.go-went.result.going c.program-program.ensures c.limits-pages.ensures c.go-went.ensures.ends (c.units.invariant.owes before s keeps)
