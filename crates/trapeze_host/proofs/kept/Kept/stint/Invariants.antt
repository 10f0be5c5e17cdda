use Rattle.std.proofs.Common.{Option}
use Rattle.label_lattice.specs.Order.{count}
use Rattle.wasm_semantics.specs.Threads.{Thread}
use Rattle.sandbox.specs.Threads.{IsReady}
use Rattle.host_rules.specs.States.{State}
use Rattle.trapeze_host.specs.Adding.{KeepsLabelled}
use Rattle.trapeze_host.specs.Loans.{module_in}
use Rattle.trapeze_host.specs.Keeping.{Keeps, IsSound, HasSameNumbers, KeepsMembers}
use Rattle.trapeze_host.specs.Turning.{run_stint, IsRun, Owes}
use Rattle.trapeze_host.proofs.kept.Kept.stint.Given as goal

-- a part of the stint is done, and as many units are left
abbrev pub invariant-units : goal.invariant-units
invariant-units g l = record {
  sound : IsSound g.F.Facets.limits l.lent l.self;
  run : IsRun l.lent l.self.requests l.run;
  ready : IsReady (module_in l.lent l.run.function) l.sandbox;
  owes : (before : Option Thread) (s : State Thread) → Keeps g.F.Facets.rows l.lent l.initial.self s
      → Owes g.F.Facets.rows l.lent (run_stint l.lent l.run before l.initial.left l.initial.sandbox s) l.self l.initial.lines l.lines (run_stint l.lent l.run before l.left l.sandbox);
  labelled : KeepsLabelled (count l.lent.policy.lattice) l.initial.lines l.lines;
  numbers : HasSameNumbers l.initial.self l.self;
  members : KeepsMembers l.initial.self l.self;
}

abbrev pub decreases-units : goal.decreases-units
decreases-units g l = l.left
