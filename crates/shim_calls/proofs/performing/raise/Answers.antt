use Rattle.std.proofs.Common.{ap, sym, ◌∙◌}
use Rattle.label_lattice.specs.Order.{Order, count}
use Rattle.label_lattice.specs.Reach.{flows}
use Rattle.label_lattice.specs.Joins.{join}
use Rattle.sandbox.specs.Threads.{waiting}
use Rattle.host_rules.specs.Policies.{rules_of}
use Rattle.shim_calls.proofs.Resuming.{raised_here, raised_there}
use Rattle.shim_calls.proofs.performing.raise.Goals as goal

pub returns-then-number-clause-performed : goal.returns-then-number-clause-performed
returns-then-number-clause-performed c = λ input rows m modules a s waits same stored.
    let joins = c.join-new.ensures.join ∙ ap (λ (o : Order). join (count o) (flows o) c.args.at.number c.args.label.number) c.lattice.ensures.lattice in
    raised_here (rules_of c.args.policy.now) m modules c.args.at.number a s (waiting m c.args.suspended) rows c.answer-sandbox.result c.args.label.number c.join-new.result.number joins
    (sym c.number.ensures ∙ c.if-number.true ∙ c.number-2.ensures) (c.answer-sandbox.ensures.thread m waits) (c.answer-sandbox.ensures.kept m waits) stored

pub returns-else-number-clause-performed : goal.returns-else-number-clause-performed
returns-else-number-clause-performed c = λ input rows m modules a s waits same stored.
    let joins = c.join-new.ensures.join ∙ ap (λ (o : Order). join (count o) (flows o) c.args.at.number c.args.label.number) c.lattice.ensures.lattice in (
      raised_there (rules_of c.args.policy.now) m modules c.args.at.number a s (waiting m c.args.suspended) rows c.answer-sandbox.result c.args.label.number c.join-new.result.number joins
          (λ e. c.if-number.false (c.number.ensures ∙ e ∙ sym c.number-2.ensures)) (c.answer-sandbox.ensures.thread m waits),
      stored,
      c.answer-sandbox.ensures.kept m waits,
    )
