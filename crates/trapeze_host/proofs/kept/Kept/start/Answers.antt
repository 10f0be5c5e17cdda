use Rattle.std.proofs.Common.{length, ap}
use Rattle.label_queues.specs.Lists.{Lists}
use Rattle.trapeze_host.specs.declared.kept.Activation.{Activation}
use Rattle.trapeze_host.proofs.Starting.{starts}
use Rattle.trapeze_host.proofs.kept.Kept.start.Goals as goal

pub returns-clause-starts : goal.returns-clause-starts
returns-clause-starts g c = λ w e. starts g.F.Facets.rows c.args.lent.now _ (length c.limits-limits.result.now) (ap (λ (q : Lists Activation). q.lists) c.in-Ok.ensures) c.in-Ok-zeros.ensures c.in-Ok-new.ensures w e
