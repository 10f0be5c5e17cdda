use Rattle.std.proofs.Common.{ap, ◌∙◌}
use Rattle.trapeze_host.specs.Loans.{Loan}
use Rattle.trapeze_host.proofs.Hosts.{policy_is, modules_are, spent_is, played_is, as_stands}
use Rattle.trapeze_host.proofs.host.Host.start.Goals as goal

pub returns-in-Ok-clause-starts : goal.returns-in-Ok-clause-starts
returns-in-Ok-clause-starts g c = λ w e. as_stands _ g.F.Facets.rows _ (c.in-Ok.ensures.starts w e)

pub returns-in-Ok-clause-lent : goal.returns-in-Ok-clause-lent
returns-in-Ok-clause-lent g c = (policy_is _ ∙ ap (λ (l : Loan). l.policy) c.new-lent.ensures, modules_are _ ∙ ap (λ (l : Loan). l.modules) c.new-lent.ensures)

pub returns-in-Ok-clause-fresh : goal.returns-in-Ok-clause-fresh
returns-in-Ok-clause-fresh g c = (spent_is _, played_is _)
