use Rattle.host_rules.proofs.NoGates.{without_releases, noninterfering_alone, hides_events_whole}
use Rattle.host_rules.proofs.laws.noninterference_without_gates.Goals as goal

pub returns-clause-alone : goal.returns-clause-alone
returns-clause-alone c = λ P M order without. noninterfering_alone P without M order

pub returns-clause-hidden : goal.returns-clause-hidden
returns-clause-hidden c = λ P M order without. hides_events_whole P without M order

pub returns-clause-nothing : goal.returns-clause-nothing
returns-clause-nothing c = λ P M without. without_releases P without M
