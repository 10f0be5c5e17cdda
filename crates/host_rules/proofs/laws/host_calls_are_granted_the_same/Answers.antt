use Rattle.host_rules.proofs.Runs.{grants_the_same}
use Rattle.host_rules.proofs.laws.host_calls_are_granted_the_same.Goals as goal

pub returns : goal.returns
returns c = λ P M order. grants_the_same P order M
