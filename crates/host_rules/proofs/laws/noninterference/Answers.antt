use Rattle.host_rules.proofs.Runs.{noninterfering}
use Rattle.host_rules.proofs.laws.noninterference.Goals as goal

pub returns : goal.returns
returns c = λ P M order. noninterfering P order M
