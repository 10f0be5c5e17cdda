use Rattle.host_rules.proofs.Runs.{keeps_regular}
use Rattle.host_rules.proofs.laws.steps_keep_states_regular.Goals as goal

pub returns : goal.returns
returns c = λ P M order. keeps_regular P order M
