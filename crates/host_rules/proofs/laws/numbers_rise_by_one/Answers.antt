use Rattle.host_rules.proofs.Numbers.{raises_by_one}
use Rattle.host_rules.proofs.laws.numbers_rise_by_one.Goals as goal

pub returns : goal.returns
returns c = λ P M. raises_by_one P M
