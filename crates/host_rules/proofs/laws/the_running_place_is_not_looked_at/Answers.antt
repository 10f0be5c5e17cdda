use Rattle.host_rules.proofs.Places.{indifferent}
use Rattle.host_rules.proofs.laws.the_running_place_is_not_looked_at.Goals as goal

pub returns : goal.returns
returns c = λ P M. indifferent P M
