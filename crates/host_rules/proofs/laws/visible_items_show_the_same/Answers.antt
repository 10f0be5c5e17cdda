use Rattle.host_rules.proofs.Runs.{does_the_same}
use Rattle.host_rules.proofs.laws.visible_items_show_the_same.Goals as goal

pub returns : goal.returns
returns c = λ P M order. does_the_same P order M
