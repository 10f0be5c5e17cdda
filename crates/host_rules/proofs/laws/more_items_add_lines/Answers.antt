use Rattle.host_rules.proofs.Runs.{traces_grow}
use Rattle.host_rules.proofs.laws.more_items_add_lines.Goals as goal

pub returns : goal.returns
returns c = λ P M. traces_grow P M
