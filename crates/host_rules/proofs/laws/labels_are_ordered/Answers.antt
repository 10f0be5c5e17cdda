use Rattle.host_rules.proofs.Ordered.{are_ordered}
use Rattle.host_rules.proofs.laws.labels_are_ordered.Goals as goal

pub returns : goal.returns
returns c = are_ordered
