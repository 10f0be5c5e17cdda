use Rattle.host_rules.proofs.Runs.{kept_in_either_order}
use Rattle.host_rules.proofs.laws.printed_and_visible_in_either_order.Goals as goal

pub returns : goal.returns
returns c = kept_in_either_order
