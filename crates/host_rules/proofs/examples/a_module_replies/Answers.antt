use Rattle.host_rules.proofs.Nodding.{nodded}
use Rattle.host_rules.proofs.examples.a_module_replies.Goals as goal

pub returns : goal.returns
returns c = nodded
