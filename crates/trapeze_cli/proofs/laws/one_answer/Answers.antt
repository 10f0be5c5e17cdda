use Rattle.trapeze_cli.proofs.Tasks.{one_answer}
use Rattle.trapeze_cli.proofs.laws.one_answer.Goals as goal

pub returns : goal.returns
returns c = one_answer
