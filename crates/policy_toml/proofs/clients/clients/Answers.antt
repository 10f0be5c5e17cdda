use Rattle.policy_toml.proofs.Rows.{no_names_ascend}
use Rattle.policy_toml.proofs.clients.clients.Goals as goal

pub returns-in_default-clause-ascend : goal.returns-in_default-clause-ascend
returns-in_default-clause-ascend c = rw c.new.ensures.items no_names_ascend
