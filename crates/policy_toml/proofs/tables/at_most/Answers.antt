use Rattle.std.proofs.Common.{◌∙◌, arith}
use Rattle.policy_toml.proofs.Rows.{few_rows, many_rows}
use Rattle.policy_toml.proofs.tables.at_most.Goals as goal

pub returns-then-len-most : goal.returns-then-len-most
returns-then-len-most c = few_rows c.args.most c.args.part c.args.table.now.entries (let len = c.len.ensures.len in omega arith)

pub returns-else-len-most : goal.returns-else-len-most
returns-else-len-most c = λ fault is. many_rows c.args.most c.args.part c.args.table.now.entries (let len = c.len.ensures.len in omega arith) ∙ (let place = c.whole.ensures in cc)
