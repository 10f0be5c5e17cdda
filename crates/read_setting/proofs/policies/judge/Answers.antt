use Rattle.read_setting.proofs.Judged.{no_policy}
use Rattle.read_setting.proofs.policies.judge.Goals as goal

pub returns-in-Err-clause-judged : goal.returns-in-Err-clause-judged
returns-in-Err-clause-judged c = no_policy c.args.place c.args.bytes.now c.in-Err.fault c.refusal.result c.in-Err.ensures.read c.refusal.ensures.told
