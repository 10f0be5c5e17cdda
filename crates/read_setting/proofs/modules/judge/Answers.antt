use Rattle.read_setting.proofs.Judged.{module_accepted}
use Rattle.read_setting.proofs.modules.judge.Goals as goal

pub returns-in-Ok-clause-judged : goal.returns-in-Ok-clause-judged
returns-in-Ok-clause-judged c = module_accepted c.args.place c.args.bytes.now c.in-Ok.program c.accept.result c.in-Ok.ensures.found c.accept.ensures.judged
