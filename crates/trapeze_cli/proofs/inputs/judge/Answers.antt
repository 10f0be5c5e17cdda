use Rattle.trapeze_cli.proofs.Modules.{accepted_judged, undecoded_judged}
use Rattle.trapeze_cli.proofs.inputs.judge.Goals as goal

pub returns-in-Ok-clause-judged : goal.returns-in-Ok-clause-judged
returns-in-Ok-clause-judged c =
    accepted_judged c.args.function c.args.bytes.now c.in-Ok.program c.accept.result c.in-Ok.ensures.found c.accept.ensures.ok c.accept.ensures.err

pub returns-in-Err-clause-judged : goal.returns-in-Err-clause-judged
returns-in-Err-clause-judged c = undecoded_judged c.args.function c.args.bytes.now c.in-Err.fault c.undecoded.result c.in-Err.ensures.fault c.undecoded.ensures.told
