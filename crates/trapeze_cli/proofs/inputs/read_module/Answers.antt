use Rattle.trapeze_cli.proofs.Modules.{judged_steps, judged_ok}
use Rattle.trapeze_cli.proofs.inputs.read_module.Goals as goal

pub returns-clause-steps : goal.returns-clause-steps
returns-clause-steps g c =
    judged_steps c.args.function c.args.name.now c.in_ok-bytes.bytes _ _ c.judge.result c.in_ok-bytes.ensures.steps c.in_ok-bytes.ensures.ok (rw c.as_slice.ensures at c.judge.ensures.judged)

pub returns-clause-ok : goal.returns-clause-ok
returns-clause-ok g c =
    judged_ok c.args.function c.args.name.now c.in_ok-bytes.bytes _ c.judge.result c.in_ok-bytes.ensures.ok (rw c.as_slice.ensures at c.judge.ensures.judged)
