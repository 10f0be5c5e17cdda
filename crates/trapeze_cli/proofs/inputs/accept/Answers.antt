use Rattle.trapeze_cli.proofs.Modules.{unfit_told}
use Rattle.trapeze_cli.proofs.inputs.accept.Goals as goal

pub returns-in-Err-clause-err : goal.returns-in-Err-clause-err
returns-in-Err-clause-err c = unfit_told c.args.function c.args.program c.in-Err.fault c.unfit.result (c.in-Err.ensures.err.1) c.unfit.ensures.told
