use Rattle.trapeze_cli.proofs.Policies.{unfit_ends}
use Rattle.trapeze_cli.proofs.inputs.read_rules.Goals as goal

pub returns-clause-steps : goal.returns-clause-steps
returns-clause-steps g c =
    let read = c.in_ok-bytes.ensures in
    let unfit = rw c.as_slice.ensures at c.in-Err.ensures.read in
    unfit_ends _ c.in_ok-bytes.bytes _ _ c.in-Err.fault c.refusal.result read.steps read.ok unfit c.refusal.ensures.refused c.refusal.ensures.memory
