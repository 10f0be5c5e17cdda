use Rattle.std.proofs.Common.{rules}
use Rattle.trapeze_io.specs.Answers.{Answers}
use Rattle.policy_toml.specs.Faults.{fault_of}
use Rattle.policy_toml.specs.PolicyOf.{policy_of}
use Rattle.policy_toml.proofs.Memory.{not_of_memory}
use Rattle.policy_toml.proofs.read.read_policy.Goals as goal

pub returns-clause-memory : goal.returns-clause-memory
returns-clause-memory c =
    let read : Answers fault_of (policy_of c.args.bytes.now) c.read_table.result = search rules in
    not_of_memory _ _ c.read_table.result read

pub returns-in_err-root-clause-memory : goal.returns-in_err-root-clause-memory
returns-in_err-root-clause-memory c =
    let read : Answers fault_of (policy_of c.args.bytes.now) c.from_residual.result = search rules in
    not_of_memory _ _ c.from_residual.result read
