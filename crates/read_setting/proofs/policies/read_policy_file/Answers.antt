use Rattle.std.proofs.Common.{◌≡◌}
use Rattle.file_calls.proofs.StepsInTurn.{file_judged}
use Rattle.read_setting.specs.Policies.{policy_source, policy_said}
use Rattle.read_setting.proofs.Judged.{unread_memory}
use Rattle.read_setting.proofs.policies.read_policy_file.Goals as goal

pub returns-in_err-bytes-clause-memory : goal.returns-in_err-bytes-clause-memory
returns-in_err-bytes-clause-memory g c = unread_memory _ _ c.from_residual.ensures.1 c.in_err-bytes.ensures.unrefused

pub returns-clause-steps : goal.returns-clause-steps
returns-clause-steps g c =
    let read = c.in_ok-bytes.ensures.steps in
    file_judged (λ policy. policy) c.args.place (policy_source c.args.name.now) (λ bytes r. policy_said c.args.place bytes ≡ r) c.in_ok-bytes.bytes _ _ c.judge.result read.0 read.1 (rw c.as_slice.ensures at c.judge.ensures.judged)
