use Rattle.file_calls.proofs.StepsInTurn.{file_judged}
use Rattle.read_setting.specs.Modules.{module_source, IsModule}
use Rattle.read_setting.proofs.Judged.{unread_memory}
use Rattle.read_setting.proofs.modules.read_module.Goals as goal

pub returns-in_err-bytes-clause-memory : goal.returns-in_err-bytes-clause-memory
returns-in_err-bytes-clause-memory g c = unread_memory _ _ c.from_residual.ensures.1 c.in_err-bytes.ensures.unrefused

pub returns-clause-steps : goal.returns-clause-steps
returns-clause-steps g c =
    let read = c.in_ok-bytes.ensures.steps in
    file_judged (λ program. program) c.args.place (module_source c.args.name.now) (λ bytes. IsModule c.args.place bytes) c.in_ok-bytes.bytes _ _ c.judge.result read.0 read.1 (rw c.as_slice.ensures at c.judge.ensures.judged)
