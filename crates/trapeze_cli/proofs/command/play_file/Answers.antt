use Rattle.trapeze_cli.proofs.Ending.{answers_unopened, answers_none, file_unopened, file_since, gives_none}
use Rattle.trapeze_cli.proofs.command.play_file.Goals as goal

pub returns-in_default-clause-answers : goal.returns-in_default-clause-answers
returns-in_default-clause-answers g c = answers_unopened _ _ _ _ c.in_default.ensures.bytes

pub returns-in_default-new-clause-answers : goal.returns-in_default-new-clause-answers
returns-in_default-new-clause-answers g c = answers_none _ _ _

pub returns-in_default-start-clause-answers : goal.returns-in_default-start-clause-answers
returns-in_default-start-clause-answers g c = answers_none _ _ _

pub returns-in_default-clause-file : goal.returns-in_default-clause-file
returns-in_default-clause-file g c = file_unopened _ _ _

pub returns-in_default-new-clause-file : goal.returns-in_default-new-clause-file
returns-in_default-new-clause-file g c =
    let opened = c.in-Ok.ensures.bytes in
    file_since _ _ _ _ _ opened.0 _ opened.1 opened.2 (gives_none _)

pub returns-in_default-start-clause-file : goal.returns-in_default-start-clause-file
returns-in_default-start-clause-file g c =
    let opened = c.in-Ok.ensures.bytes in
    file_since _ _ _ _ _ opened.0 _ opened.1 opened.2 (gives_none _)
