use Rattle.trapeze_host.proofs.kept.Kept.answer.Goals as goal

pub reply-requires-clause-served : goal.reply-requires-clause-served
reply-requires-clause-served g c = c.requires.run.serves c.in-Some.serving c.in-Some.is
