use Rattle.trapeze_exercise.proofs.PlayableEvents.{answer_fits}
use Rattle.trapeze_exercise.proofs.events.generate.Goals as goal

pub returns-clause-fit : goal.returns-clause-fit
returns-clause-fit c = answer_fits c.event_of.result c.args.i c.drawn-z.result c.mixed.result c.requires c.event_of.ensures
