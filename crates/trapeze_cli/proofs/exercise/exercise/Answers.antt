use Rattle.std.proofs.Common.{inr}
use Rattle.trapeze_cli.proofs.Counting.{exercise_said}
use Rattle.trapeze_cli.proofs.exercise.exercise.Goals as goal

pub returns-in-Ok : goal.returns-in-Ok
returns-in-Ok g c = inr (exercise_said c.args.number c.in-Ok.counts _ _ _ _ _ c.in-Ok.ensures c.say_counts.ensures)
