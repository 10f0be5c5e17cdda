use Rattle.std.proofs.Common.{◌∙◌, ap}
use Rattle.trapeze_host.specs.Standing.{known_in}
use Rattle.trapeze_cli.proofs.Exercising.{exercised_ok}
use Rattle.trapeze_cli.proofs.exercise.count_exercise.Goals as goal

pub count_under-requires-clause-known : goal.count_under-requires-clause-known
count_under-requires-clause-known c = ap known_in c.in_ok-policy.ensures

pub returns : goal.returns
returns c = exercised_ok c.args.number _ _ c.count_under.result c.in_ok-policy.ensures (c.as_slice.ensures ∙ c.in_ok-modules.ensures) c.count_under.ensures
