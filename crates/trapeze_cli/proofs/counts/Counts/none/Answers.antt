use Rattle.std.proofs.Common.{refl}
use Rattle.trapeze_cli.specs.Counts.{counts_of}
use Rattle.trapeze_cli.proofs.counts.Counts.none.Goals as goal

pub returns-clause-counts : goal.returns-clause-counts
unfolding counts_of
returns-clause-counts c = refl
