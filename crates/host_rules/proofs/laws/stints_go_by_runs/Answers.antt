use Rattle.host_rules.proofs.ByRuns.{goes_by_runs}
use Rattle.host_rules.proofs.laws.stints_go_by_runs.Goals as goal

pub returns : goal.returns
returns c = goes_by_runs
