use Rattle.host_rules.proofs.Runs.{hides_events}
use Rattle.host_rules.proofs.laws.hidden_events_show_releases.Goals as goal

pub returns : goal.returns
returns c = λ P M order. hides_events P order M
