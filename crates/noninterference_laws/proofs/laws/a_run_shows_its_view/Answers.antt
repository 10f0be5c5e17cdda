use Rattle.noninterference_laws.proofs.AlikeRuns.{views_shown, visible_shown}
use Rattle.noninterference_laws.proofs.laws.a_run_shows_its_view.Goals as goal

pub returns-clause-gated : goal.returns-clause-gated
returns-clause-gated c = views_shown

pub returns-clause-alone : goal.returns-clause-alone
returns-clause-alone c = visible_shown
