use Rattle.noninterference_laws.proofs.AlikeRuns.{same_shown, same_shown_alone}
use Rattle.noninterference_laws.proofs.laws.runs_that_look_alike_show_the_same.Goals as goal

pub returns-clause-gated : goal.returns-clause-gated
returns-clause-gated c = same_shown

pub returns-clause-alone : goal.returns-clause-alone
returns-clause-alone c = same_shown_alone
