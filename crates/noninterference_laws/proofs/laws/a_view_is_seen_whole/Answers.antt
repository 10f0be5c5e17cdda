use Rattle.noninterference_laws.proofs.LesserViews.{seen_again, of_the_other}
use Rattle.noninterference_laws.proofs.laws.a_view_is_seen_whole.Goals as goal

pub returns-clause-again : goal.returns-clause-again
returns-clause-again c = seen_again

pub returns-clause-lesser : goal.returns-clause-lesser
returns-clause-lesser c = of_the_other
