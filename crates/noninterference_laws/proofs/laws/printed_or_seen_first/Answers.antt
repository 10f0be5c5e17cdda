use Rattle.noninterference_laws.proofs.LesserViews.{printed_or_seen}
use Rattle.noninterference_laws.proofs.laws.printed_or_seen_first.Goals as goal

pub returns : goal.returns
returns c = printed_or_seen
