use Rattle.noninterference_laws.proofs.LesserViews.{by_pieces}
use Rattle.noninterference_laws.proofs.laws.lines_are_seen_piece_by_piece.Goals as goal

pub returns : goal.returns
returns c = by_pieces
