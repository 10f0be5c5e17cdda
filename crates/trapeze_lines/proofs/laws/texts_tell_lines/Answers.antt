use Rattle.trapeze_lines.proofs.Reading.{same_line}
use Rattle.trapeze_lines.proofs.laws.texts_tell_lines.Goals as goal

pub returns : goal.returns
returns c = same_line
