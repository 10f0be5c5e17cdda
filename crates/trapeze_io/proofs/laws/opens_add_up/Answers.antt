use Rattle.trapeze_io.proofs.Opens.{adds_up}
use Rattle.trapeze_io.proofs.laws.opens_add_up.Goals as goal

pub returns : goal.returns
returns c = adds_up
