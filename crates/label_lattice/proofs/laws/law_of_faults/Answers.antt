use Rattle.label_lattice.proofs.WhenALattice.{exact_fault}
use Rattle.label_lattice.proofs.laws.law_of_faults.Goals as goal

pub returns : goal.returns
returns c = exact_fault
