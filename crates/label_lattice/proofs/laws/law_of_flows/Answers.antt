use Rattle.label_lattice.proofs.Paths.{exact_test}
use Rattle.label_lattice.proofs.laws.law_of_flows.Goals as goal

pub returns : goal.returns
returns c = exact_test
