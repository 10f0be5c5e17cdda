use Rattle.label_lattice.proofs.Lattices.{exact_join, exact_meet}
use Rattle.label_lattice.proofs.laws.law_of_joins.Goals as goal

pub returns-clause-joins : goal.returns-clause-joins
returns-clause-joins c = exact_join

pub returns-clause-meets : goal.returns-clause-meets
returns-clause-meets c = exact_meet
