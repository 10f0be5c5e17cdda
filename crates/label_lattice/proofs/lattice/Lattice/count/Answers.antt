use Rattle.std.proofs.Common.{subst}
use Rattle.label_lattice.specs.Order.{Order}
use Rattle.label_lattice.specs.Sound.{HasTop}
use Rattle.label_lattice.proofs.LatticeTops.{top}
use Rattle.label_lattice.proofs.lattice.Lattice.count.Goals as goal

pub returns-clause-top : goal.returns-clause-top
returns-clause-top c = subst (λ (order : Order). HasTop order) c.self.view_is (top _ _ c.self.invariant.0.lattice c.self.invariant.0.names.some)
