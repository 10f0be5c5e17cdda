use Rattle.std.proofs.Common.{sym, subst, length, ℕ}
use Rattle.label_lattice.specs.Reach.{flows}
use Rattle.trapeze_io.specs.Sizes.{IsValue}
use Rattle.facet_list.specs.Rows.{AreBelow}
use Rattle.facet_list.proofs.Sizes.{read_sized}
use Rattle.facet_rows.specs.Rows.{rows_in}
use Rattle.facet_index.proofs.index.FacetIndexFacets.read.Goals as goal

pub read-requires-clause-labels : goal.read-requires-clause-labels
read-requires-clause-labels c = subst (λ (n : ℕ). AreBelow n (rows_in c.args.self.now.rows)) (sym c.requires.labels) c.args.self.now.sound.below

pub returns-clause-sized : goal.returns-clause-sized
returns-clause-sized c = subst IsValue (sym c.read.ensures) (read_sized (flows c.args.lattice.now) c.args.at.number (length c.args.self.now.meter.limits) (rows_in c.args.self.now.rows) c.args.key.now c.args.self.now.sound)
