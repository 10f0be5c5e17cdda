use Rattle.label_lattice.proofs.Bits.{SoFar}
use Rattle.label_lattice.proofs.table.Table.add.Given as goal

abbrev pub invariant-rows : goal.invariant-rows
invariant-rows l = SoFar l.initial.row-items l.row-items l.fn.from l.reached l.row-index
