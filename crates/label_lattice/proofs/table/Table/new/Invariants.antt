use Rattle.label_lattice.proofs.Bits.{Ones}
use Rattle.label_lattice.proofs.table.Table.new.Given as goal

abbrev pub invariant-labels : goal.invariant-labels
invariant-labels l = Ones l.rows l.a
