use Rattle.label_lattice.proofs.Bits.{Turned}
use Rattle.label_lattice.proofs.table.Table.turned.Given as goal

abbrev pub invariant-labels : goal.invariant-labels
invariant-labels l = Turned l.self-inside.rows l.rows l.b
