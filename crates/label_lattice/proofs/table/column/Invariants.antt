use Rattle.label_lattice.proofs.Bits.{Column}
use Rattle.label_lattice.proofs.table.column.Given as goal

abbrev pub invariant-rows : goal.invariant-rows
invariant-rows l = Column l.rows l.b l.labels l.a
