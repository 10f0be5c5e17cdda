use Rattle.std.proofs.Common.{take}
use Rattle.label_lattice.specs.Rows.{IsClosure}
use Rattle.label_lattice.proofs.lattice.closure.Given as goal

abbrev pub invariant-pairs : goal.invariant-pairs
invariant-pairs l = IsClosure l.count (take l.from-index l.pairs) l.table
