use Rattle.std.proofs.Common.{All}
use Rattle.label_lattice.specs.Order.{count}
use Rattle.trapeze_lines.specs.Lines.{IsLabelled}
use Rattle.host_tests.proofs.labels.lines_of.Given as goal

-- the lines so far have labels of the lattice
abbrev pub invariant-texts : goal.invariant-texts
invariant-texts l = All (IsLabelled (count l.lattice)) l.lines
