use Rattle.std.proofs.Common.{◌≡◌, find}
use Rattle.label_lattice.specs.Rows.{row_flows}
use Rattle.label_lattice.specs.Joins.{labels, labels_from, is_join}
use Rattle.label_lattice.proofs.table.Table.join.Given as goal

abbrev pub invariant-labels : goal.invariant-labels
invariant-labels l = find (is_join l.count (row_flows l.self-inside.rows) l.a l.b) (labels l.count) ≡ find (is_join l.count (row_flows l.self-inside.rows) l.a l.b) (labels_from l.j l.count)
