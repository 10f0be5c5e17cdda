use Rattle.std.proofs.Common.{◌≡◌, find}
use Rattle.std.specs.Prelude.{not}
use Rattle.label_lattice.specs.Rows.{row_flows}
use Rattle.label_lattice.specs.Joins.{has_join}
use Rattle.label_lattice.specs.Faults.{no_join_of}
use Rattle.label_lattice.proofs.Ranges.{pairs_from, pairs_at}
use Rattle.label_lattice.proofs.search.no_join_of.Given as goal

abbrev pub invariant-firsts : goal.invariant-firsts
invariant-firsts l = no_join_of l.count (row_flows l.table) ≡ find (λ p. not (has_join l.count (row_flows l.table) p.0 p.1)) (pairs_from l.a l.count)

abbrev pub invariant-seconds : goal.invariant-seconds
invariant-seconds l = no_join_of l.count (row_flows l.table) ≡ find (λ p. not (has_join l.count (row_flows l.table) p.0 p.1)) (pairs_at l.a l.b l.count)
