use Rattle.std.proofs.Common.{◌≡◌, find}
use Rattle.std.specs.Prelude.{◌&&◌}
use Rattle.label_lattice.specs.Rows.{row_flows}
use Rattle.label_lattice.specs.Faults.{cycle_of}
use Rattle.label_lattice.proofs.Ranges.{pairs_from, pairs_at}
use Rattle.label_lattice.proofs.search.cycle_of.Given as goal

abbrev pub invariant-firsts : goal.invariant-firsts
invariant-firsts l = cycle_of l.count (row_flows l.table) ≡ find (λ p. row_flows l.table p.0 p.1 && row_flows l.table p.1 p.0) (pairs_from l.a l.count)

abbrev pub invariant-seconds : goal.invariant-seconds
invariant-seconds l = cycle_of l.count (row_flows l.table) ≡ find (λ p. row_flows l.table p.0 p.1 && row_flows l.table p.1 p.0) (pairs_at l.a l.b l.count)
