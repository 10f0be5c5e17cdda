use Rattle.std.proofs.Common.{◌≡◌, ℕ, ◌<◌, List, false, take, get_or}
use Rattle.std.specs.Option.{is_none}
use Rattle.label_lattice.specs.Reach.{ends_of, pairs_numbered}
use Rattle.label_lattice.proofs.lattice.pairs_numbered.Given as goal

abbrev pub invariant-flows : goal.invariant-flows
invariant-flows l = record {
  pairs : l.pairs.items ≡ pairs_numbered l.names (take l.j l.flows);
  known : (k : ℕ) (d : List ℕ × List ℕ) → k < l.j → is_none (ends_of l.names (get_or l.flows k d)) ≡ false;
}
