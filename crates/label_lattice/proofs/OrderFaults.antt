-- Faults of an order.
use Rattle.std.proofs.Common.{◌≡◌, ◌∙◌, ℕ, ◌≤◌, List, Option, ap, sym}
use Rattle.std.specs.Prelude.{option_map}
use Rattle.std.specs.Option.{option_or}
use Rattle.label_lattice.specs.declared.error.LatticeError.{LatticeError}
use Rattle.label_lattice.specs.declared.error.LatticeError.TheVariants.{Cycle, NoJoin, NoMeet}
use Rattle.label_lattice.specs.Rows.{IsClosed, row_flows}
use Rattle.label_lattice.specs.Faults.{order_fault, cycle_of, no_join_of, no_meet_of, label_of}
use Rattle.label_lattice.proofs.JoinsByBits.{IsTurned, turned_flows}

-- the fault of what three searches found
abbrev pub fault_of : Option (ℕ × ℕ) → Option (ℕ × ℕ) → Option (ℕ × ℕ) → Option LatticeError
fault_of c j m =
    option_or (option_map (λ p. Cycle (label_of p.0) (label_of p.1)) c)
    (option_or (option_map (λ p. NoJoin (label_of p.0) (label_of p.1)) j) (option_map (λ p. NoMeet (label_of p.0) (label_of p.1)) m))

-- meets are missing where joins are, in the order turned round
pub found_order : (n : ℕ) (rows now : List ℕ) (c j m : Option (ℕ × ℕ)) → IsClosed n rows → n ≤ 64 → IsTurned rows now
    → c ≡ cycle_of n (row_flows rows) → j ≡ no_join_of n (row_flows rows) → m ≡ no_join_of n (row_flows now)
    → order_fault n (row_flows rows) ≡ fault_of c j m
found_order n rows now c j m closed few t ec ej em =
    let meets : m ≡ no_meet_of n (row_flows rows) = em ∙ ap (no_join_of n) (turned_flows n rows now closed few t) in
    λ i. fault_of (sym ec i) (sym ej i) (sym meets i)
