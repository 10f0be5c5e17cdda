-- The fault of names and pairs, stage by stage.
use Rattle.std.proofs.Common.{◌≡◌, ℕ, ◌<◌, ◌≤◌, List, Some, None, length, nat_lt, sym, ◌∙◌, ap, subst}
use Rattle.std.specs.Prelude.{◌==◌}
use Rattle.std.specs.Option.{option_or}
use Rattle.std.proofs.lemmas.Bool.{le-ltb}
use Rattle.label_lattice.specs.declared.error.LatticeError.{LatticeError}
use Rattle.label_lattice.specs.Reach.{closes, pairs_numbered}
use Rattle.label_lattice.specs.Rows.{ArePairs, IsClosure, row_flows}
use Rattle.label_lattice.specs.Joins.{labels}
use Rattle.label_lattice.specs.Faults.{first_fault, first_of, name_fault, end_fault, order_fault}
use Rattle.label_lattice.specs.Sound.{AreNames, IsSound}
use Rattle.label_lattice.proofs.NamePairs.{numbered_pairs, flows_closes}
use Rattle.label_lattice.proofs.Lattices.{order_lattice, closes_preorder}
use Rattle.label_lattice.proofs.WhenALattice.{gate_open, some_names}

-- the rows say the order of the pairs
pub same_flows : (n : ℕ) (pairs : List (ℕ × ℕ)) (rows : List ℕ) → ArePairs n pairs → IsClosure n pairs rows → row_flows rows ≡ closes pairs
same_flows n pairs rows within closure = λ i a b. flows_closes n pairs rows within closure a b i

module _ (names : List (List ℕ)) (pairs : List (List ℕ × List ℕ)) (some : 0 < length names) (few : length names ≤ 64) where
  opened : first_fault names pairs ≡ option_or (first_of (name_fault names) (labels (length names))) (option_or (end_fault names pairs) (order_fault (length names) (closes (pairs_numbered names pairs))))
  opened = gate_open (length names == 0) (nat_lt 64 (length names)) _ ((some_names (length names)).1 some) (le-ltb 64 (length names) few)

  -- a fault of the names is the first
  pub fault_of_names : (e : LatticeError) → first_of (name_fault names) (labels (length names)) ≡ Some e → first_fault names pairs ≡ Some e
  fault_of_names e is = opened ∙ ap (λ o. option_or o (option_or (end_fault names pairs) (order_fault (length names) (closes (pairs_numbered names pairs))))) is

  module _ (named : first_of (name_fault names) (labels (length names)) ≡ None) where
    -- then one of the pairs
    pub fault_of_ends : (e : LatticeError) → end_fault names pairs ≡ Some e → first_fault names pairs ≡ Some e
    fault_of_ends e is = opened ∙ ap (λ o. option_or o (option_or (end_fault names pairs) (order_fault (length names) (closes (pairs_numbered names pairs))))) named
        ∙ ap (λ o. option_or o (order_fault (length names) (closes (pairs_numbered names pairs)))) is

    -- then one of the order
    pub fault_of_order : (rows : List ℕ) → end_fault names pairs ≡ None → IsClosure (length names) (pairs_numbered names pairs) rows → first_fault names pairs ≡ order_fault (length names) (row_flows rows)
    fault_of_order rows known closure = opened ∙ ap (λ o. option_or o (option_or (end_fault names pairs) (order_fault (length names) (closes (pairs_numbered names pairs))))) named
        ∙ ap (λ o. option_or o (order_fault (length names) (closes (pairs_numbered names pairs)))) known
        ∙ ap (order_fault (length names)) (sym (same_flows (length names) (pairs_numbered names pairs) rows (numbered_pairs names pairs) closure))

-- an order without a fault is sound
pub sound : (names : List (List ℕ)) (pairs : List (ℕ × ℕ)) (rows : List ℕ) → AreNames names → ArePairs (length names) pairs → IsClosure (length names) pairs rows
    → order_fault (length names) (row_flows rows) ≡ None → IsSound (record { names = names; pairs = pairs })
sound names pairs rows are within closure none = record {
  names = are;
  lattice = (order_lattice (length names) (closes pairs) (closes_preorder (length names) pairs within)).0
      (ap (order_fault (length names)) (sym (same_flows (length names) pairs rows within closure)) ∙ none);
}

-- a closure of what is the same
pub closure_same : {m n : ℕ} {ps qs : List (ℕ × ℕ)} (rows : List ℕ) → m ≡ n → ps ≡ qs → IsClosure m ps rows → IsClosure n qs rows
closure_same {m} {n} {ps} {qs} rows e h closure = subst (λ (k : ℕ). IsClosure k qs rows) e (subst (λ (xs : List (ℕ × ℕ)). IsClosure m xs rows) h closure)
