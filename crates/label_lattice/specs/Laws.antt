-- When names and pairs make a lattice.
use Rattle.std.specs.Prelude.{◌≡◌, ◌<◌, ℕ, Bool, IsTrue, List, None, Contains, ◌↔◌, length}
use Rattle.label_lattice.specs.Reach.{closes, pairs_numbered}
use Rattle.label_lattice.specs.Faults.{first_fault}
use Rattle.label_lattice.specs.Joins.{has_join, has_meet, IsJoin, IsMeet}
use Rattle.label_lattice.specs.Sound.{AreNames, IsLattice}

-- 1 to 64 different names, pairs of them, and by the pairs an order in which each two labels have a join and a meet
pub record MakesLattice (names : List (List ℕ)) (pairs : List (List ℕ × List ℕ)) : Type 0 where
  pub different : AreNames names
  pub known : (pair : List ℕ × List ℕ) → Contains pairs pair → Contains names pair.0 × Contains names pair.1
  pub lattice : IsLattice (length names) (closes (pairs_numbered names pairs))

-- no fault is found exactly where the names and pairs make a lattice
abbrev pub IsExactFault : Type 0
IsExactFault = (names : List (List ℕ)) (pairs : List (List ℕ × List ℕ)) → (first_fault names pairs ≡ None) ↔ MakesLattice names pairs

-- two labels pass the test for a join exactly where there is a least label that both flow to
abbrev pub IsExactJoin : Type 0
IsExactJoin = (n : ℕ) (f : ℕ → ℕ → Bool) (a b : ℕ) → IsTrue (has_join n f a b) ↔ ((j : ℕ) × (j < n) × IsJoin n f a b j)

-- and the test for a meet exactly where there is a greatest label that flows to both
abbrev pub IsExactMeet : Type 0
IsExactMeet = (n : ℕ) (f : ℕ → ℕ → Bool) (a b : ℕ) → IsTrue (has_meet n f a b) ↔ ((m : ℕ) × (m < n) × IsMeet n f a b m)
