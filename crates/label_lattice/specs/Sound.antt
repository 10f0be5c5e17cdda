-- What holds of every lattice of labels.
use Rattle.std.specs.Prelude.{◌≡◌, ℕ, ◌<◌, ◌≤◌, List, Some, slice_get, length, IsTrue, Bool}
use Rattle.trapeze_io.specs.Names.{is_name}
use Rattle.label_lattice.specs.Order.{Order, count}
use Rattle.label_lattice.specs.Reach.{flows}
use Rattle.label_lattice.specs.Joins.{IsJoin, IsMeet}

-- 1 to 64 different names
pub record AreNames (names : List (List ℕ)) : Type 0 where
  pub some : 0 < length names
  pub few : length names ≤ 64
  pub named : (i : ℕ) (name : List ℕ) → slice_get names i ≡ Some name → IsTrue (is_name name)
  pub different : (i j : ℕ) (name : List ℕ) → slice_get names i ≡ Some name → slice_get names j ≡ Some name → i ≡ j

-- an order of n labels in which each two have a join and a meet
pub record IsLattice (n : ℕ) (f : ℕ → ℕ → Bool) : Type 0 where
  pub reflexive : (a : ℕ) → IsTrue (f a a)
  pub transitive : (a b c : ℕ) → IsTrue (f a b) → IsTrue (f b c) → IsTrue (f a c)
  pub antisymmetric : (a b : ℕ) → IsTrue (f a b) → IsTrue (f b a) → a ≡ b
  pub joins : (a b : ℕ) → a < n → b < n → (j : ℕ) × (j < n) × IsJoin n f a b j
  pub meets : (a b : ℕ) → a < n → b < n → (m : ℕ) × (m < n) × IsMeet n f a b m

pub record IsSound (order : Order) : Type 0 where
  pub names : AreNames order.names
  pub lattice : IsLattice (count order) (flows order)

-- a label to which each label flows
abbrev pub HasTop : Order → Type 0
HasTop order = (top : ℕ) × (top < count order) × ((a : ℕ) → a < count order → IsTrue (flows order a top))
