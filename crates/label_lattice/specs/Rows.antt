-- Rows of bits, one for each label.
use Rattle.std.specs.Prelude.{◌≡◌, ℕ, ◌<◌, ◌↔◌, ◌==◌, ◌||◌, Bool, List, Contains, slice_index}
use Rattle.std.specs.Int.{bit_at}
use Rattle.label_lattice.specs.Reach.{Reaches}

-- bit b of row a
abbrev pub bit : List ℕ → ℕ → ℕ → ℕ
bit rows a b = bit_at (slice_index rows a) b

-- whether the rows say that a flows to b
abbrev pub row_flows : List ℕ → ℕ → ℕ → Bool
row_flows rows a b = a == b || (bit rows a b == 1)

-- the pairs are of labels below the count
abbrev pub ArePairs : ℕ → List (ℕ × ℕ) → Type 0
ArePairs count pairs = (p : ℕ × ℕ) → Contains pairs p → (p.0 < count) × (p.1 < count)

-- a bit is set exactly where the pairs lead from a label to another
pub record IsClosure (count : ℕ) (pairs : List (ℕ × ℕ)) (rows : List ℕ) : Type 0 where
  pub exact : (a b : ℕ) → (bit rows a b ≡ 1) ↔ ((a < count) × Reaches pairs a b)

-- each label has its own bit, set bits are of labels, and chain
pub record IsClosed (count : ℕ) (rows : List ℕ) : Type 0 where
  pub own : (a : ℕ) → a < count → bit rows a a ≡ 1
  pub within : (a b : ℕ) → bit rows a b ≡ 1 → (a < count) × (b < count)
  pub transitive : (a b c : ℕ) → bit rows a b ≡ 1 → bit rows b c ≡ 1 → bit rows a c ≡ 1
