-- The top of a lattice.
use Rattle.std.proofs.Common.{◌≡◌, ℕ, zero, suc, ◌<◌, ◌≤◌, sym, subst, arith, Bool, inl, inr}
use Rattle.std.specs.Prelude.{IsTrue}
use Rattle.std.proofs.lemmas.Bool.{cases_eq}
use Rattle.label_lattice.specs.Sound.{IsLattice}

-- some label has each of the first k below it
top_of : (n : ℕ) (f : ℕ → ℕ → Bool) → IsLattice n f → (k : ℕ) → suc k ≤ n → (t : ℕ) × (t < n) × ((a : ℕ) → a < suc k → IsTrue (f a t))
top_of n f lattice zero le = (0, omega arith, λ a lt. let same : 0 ≡ a = omega arith in subst (λ (x : ℕ). IsTrue (f x 0)) same (lattice.reflexive 0))
top_of n f lattice (suc k) le =
    let (t, lt, below) = top_of n f lattice k (omega arith) in
    let (j, lj, join) = lattice.joins t (suc k) lt (omega arith) in (
      j,
      lj,
      λ a la. elim (cases_eq a (suc k)) [
        | inl same ↦ subst (λ (x : ℕ). IsTrue (f x j)) (sym same) join.right
        | inr other ↦ lattice.transitive a t j (below a (omega arith)) join.left
      ],
    )

pub top : (n : ℕ) (f : ℕ → ℕ → Bool) → IsLattice n f → 0 < n → (t : ℕ) × (t < n) × ((a : ℕ) → a < n → IsTrue (f a t))
top zero f lattice some = absurd (omega arith)
top (suc k) f lattice some = top_of (suc k) f lattice k (omega arith)
