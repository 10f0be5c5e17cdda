-- The join that a search finds.
use Rattle.std.proofs.Common.{◌≡◌, ℕ, zero, suc, ◌+◌, arith, ◌⊎◌, inl, inr, ◌<◌, Bool, true, false, Some, None, Option, refl, sym, ◌∙◌, ap, subst, cond}
use Rattle.std.specs.Prelude.{find}
use Rattle.std.specs.Option.{is_some}
use Rattle.std.specs.List.{range_with_len}
use Rattle.label_lattice.specs.Joins.{labels, is_join, IsJoin}
use Rattle.label_lattice.specs.Sound.{IsLattice}
use Rattle.label_lattice.proofs.Ranges.{is_some_find}
use Rattle.label_lattice.proofs.JoinsByBits.{is_join_exact}
use Rattle.label_lattice.proofs.Lattices.{has_from_join}

pub join_there : (n : ℕ) (f : ℕ → ℕ → Bool) → IsLattice n f → (a b : ℕ) → a < n → b < n → None ≡ find (is_join n f a b) (labels n) → ⊥
join_there n f lattice a b la lb e =
    let (j, lj, join) = lattice.joins a b la lb in
    let k : false ≡ true = ap is_some e ∙ is_some_find (is_join n f a b) (labels n) ∙ has_from_join n f a b j lj join in cc

first_or_later : (p : ℕ → Bool) (a : ℕ) (o : Option ℕ) (j : ℕ) (t : Bool) → p a ≡ t → cond t (Some a) o ≡ Some j → ((a ≡ j) × (p a ≡ true)) ⊎ (o ≡ Some j)
first_or_later p a o j true et e = inl (let same : a ≡ j = cc in same, et)
first_or_later p a o j false et e = inr e

found_in : (p : ℕ → Bool) (a k j : ℕ) → find p (range_with_len a k) ≡ Some j → (j < a + k) × (p j ≡ true)
found_in p a zero j e = absurd (let k : None ≡ Some j = e in cc)
found_in p a (suc k) j e = elim (first_or_later p a (find p (range_with_len (a + 1) k)) j (p a) refl e) [
  | inl here ↦ (omega arith, subst (λ (x : ℕ). p x ≡ true) here.0 here.1)
  | inr later ↦ let rest = found_in p (a + 1) k j later in (omega arith, rest.1)
]

-- what is found is a label, and the join
pub join_found : (n : ℕ) (f : ℕ → ℕ → Bool) (a b j : ℕ) → Some j ≡ find (is_join n f a b) (labels n) → (j < n) × IsJoin n f a b j
join_found n f a b j e = let found = found_in (is_join n f a b) 0 n j (sym e) in (omega arith, (is_join_exact n f a b j).0 found.1)

-- the search where the count and the order are given otherwise
pub search_same : {m n : ℕ} {f g : ℕ → ℕ → Bool} → m ≡ n → f ≡ g → (a b : ℕ) → find (is_join m f a b) (labels m) ≡ find (is_join n g a b) (labels n)
search_same e h a b = λ i. find (is_join (e i) (h i) a b) (labels (e i))
