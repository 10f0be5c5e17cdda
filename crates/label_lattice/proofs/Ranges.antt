-- Searches over labels, and over pairs of labels.
use Rattle.std.proofs.Common.{◌≡◌, ℕ, suc, ◌+◌, ◌-◌, ◌<◌, ◌≤◌, Bool, true, false, cond, List, [], ◌∷◌, ◌++◌, Some, None, map, refl, ◌∙◌, ap, arith}
use Rattle.std.specs.Prelude.{find, ◌||◌}
use Rattle.std.specs.Option.{is_some}
use Rattle.std.specs.List.{list_any, range_with_len, flat_map}
use Rattle.label_lattice.specs.Joins.{labels, labels_from}

pub labels_from_zero : (n : ℕ) → labels n ≡ labels_from 0 n
labels_from_zero n = let e : n ≡ n - 0 = omega arith in ap (range_with_len 0) e

pub labels_more : (j n : ℕ) → j < n → labels_from j n ≡ j ∷ labels_from (j + 1) n
labels_more j n lt = let e : n - j ≡ suc (n - (j + 1)) = omega arith in ap (range_with_len j) e

pub labels_none : (j n : ℕ) → n ≤ j → labels_from j n ≡ []
labels_none j n le = let e : n - j ≡ 0 = omega arith in ap (range_with_len j) e

-- a search over labels goes on from one to the next
pub find_here : (p : ℕ → Bool) (j n : ℕ) → j < n → p j ≡ true → find p (labels_from j n) ≡ Some j
find_here p j n lt e = ap (find p) (labels_more j n lt) ∙ ap (λ b. cond b (Some j) (find p (labels_from (j + 1) n))) e

pub find_next : (p : ℕ → Bool) (j n : ℕ) → j < n → p j ≡ false → find p (labels_from j n) ≡ find p (labels_from (j + 1) n)
find_next p j n lt e = ap (find p) (labels_more j n lt) ∙ ap (λ b. cond b (Some j) (find p (labels_from (j + 1) n))) e

pub find_end : (p : ℕ → Bool) (j n : ℕ) → n ≤ j → find p (labels_from j n) ≡ None
find_end p j n le = ap (find p) (labels_none j n le)

-- the pairs whose first label is a or later
abbrev pub pairs_from : ℕ → ℕ → List (ℕ × ℕ)
pairs_from a n = flat_map (λ a. map (λ b. (a, b)) (labels_from (a + 1) n)) (labels_from a n)

-- the pairs of a with b or a later one, and those with a later first label
abbrev pub pairs_at : ℕ → ℕ → ℕ → List (ℕ × ℕ)
pairs_at a b n = map (λ b. (a, b)) (labels_from b n) ++ pairs_from (a + 1) n

pub pairs_more : (a n : ℕ) → a < n → pairs_from a n ≡ pairs_at a (a + 1) n
pairs_more a n lt = ap (flat_map (λ a. map (λ b. (a, b)) (labels_from (a + 1) n))) (labels_more a n lt)

pub pairs_next : (a b n : ℕ) → b < n → pairs_at a b n ≡ (a, b) ∷ pairs_at a (b + 1) n
pairs_next a b n lt = ap (λ bs. map (λ b. (a, b)) bs ++ pairs_from (a + 1) n) (labels_more b n lt)

pub find_pair_here : (p : ℕ × ℕ → Bool) (a b n : ℕ) → b < n → p (a, b) ≡ true → find p (pairs_at a b n) ≡ Some (a, b)
find_pair_here p a b n lt e = ap (find p) (pairs_next a b n lt) ∙ ap (λ t. cond t (Some (a, b)) (find p (pairs_at a (b + 1) n))) e

pub find_pair_next : (p : ℕ × ℕ → Bool) (a b n : ℕ) → b < n → p (a, b) ≡ false → find p (pairs_at a b n) ≡ find p (pairs_at a (b + 1) n)
find_pair_next p a b n lt e = ap (find p) (pairs_next a b n lt) ∙ ap (λ t. cond t (Some (a, b)) (find p (pairs_at a (b + 1) n))) e

-- something is found where something passes
pub is_some_find : {X : Type 0} (p : X → Bool) (xs : List X) → is_some (find p xs) ≡ list_any p xs
is_some_find p [] = refl
is_some_find p (x ∷ xs) = elim (p x) as (λ t. is_some (cond t (Some x) (find p xs)) ≡ (t || list_any p xs)) [ true ↦ refl | false ↦ is_some_find p xs ]
