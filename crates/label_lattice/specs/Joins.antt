-- Least labels that two labels flow to, among the numbers below a count.
use Rattle.std.specs.Prelude.{ℕ, ◌-◌, ◌+◌, ◌<◌, List, Bool, IsTrue, ◌||◌, ◌&&◌, not, map, find, unwrap_or}
use Rattle.std.specs.List.{list_any, list_all, range_with_len, flat_map}

-- the labels of an order of n labels
abbrev pub labels : ℕ → List ℕ
labels n = range_with_len 0 n

-- the labels from a up to n
abbrev pub labels_from : ℕ → ℕ → List ℕ
labels_from a n = range_with_len a (n - a)

-- the pairs a < b of labels, in the order of a, and then of b
abbrev pub label_pairs : ℕ → List (ℕ × ℕ)
label_pairs n = flat_map (λ a. map (λ b. (a, b)) (labels_from (a + 1) n)) (labels n)

-- the order turned round
abbrev pub turned : (ℕ → ℕ → Bool) → ℕ → ℕ → Bool
turned f a b = f b a

-- both flow to j, and j to each label that both flow to
pub record IsJoin (n : ℕ) (f : ℕ → ℕ → Bool) (a b j : ℕ) : Type 0 where
  pub left : IsTrue (f a j)
  pub right : IsTrue (f b j)
  pub least : (u : ℕ) → u < n → IsTrue (f a u) → IsTrue (f b u) → IsTrue (f j u)

-- m flows to both, and to m each label that flows to both
pub record IsMeet (n : ℕ) (f : ℕ → ℕ → Bool) (a b m : ℕ) : Type 0 where
  pub left : IsTrue (f m a)
  pub right : IsTrue (f m b)
  pub greatest : (u : ℕ) → u < n → IsTrue (f u a) → IsTrue (f u b) → IsTrue (f u m)

-- the same of j, as a test
abbrev pub is_join : ℕ → (ℕ → ℕ → Bool) → ℕ → ℕ → ℕ → Bool
is_join n f a b j = f a j && f b j && list_all (λ u. not (f a u && f b u) || f j u) (labels n)

-- whether a and b have a join
abbrev pub has_join : ℕ → (ℕ → ℕ → Bool) → ℕ → ℕ → Bool
has_join n f a b = list_any (is_join n f a b) (labels n)

-- whether a and b have a meet, which is a join where the order is turned round
abbrev pub has_meet : ℕ → (ℕ → ℕ → Bool) → ℕ → ℕ → Bool
has_meet n f a b = has_join n (turned f) a b

-- the join of a and b, or a where they have none
abbrev pub join : ℕ → (ℕ → ℕ → Bool) → ℕ → ℕ → ℕ
join n f a b = unwrap_or (find (is_join n f a b) (labels n)) a
