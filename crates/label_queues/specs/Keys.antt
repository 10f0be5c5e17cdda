-- The items of all lists stand in one slab, and a list is the list of their keys.
use Rattle.std.specs.Prelude.{◌≢◌, ◌≤◌, ℕ, List, [], ◌∷◌, Option, Some, None, IsSome, length, slice_index_or}

-- the item, if there is one, before the others
abbrev pub before : {T : Type 0} → Option T → List T → List T
before None xs = xs
before (Some x) xs = x ∷ xs

-- the items of these keys
abbrev pub items_at : {T : Type 0} → List (Option T) → List ℕ → List T
items_at slots [] = []
items_at slots (k ∷ ks) = before (slice_index_or slots k None) (items_at slots ks)

-- the key is none of these
abbrev pub Lacks : ℕ → List ℕ → Type 0
Lacks k [] = Unit {0}
Lacks k (x ∷ xs) = (k ≢ x) × Lacks k xs

-- no key stands twice
abbrev pub AreDistinct : List ℕ → Type 0
AreDistinct [] = Unit {0}
AreDistinct (x ∷ xs) = Lacks x xs × AreDistinct xs

-- no key of the first stands in the second
abbrev pub AreApart : List ℕ → List ℕ → Type 0
AreApart [] ys = Unit {0}
AreApart (x ∷ xs) ys = Lacks x ys × AreApart xs ys

-- each key has an item
abbrev pub AreHeld : {T : Type 0} → List (Option T) → List ℕ → Type 0
AreHeld slots [] = Unit {0}
AreHeld slots (x ∷ xs) = IsSome (slice_index_or slots x None) × AreHeld slots xs

abbrev pub keys_at : List (List ℕ) → ℕ → List ℕ
keys_at keys l = slice_index_or keys l []

-- the keys of all lists differ, and each names an item
pub record AreKeys {T : Type 0} (slots : List (Option T)) (keys : List (List ℕ)) : Type 0 where
  pub held : (l : ℕ) → AreHeld slots (keys_at keys l)
  pub distinct : (l : ℕ) → AreDistinct (keys_at keys l)
  pub apart : (l m : ℕ) → l ≢ m → AreApart (keys_at keys l) (keys_at keys m)

-- no list has more keys than its limit says, nor more than 32 bits count
pub record AreWithinLimits (keys : List (List ℕ)) (limits : List ℕ) : Type 0 where
  pub within : (l : ℕ) → length (keys_at keys l) ≤ slice_index_or limits l 0
  pub countable : (l : ℕ) → length (keys_at keys l) ≤ 4294967295
