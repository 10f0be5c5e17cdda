-- Which label flows to which, by a list of pairs.
use Rattle.std.specs.Prelude.{◌≡◌, ℕ, List, [], ◌∷◌, Contains, ◌↔◌, Bool, IsTrue, ◌==◌, ◌||◌, ◌&&◌, fold, Option, option_map, option_and_then, filter_map}
use Rattle.label_lattice.specs.Order.{Order, place_of}

-- the steps are pairs of the list, each from where the last one ended, and lead from a to b
abbrev pub IsPath : List (ℕ × ℕ) → List (ℕ × ℕ) → ℕ → ℕ → Type 0
IsPath pairs [] a b = a ≡ b
IsPath pairs (step ∷ steps) a b = Contains pairs step × (step.0 ≡ a) × IsPath pairs steps step.1 b

-- b is a, or is reached from a by a list of the pairs
abbrev pub Reaches : List (ℕ × ℕ) → ℕ → ℕ → Type 0
Reaches pairs a b = (steps : List (ℕ × ℕ)) × IsPath pairs steps a b

-- what reaches the pair's start now reaches what its end reaches
abbrev pub with_pair : (ℕ → ℕ → Bool) → ℕ × ℕ → ℕ → ℕ → Bool
with_pair f p a b = f a b || (f a p.0 && f p.1 b)

-- whether b is a, or is reached from a by the pairs
abbrev pub closes : List (ℕ × ℕ) → ℕ → ℕ → Bool
closes pairs = fold with_pair (λ a b. a == b) pairs

-- whether a flows to b
abbrev pub flows : Order → ℕ → ℕ → Bool
flows order = closes order.pairs

-- the test says what the lists of pairs say
abbrev pub IsExactTest : Type 0
IsExactTest = (pairs : List (ℕ × ℕ)) (a b : ℕ) → IsTrue (closes pairs a b) ↔ Reaches pairs a b

-- the pair by position, where both ends are names of labels
abbrev pub ends_of : List (List ℕ) → List ℕ × List ℕ → Option (ℕ × ℕ)
ends_of names pair = option_and_then (λ a. option_map (λ b. (a, b)) (place_of pair.1 names)) (place_of pair.0 names)

-- the pairs by position
abbrev pub pairs_numbered : List (List ℕ) → List (List ℕ × List ℕ) → List (ℕ × ℕ)
pairs_numbered names pairs = filter_map (ends_of names) pairs

-- the order of these names and pairs
abbrev pub order_of : List (List ℕ) → List (List ℕ × List ℕ) → Order
order_of names pairs = record { names = names; pairs = pairs_numbered names pairs }
