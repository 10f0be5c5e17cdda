-- What is wrong with a list of names and pairs that make no lattice.
use Rattle.std.specs.Prelude.{◌≡◌, ◌≢◌, ℕ, List, [], ◌∷◌, Bool, ◌&&◌, ◌==◌, not, nat_eq, nat_lt, if◌then◌else◌, Option, Some, None, Result, Ok, Err, option_map, length, take, find, position}
use Rattle.std.specs.List.{list_any, slice_index_or}
use Rattle.std.specs.Option.{option_or, is_none}
use Rattle.std.specs.Cmp.Lexicographic.{pointwise}
use Rattle.trapeze_io.specs.Names.{is_name}
use Rattle.label_lattice.specs.declared.label.Label.{Label}
use Rattle.label_lattice.specs.declared.error.LatticeError.{LatticeError}
use Rattle.label_lattice.specs.declared.error.LatticeError.TheVariants.{NoLabels, TooMany, BadName, Repeated, UnknownLabel, Cycle, NoJoin, NoMeet, NoMemory}
use Rattle.label_lattice.specs.Reach.{closes, ends_of, pairs_numbered}
use Rattle.label_lattice.specs.Joins.{labels, label_pairs, has_join, has_meet}

-- the first answer that f gives of the elements
abbrev pub first_of : {X Y : Type 0} → (X → Option Y) → List X → Option Y
first_of f [] = None
first_of f (x ∷ xs) = option_or (f x) (first_of f xs)

-- whether an earlier position has the name at position i
abbrev pub is_repeated : List (List ℕ) → ℕ → Bool
is_repeated names i = list_any (pointwise nat_eq (slice_index_or names i [])) (take i names)

-- what is wrong with the name at position i
abbrev pub name_fault : List (List ℕ) → ℕ → Option LatticeError
name_fault names i =
    if not (is_name (slice_index_or names i [])) then Some (BadName i) else
    if is_repeated names i then Some (Repeated i) else None

-- the first pair with an end that is no label
abbrev pub end_fault : List (List ℕ) → List (List ℕ × List ℕ) → Option LatticeError
end_fault names pairs = option_map UnknownLabel (position (λ pair. is_none (ends_of names pair)) pairs)

-- the first two labels that flow to each other, that have no join, that have no meet
abbrev pub cycle_of : ℕ → (ℕ → ℕ → Bool) → Option (ℕ × ℕ)
cycle_of n f = find (λ p. f p.0 p.1 && f p.1 p.0) (label_pairs n)

abbrev pub no_join_of : ℕ → (ℕ → ℕ → Bool) → Option (ℕ × ℕ)
no_join_of n f = find (λ p. not (has_join n f p.0 p.1)) (label_pairs n)

abbrev pub no_meet_of : ℕ → (ℕ → ℕ → Bool) → Option (ℕ × ℕ)
no_meet_of n f = find (λ p. not (has_meet n f p.0 p.1)) (label_pairs n)

-- the label of a number
abbrev pub label_of : ℕ → Label
label_of number = record { number = number }

-- what is wrong with an order of n labels: all cycles before all missing joins before all missing meets
abbrev pub order_fault : ℕ → (ℕ → ℕ → Bool) → Option LatticeError
order_fault n f =
    option_or (option_map (λ p. Cycle (label_of p.0) (label_of p.1)) (cycle_of n f))
    (option_or (option_map (λ p. NoJoin (label_of p.0) (label_of p.1)) (no_join_of n f))
    (option_map (λ p. NoMeet (label_of p.0) (label_of p.1)) (no_meet_of n f)))

-- the first fault of names and pairs, if they make no lattice
abbrev pub first_fault : List (List ℕ) → List (List ℕ × List ℕ) → Option LatticeError
first_fault names pairs =
    if length names == 0 then Some NoLabels else
    if nat_lt 64 (length names) then Some TooMany else
    option_or (first_of (name_fault names) (labels (length names)))
    (option_or (end_fault names pairs)
    (order_fault (length names) (closes (pairs_numbered names pairs))))

-- a value where there is no fault, and otherwise the fault, or out of memory
abbrev pub Passes : {T : Type 0} → Option LatticeError → Result T LatticeError → Type 0
Passes fault (Ok x) = fault ≡ None
Passes fault (Err e) = e ≢ NoMemory → fault ≡ Some e
