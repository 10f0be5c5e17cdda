-- The six limits of a label: their ranges, and which of six numbers is the first outside its own.
use Rattle.std.specs.Prelude.{◌≡◌, ℕ, ℤ, pos, negsuc, ◌+◌, List, [], ◌∷◌, Bool, false, not, nat_le, ◌&&◌, Option, None, Some, option_map, position, map, Result, Ok, Err}
use Rattle.std.specs.List.{zip}
use Rattle.label_limits.specs.declared.limits.Limits.{Limits}
use Rattle.label_limits.specs.declared.limits.LimitError.{LimitError}
use Rattle.label_limits.specs.declared.limits.LimitError.TheVariants.{OutOfRange}

-- the least and the greatest number of each limit
abbrev pub ranges : List (ℕ × ℕ)
ranges =
    (1, 1000000)  -- quantum
    ∷ (1, 1000000000)  -- fuel
    ∷ (0, 65536)  -- pages
    ∷ (1, 65536)  -- queue
    ∷ (0, 1000000)  -- facets
    ∷ (0, 1073741824)  -- bytes
    ∷ []

-- whether a whole number lies in a range
abbrev pub is_within : ℕ × ℕ → ℤ → Bool
is_within range (pos n) = nat_le range.0 n && nat_le n range.1
is_within range (negsuc n) = false

-- the first number outside its range, counted from 1
abbrev pub first_outside : List ℤ → Option ℕ
first_outside numbers = option_map (λ i. i + 1) (position (λ p. not (is_within p.0 p.1)) (zip ranges numbers))

-- the six numbers
abbrev pub numbers_of : Limits → List ℤ
numbers_of limits = map pos (limits.quantum ∷ limits.fuel ∷ limits.pages ∷ limits.queue ∷ limits.facets ∷ limits.bytes ∷ [])

-- the limits of a label for which none are given
abbrev pub usual : Limits
usual = record { quantum = 10000; fuel = 10000000; pages = 256; queue = 1024; facets = 100000; bytes = 67108864 }

-- each limit lies in its range
abbrev pub AreWithin : Limits → Type 0
AreWithin limits = first_outside (numbers_of limits) ≡ None

-- the limits with these numbers, or the first that is outside its range
abbrev pub Checks : List ℤ → Result Limits LimitError → Type 0
Checks numbers (Ok limits) = AreWithin limits × (numbers_of limits ≡ numbers)
Checks numbers (Err (OutOfRange which)) = first_outside numbers ≡ Some which
