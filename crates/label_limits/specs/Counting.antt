-- Counting the live facets of labels against their limits.
use Rattle.std.specs.Prelude.{ℕ, ◌+◌, ◌-◌, ◌≤◌, Bool, false, nat_le, ◌&&◌, List, Option, None, Some, slice_get}
use Rattle.std.specs.List.{slice_index_or}
use Rattle.label_limits.specs.declared.limits.Limits.{Limits}
use Rattle.label_limits.specs.declared.meter.Count.{Count}

-- the limits and the count of each label
pub record Metered : Type 0 where
  pub limits : List Limits
  pub counts : List Count

-- a count of no facets
abbrev pub nothing : Count
nothing = record { facets = 0; bytes = 0 }

-- the count of a label
abbrev pub count_of : Metered → ℕ → Count
count_of meter l = slice_index_or meter.counts l nothing

-- the count once a facet of size `new` takes the place of one of size `old`, or is added
abbrev pub charged : Option ℕ → ℕ → Count → Count
charged None new count = record { facets = count.facets + 1; bytes = count.bytes + new }
charged (Some old) new count = record { facets = count.facets; bytes = count.bytes + new - old }

-- whether a count is within limits
abbrev pub has_room : Option Limits → Count → Bool
has_room None count = false
has_room (Some limits) count = nat_le count.facets limits.facets && nat_le count.bytes limits.bytes

-- whether the label's count stays within its limits
abbrev pub fits : Metered → ℕ → Option ℕ → ℕ → Bool
fits meter l old new = has_room (slice_get meter.limits l) (charged old new (count_of meter l))

-- a facet of this size is among those counted
abbrev pub IsCounted : Option ℕ → Count → Type 0
IsCounted None count = Unit {0}
IsCounted (Some old) count = (1 ≤ count.facets) × (old ≤ count.bytes)
