-- Whether a write fits the limits of its label.
use Rattle.std.specs.Prelude.{ℕ, ◌+◌, Bool, ◌==◌, List, [], ◌∷◌, ◌++◌, Option, filter, length, slice_get, sum_by}
use Rattle.label_limits.specs.declared.limits.Limits.{Limits}
use Rattle.label_limits.specs.declared.meter.Count.{Count}
use Rattle.label_limits.specs.Counting.{has_room}
use Rattle.facet_list.specs.Store.{Write, Facet, facets}
use Rattle.trapeze_io.specs.Sizes.{value_length}
use Rattle.facet_list.specs.Rows.{Rows, rows_after, facets_in}

-- the facets at a label, of all facets
abbrev pub at_label : ℕ → List Facet → List Facet
at_label l fs = filter (λ f. f.0.1 == l) fs

-- the size of a facet: the length of its key and that of its value, 0 if absent
abbrev pub size : Facet → ℕ
size f = length f.0.0 + value_length f.1

-- how many facets there are, and the sum of their sizes
abbrev pub tally : List Facet → Count
tally fs = record { facets = length fs; bytes = sum_by size fs }

-- the facets are within the limits, by their number and their sizes
abbrev pub are_within : Option Limits → List Facet → Bool
are_within limits fs = has_room limits (tally fs)

-- the live facets at a label, of rows
abbrev pub live_in : ℕ → Rows → List Facet
live_in l rows = at_label l (facets_in rows)

-- a write that fits, in rows: the live facets at its label after it are within the limits of this label
abbrev pub fits_in : List Limits → Rows → Write → Bool
fits_in limits rows x = are_within (slice_get limits x.label) (live_in x.label (rows_after rows x))

-- the live facets at a label, of writes: for each key written at exactly this label, the last write of it there
abbrev pub live : ℕ → List Write → List Facet
live l w = at_label l (facets w)

-- a write that fits, after the writes made so far: the live facets at its label after it are within the limits of this label
abbrev pub fits : List Limits → List Write → Write → Bool
fits limits w x = are_within (slice_get limits x.label) (live x.label (w ++ x ∷ []))
