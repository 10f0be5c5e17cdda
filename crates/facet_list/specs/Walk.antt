-- The facets of rows one after the other, by key in byte order and then by label.
use Rattle.std.specs.Prelude.{◌≡◌, ℕ, Bool, true, List, [], ◌∷◌, Option, Some, None, option_map, filter, Vec}
use Rattle.std.specs.Option.{option_copied}
use Rattle.std.specs.Borrow.{Bor}
use Rattle.std.specs.Ordering.{is_lt}
use Rattle.std.specs.declared.alloc.Global.{Global}
use Rattle.label_lattice.specs.declared.label.Label.{Label}
use Rattle.facet_list.specs.Store.{Slot, Facet, slot_cmp}
use Rattle.facet_list.specs.Rows.{Rows, facets_in}

-- the slot of a key that is lent and a label
abbrev pub slot_of : Bor (Vec ℕ Global) × Label → Slot
slot_of p = (p.0.now.items, p.1.number)

abbrev pub slot_after : Option (Bor (Vec ℕ Global) × Label) → Option Slot
slot_after after = option_map slot_of after

-- a facet that is lent
abbrev pub facet_lent : Bor (Vec ℕ Global) × Label × Option (Bor (List ℕ)) → Facet
facet_lent f = ((f.0.now.items, f.1.number), option_copied f.2)

-- s is greater than the slot, if there is one
abbrev pub is_after : Option Slot → Slot → Bool
is_after None s = true
is_after (Some a) s = is_lt (slot_cmp a s)

-- the facets that are left after a slot, or all of them, in order
abbrev pub facets_left : Rows → Option Slot → List Facet
facets_left rows after = filter (λ f. is_after after f.0) (facets_in rows)

-- the first of the facets that are left, and then those after it are left; or None where none is left
abbrev pub IsNext : Rows → Option Slot → Option Facet → Type 0
IsNext rows after None = facets_left rows after ≡ []
IsNext rows after (Some f) = facets_left rows after ≡ f ∷ facets_left rows (Some f.0)
