-- The writes that a walk over a list goes through, and the least facet among them.
use Rattle.std.specs.Prelude.{◌≡◌, Bool, true, ◌==◌, List, Option, Some, None, filter}
use Rattle.std.specs.Borrow.{Bor}
use Rattle.std.specs.declared.cmp.Ordering.TheVariants.{Less}
use Rattle.label_lattice.specs.declared.label.Label.{Label}
use Rattle.facet_list.specs.Store.{Write, Slot, Facet, slot_cmp}
use Rattle.facet_list.specs.Rows.{Rows, facet_at}
use Rattle.facet_list.specs.Walk.{is_after}

-- the write is at the label, where one is given
abbrev pub is_chosen : Option Label → Write → Bool
is_chosen None x = true
is_chosen (Some label) x = x.label == label.number

-- the writes at the label, or all
abbrev pub chosen : Option Label → List Write → List Write
chosen only w = filter (is_chosen only) w

-- the facet that a write leaves
abbrev pub facet_of : Bor Write → Facet
facet_of x = ((x.now.key, x.now.label), x.now.value)

-- no facet is greater than the slot
abbrev pub NoneAfter : Rows → Option Slot → Type 0
NoneAfter rows after = (t : Slot) → is_after after t ≡ true → facet_at rows t ≡ None

-- the facet is there and greater than the slot, and none between them is
pub record IsClosest (rows : Rows) (after : Option Slot) (f : Facet) : Type 0 where
  pub later : is_after after f.0 ≡ true
  pub here : facet_at rows f.0 ≡ Some f.1
  pub least : (t : Slot) → is_after after t ≡ true → slot_cmp t f.0 ≡ Less → facet_at rows t ≡ None

-- the least facet that is greater than the slot, or None where there is none
abbrev pub IsLeast : Rows → Option Slot → Option Facet → Type 0
IsLeast rows after None = NoneAfter rows after
IsLeast rows after (Some f) = IsClosest rows after f
