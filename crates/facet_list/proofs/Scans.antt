-- The best facet so far, and one more write.
use Rattle.std.proofs.Common.{◌≡◌, ◌≢◌, ℕ, true, false, cond, List, [], ◌∷◌, ◌++◌, Option, Some, None, refl, sym, ◌∙◌, ap, subst}
use Rattle.std.specs.Prelude.{IfSome, unwrap_or}
use Rattle.std.specs.FinMap.{get-empty}
use Rattle.std.specs.declared.cmp.Ordering.TheVariants.{Less, Equal, Greater}
use Rattle.std.specs.Ordering.{eq_by_cmp, is_eq, ordering_reverse}
use Rattle.std.specs.Cmp.{tied_itself}
use Rattle.facet_list.specs.Store.{Slot, Facet, slot_cmp, Write}
use Rattle.facet_list.specs.Rows.{Rows, rows_of, rows_after, facet_at, member, key_cmp}
use Rattle.facet_list.specs.Walk.{is_after}
use Rattle.facet_list.specs.Kept.{is_chosen, chosen, IsLeast}
use Rattle.label_lattice.specs.declared.label.Label.{Label}
use Rattle.std.proofs.lemmas.List.{append-nil}
use Rattle.std.proofs.lemmas.List.Elements.{filter-append}
use Rattle.facet_list.proofs.RowLaws.{rows_of-push}
use Rattle.facet_list.proofs.Slots.{slots_total, exact_slot, tied}
use Rattle.facet_list.proofs.FacetLaws.{facet_at-after}

abbrev pub slot : Write → Slot
slot x = (x.key, x.label)

untouched : (rows : Rows) (x : Write) (t : Slot) → t ≢ slot x → facet_at (rows_after rows x) t ≡ facet_at rows t
untouched rows x t n = facet_at-after rows x t
    ∙ elim (eq_by_cmp slot_cmp t (slot x)) as (λ b. eq_by_cmp slot_cmp t (slot x) ≡ b → cond b (Some x.value) (facet_at rows t) ≡ facet_at rows t) [
      | true ↦ λ e. absurd (n (tied t (slot x) e))
      | false ↦ λ e. refl
    ] refl

itself : (rows : Rows) (x : Write) → facet_at (rows_after rows x) (slot x) ≡ Some x.value
itself rows x = facet_at-after rows x (slot x) ∙ ap (λ r. cond (is_eq r) (Some x.value) (facet_at rows (slot x))) (tied_itself slots_total (slot x))

differs : (t s : Slot) → slot_cmp t s ≡ Less → t ≢ s
differs t s l e = let k : slot_cmp s s ≡ Less = subst (λ (z : Slot). slot_cmp z s ≡ Less) e l in let m = tied_itself slots_total s in cc

apart : (after : Option Slot) (x : Write) (t : Slot) → is_after after (slot x) ≡ false → is_after after t ≡ true → t ≢ slot x
apart after x t n a e = let k = ap (is_after after) e in cc

-- a write whose slot does not come after
pub skipped : (rows : Rows) (after : Option Slot) (best : Option (Slot × Option (List ℕ))) (x : Write) → is_after after (slot x) ≡ false → IsLeast rows after best → IsLeast (rows_after rows x) after best
skipped rows after None x n h = λ t a. untouched rows x t (apart after x t n a) ∙ h t a
skipped rows after (Some b) x n h = record {
  later = h.later;
  here = untouched rows x b.0 (apart after x b.0 n h.later) ∙ h.here;
  least = λ t a l. untouched rows x t (apart after x t n a) ∙ h.least t a l;
}

-- a write whose slot comes after the best one
pub passed : (rows : Rows) (after : Option Slot) (b : Slot × Option (List ℕ)) (x : Write) → slot_cmp b.0 (slot x) ≡ Less → IsLeast rows after (Some b) → IsLeast (rows_after rows x) after (Some b)
passed rows after b x l h = record {
  later = h.later;
  here = untouched rows x b.0 (differs b.0 (slot x) l) ∙ h.here;
  least = λ t a m. untouched rows x t (differs t (slot x) (slots_total.trans t b.0 (slot x) m l)) ∙ h.least t a m;
}

-- a write that is the first
pub begun : (rows : Rows) (after : Option Slot) (x : Write) → is_after after (slot x) ≡ true → IsLeast rows after None → IsLeast (rows_after rows x) after (Some (slot x, x.value))
begun rows after x a h = record {
  later = a;
  here = itself rows x;
  least = λ t b l. untouched rows x t (differs t (slot x) l) ∙ h t b;
}

-- a write that is no later than the best one
pub replaced : (rows : Rows) (after : Option Slot) (b : Slot × Option (List ℕ)) (x : Write) → is_after after (slot x) ≡ true → slot_cmp b.0 (slot x) ≢ Less → IsLeast rows after (Some b) → IsLeast (rows_after rows x) after (Some (slot x, x.value))
replaced rows after b x a n h = record {
  later = a;
  here = itself rows x;
  least = λ t c l. untouched rows x t (differs t (slot x) l) ∙ h.least t c (before t l);
}
  where
    before : (t : Slot) → slot_cmp t (slot x) ≡ Less → slot_cmp t b.0 ≡ Less
    before t l = elim (slot_cmp b.0 (slot x)) as (λ r. slot_cmp b.0 (slot x) ≡ r → slot_cmp t b.0 ≡ Less) [
      | Less ↦ λ e. absurd (n e)
      | Equal ↦ λ e. subst (λ (z : Slot). slot_cmp t z ≡ Less) (sym (exact_slot b.0 (slot x) e)) l
      | Greater ↦ λ e. slots_total.trans t (slot x) b.0 l (slots_total.antisymm (slot x) b.0 ∙ ap ordering_reverse e)
    ] refl

-- a write that comes before the least one so far or takes its place
pub takes : (rows : Rows) (after : Option Slot) (least : Option Facet) (x : Write) → IfSome least (λ f. slot_cmp f.0 (slot x) ≢ Less) → is_after after (slot x) ≡ true → IsLeast rows after least → IsLeast (rows_after rows x) after (Some (slot x, x.value))
takes rows after None x n a h = begun rows after x a h
takes rows after (Some f) x n a h = replaced rows after f x a n h

-- the rows of the chosen writes after one more
pub chosen_in : (only : Option Label) (w : List Write) (x : Write) → is_chosen only x ≡ true → rows_of (chosen only (w ++ x ∷ [])) ≡ rows_after (rows_of (chosen only w)) x
chosen_in only w x e = ap rows_of (filter-append (is_chosen only) w (x ∷ []) ∙ ap (λ b. chosen only w ++ cond b (x ∷ []) []) e) ∙ rows_of-push (chosen only w) x

pub chosen_out : (only : Option Label) (w : List Write) (x : Write) → is_chosen only x ≡ false → rows_of (chosen only (w ++ x ∷ [])) ≡ rows_of (chosen only w)
chosen_out only w x e = ap rows_of (filter-append (is_chosen only) w (x ∷ []) ∙ ap (λ b. chosen only w ++ cond b (x ∷ []) []) e ∙ append-nil (chosen only w))

pub chosen_all : (w : List Write) → chosen None w ≡ w
chosen_all [] = refl
chosen_all (x ∷ w) = ap (λ v. x ∷ v) (chosen_all w)

-- one more write that is not chosen, or whose facet is not greater
pub left_out : (only : Option Label) (w : List Write) (x : Write) (after : Option Slot) (least : Option Facet) → is_chosen only x ≡ false → IsLeast (rows_of (chosen only w)) after least → IsLeast (rows_of (chosen only (w ++ x ∷ []))) after least
left_out only w x after least e h = subst (λ (r : Rows). IsLeast r after least) (sym (chosen_out only w x e)) h

pub not_after : (only : Option Label) (w : List Write) (x : Write) (after : Option Slot) (least : Option Facet) → is_chosen only x ≡ true → is_after after (slot x) ≡ false → IsLeast (rows_of (chosen only w)) after least → IsLeast (rows_of (chosen only (w ++ x ∷ []))) after least
not_after only w x after least e n h = subst (λ (r : Rows). IsLeast r after least) (sym (chosen_in only w x e)) (skipped (rows_of (chosen only w)) after least x n h)

-- one more write whose facet is greater than the least one
pub not_lesser : (only : Option Label) (w : List Write) (x : Write) (after : Option Slot) (f : Facet) → is_chosen only x ≡ true → slot_cmp f.0 (slot x) ≡ Less → IsLeast (rows_of (chosen only w)) after (Some f) → IsLeast (rows_of (chosen only (w ++ x ∷ []))) after (Some f)
not_lesser only w x after f e l h = subst (λ (r : Rows). IsLeast r after (Some f)) (sym (chosen_in only w x e)) (passed (rows_of (chosen only w)) after f x l h)

-- one more write whose facet is the least now
pub lesser : (only : Option Label) (w : List Write) (x : Write) (after : Option Slot) (least : Option Facet) → is_chosen only x ≡ true → is_after after (slot x) ≡ true → IfSome least (λ f. slot_cmp f.0 (slot x) ≢ Less) → IsLeast (rows_of (chosen only w)) after least → IsLeast (rows_of (chosen only (w ++ x ∷ []))) after (Some (slot x, x.value))
lesser only w x after least e a n h = subst (λ (r : Rows). IsLeast r after (Some (slot x, x.value))) (sym (chosen_in only w x e)) (takes (rows_of (chosen only w)) after least x n a h)

-- no write, no facet
pub none_least : (only : Option Label) (after : Option Slot) → IsLeast (rows_of (chosen only [])) after None
none_least only after = λ t a. ap (λ o. member t.1 (unwrap_or o [])) (get-empty key_cmp t.0)
