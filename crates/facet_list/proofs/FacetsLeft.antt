-- The least facet after a slot is the first of those that are left.
use Rattle.std.proofs.Common.{◌≡◌, true, false, cond, List, [], ◌∷◌, T, Option, Some, None, refl, sym, ◌∙◌, ap, subst}
use Rattle.std.specs.Prelude.{filter}
use Rattle.std.specs.declared.cmp.Ordering.TheVariants.{Less, Equal, Greater}
use Rattle.std.specs.Ordering.{eq_by_cmp, is_eq, is_lt, ordering_reverse}
use Rattle.std.specs.FinMap.{find, is_sorted}
use Rattle.std.specs.FinMap.Entries.{below_all, is_sorted-where_key, find-where_key, same_entries}
use Rattle.facet_list.specs.Store.{Slot, slot_cmp, Facet}
use Rattle.facet_list.specs.Rows.{Rows, facet_at, facets_in}
use Rattle.facet_list.specs.Walk.{is_after, facets_left, IsNext}
use Rattle.facet_list.specs.Kept.{IsLeast}
use Rattle.facet_list.proofs.PassedTests.{both, less_true, none_or}
use Rattle.facet_list.proofs.Slots.{slots_total, exact_slot}
use Rattle.facet_list.proofs.RowFacets.{find_facets_in, facets_in_sorted}

-- before a walk all facets are left
pub all_left : (rows : Rows) → facets_left rows None ≡ facets_in rows
all_left rows = whole (facets_in rows)
  where
    whole : (fs : List Facet) → filter (λ (f : Facet). true) fs ≡ fs
    whole [] = refl
    whole (f ∷ fs) = ap (λ gs. f ∷ gs) (whole fs)

sorted_left : (rows : Rows) (after : Option Slot) → T (is_sorted slot_cmp (facets_left rows after))
sorted_left rows after = is_sorted-where_key slot_cmp (is_after after) (facets_in rows) (facets_in_sorted rows)

find_left : (rows : Rows) (after : Option Slot) (q : Slot) → find slot_cmp q (facets_left rows after) ≡ cond (is_after after q) (facet_at rows q) None
find_left rows after q = find-where_key slot_cmp (is_after after) q (λ x e. ap (is_after after) (sym (exact_slot q x e))) (facets_in rows)
    ∙ ap (λ o. cond (is_after after q) o None) (find_facets_in rows q)

below_left : (s : Slot) (fs : List Facet) → T (below_all slot_cmp s (filter (λ f. is_lt (slot_cmp s f.0)) fs))
below_left s [] = tt
below_left s (f ∷ fs) =
    let rest = filter (λ (g : Facet). is_lt (slot_cmp s g.0)) fs in
    elim (is_lt (slot_cmp s f.0)) as (λ b. is_lt (slot_cmp s f.0) ≡ b → T (below_all slot_cmp s (cond b (f ∷ rest) rest))) [
      | true ↦ λ e. both _ _ (subst T (sym e) tt) (below_left s fs)
      | false ↦ λ e. below_left s fs
    ] refl

after_later : (after : Option Slot) (s q : Slot) → is_after after s ≡ true → slot_cmp s q ≡ Less → is_after after q ≡ true
after_later None s q h e = refl
after_later (Some a) s q h e = ap is_lt (slots_total.trans a s q (less_true _ h) e)

pub next_left : (rows : Rows) (after : Option Slot) (o : Option Facet) → IsLeast rows after o → IsNext rows after o
next_left rows after None h = same_entries slot_cmp slots_total exact_slot _ [] (sorted_left rows after) tt (λ q. find_left rows after q ∙ none_or (is_after after q) (facet_at rows q) (h q))
next_left rows after (Some f) h = same_entries slot_cmp slots_total exact_slot _ _ (sorted_left rows after) (both _ _ (below_left f.0 (facets_in rows)) (sorted_left rows (Some f.0)))
    (λ q. find_left rows after q ∙ found q ∙ sym (ap (cond (eq_by_cmp slot_cmp q f.0) (Some f.1)) (find_left rows (Some f.0) q)))
  where
    found : (q : Slot) → cond (is_after after q) (facet_at rows q) None ≡ cond (is_eq (slot_cmp q f.0)) (Some f.1) (cond (is_lt (slot_cmp f.0 q)) (facet_at rows q) None)
    found q =
        let turn : slot_cmp f.0 q ≡ ordering_reverse (slot_cmp q f.0) = slots_total.antisymm f.0 q in
        elim (slot_cmp q f.0) as (λ r. slot_cmp q f.0 ≡ r → cond (is_after after q) (facet_at rows q) None ≡ cond (is_eq r) (Some f.1) (cond (is_lt (slot_cmp f.0 q)) (facet_at rows q) None)) [
          | Less ↦ λ e. none_or (is_after after q) (facet_at rows q) (λ t. h.least q t e) ∙ sym (ap (λ r. cond (is_lt r) (facet_at rows q) None) (turn ∙ ap ordering_reverse e))
          | Equal ↦ λ e. ap (λ z. cond (is_after after z) (facet_at rows z) None) (exact_slot q f.0 e) ∙ ap (λ b. cond b (facet_at rows f.0) None) h.later ∙ h.here
          | Greater ↦ λ e. (let later : slot_cmp f.0 q ≡ Less = turn ∙ ap ordering_reverse e in
              ap (λ b. cond b (facet_at rows q) None) (after_later after f.0 q h.later later) ∙ sym (ap (λ r. cond (is_lt r) (facet_at rows q) None) later))
        ] refl
