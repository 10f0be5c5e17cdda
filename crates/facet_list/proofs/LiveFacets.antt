-- The live facets of a label after a write: how many they are, and the sum of their sizes.
use Rattle.std.proofs.Common.{◌≡◌, ◌+◌, ℕ, true, false, cond, List, [], ◌∷◌, ◌++◌, T, Option, length, refl, sym, ◌∙◌, ap, subst, arith}
use Rattle.std.specs.Prelude.{◌==◌, filter, not, sum_by, slice_get}
use Rattle.std.specs.declared.cmp.Ordering.TheVariants.{Less, Equal, Greater}
use Rattle.std.specs.Ordering.{is_eq, is_lt}
use Rattle.std.specs.FinMap.{put, is_sorted}
use Rattle.std.specs.FinMap.Entries.{below_all, by_order, is_sorted-where_key}
use Rattle.std.proofs.lemmas.Bool.Decides.{Decides-eqb}
use Rattle.std.proofs.lemmas.List.Sums.{sum_by-cons}
use Rattle.label_limits.specs.declared.limits.Limits.{Limits}
use Rattle.facet_list.specs.Store.{Slot, slot_cmp, Write, Facet}
use Rattle.facet_list.specs.Rows.{Rows, rows_of, rows_after, facets_in}
use Rattle.facet_list.specs.Room.{at_label, live_in, size, are_within, fits_in, fits}
use Rattle.facet_list.proofs.PassedTests.{first, second, both, less}
use Rattle.facet_list.proofs.Slots.{slots_total, exact_slot, seen_put}
use Rattle.facet_list.proofs.RowLaws.{rows_of-push}
use Rattle.facet_list.proofs.RowFacets.{facets_in_sorted, facets_in_of, facets_in_after}

-- the facets at other slots
abbrev pub others : Slot → List Facet → List Facet
others s fs = filter (λ f. not (is_eq (slot_cmp s f.0))) fs

-- past a slot all are others
all_others : (s : Slot) (fs : List Facet) → T (below_all slot_cmp s fs) → others s fs ≡ fs
all_others s [] h = refl
all_others s (f ∷ fs) h = ap (λ r. cond (not (is_eq r)) (f ∷ others s fs) (others s fs)) (less _ (first _ _ h)) ∙ ap (λ es. f ∷ es) (all_others s fs (second _ _ h))

below_later : (s t : Slot) (fs : List Facet) → slot_cmp s t ≡ Less → T (below_all slot_cmp t fs) → T (below_all slot_cmp s fs)
below_later s t [] l h = tt
below_later s t (f ∷ fs) l h =
    let here : T (is_lt (slot_cmp s f.0)) = subst (λ r. T (is_lt r)) (sym (slots_total.trans s t f.0 l (less _ (first _ _ h)))) tt in
    both _ _ here (below_later s t fs l (second _ _ h))

swap : (a b n : ℕ) → a + (b + n) ≡ b + (a + n)
swap a b n = omega arith

-- what is put adds its weight to that of the others
pub weight_put : (g : Facet → ℕ) (s : Slot) (v : Option (List ℕ)) (fs : List Facet) → T (is_sorted slot_cmp fs) → sum_by g (put slot_cmp s v fs) ≡ g (s, v) + sum_by g (others s fs)
weight_put g s v [] h = omega arith
weight_put g s v (f ∷ fs) h = elim (slot_cmp s f.0) as (λ r. slot_cmp s f.0 ≡ r
    → sum_by g (by_order r ((s, v) ∷ f ∷ fs) ((f.0, v) ∷ fs) (f ∷ put slot_cmp s v fs)) ≡ g (s, v) + sum_by g (cond (not (is_eq r)) (f ∷ others s fs) (others s fs))) [
      | Less ↦ λ e. sum_by-cons g (s, v) (f ∷ fs) ∙ ap (λ es. g (s, v) + sum_by g (f ∷ es)) (sym (all_others s fs (below_later s f.0 fs e (first _ _ h))))
      | Equal ↦ λ e. sum_by-cons g (f.0, v) fs ∙ ap (λ t. g (t, v) + sum_by g fs) (sym (exact_slot s f.0 e))
          ∙ ap (λ es. g (s, v) + sum_by g es) (sym (all_others s fs (subst (λ (t : Slot). T (below_all slot_cmp t fs)) (sym (exact_slot s f.0 e)) (first _ _ h))))
      | Greater ↦ λ e. sum_by-cons g f (put slot_cmp s v fs) ∙ ap (λ n. g f + n) (weight_put g s v fs (second _ _ h))
          ∙ swap (g f) (g (s, v)) (sum_by g (others s fs)) ∙ ap (λ n. g (s, v) + n) (sym (sum_by-cons g f (others s fs)))
    ] refl

pub ones : (fs : List Facet) → sum_by (λ (f : Facet). 1) fs ≡ length fs
ones [] = refl
ones (f ∷ fs) = sum_by-cons (λ (f : Facet). 1) f fs ∙ ap (λ n. 1 + n) (ones fs) ∙ omega arith

pub length_put : (s : Slot) (v : Option (List ℕ)) (fs : List Facet) → T (is_sorted slot_cmp fs) → length (put slot_cmp s v fs) ≡ 1 + length (others s fs)
length_put s v fs h = sym (ones (put slot_cmp s v fs)) ∙ weight_put (λ (f : Facet). 1) s v fs h ∙ ap (λ n. 1 + n) (ones (others s fs))

pub live_sorted : (l : ℕ) (rows : Rows) → T (is_sorted slot_cmp (live_in l rows))
live_sorted l rows = is_sorted-where_key slot_cmp (λ (s : Slot). s.1 == l) (facets_in rows) (facets_in_sorted rows)

-- a write puts its facet among the live ones of its label
pub live_after : (l : ℕ) (rows : Rows) (x : Write) → x.label ≡ l → live_in l (rows_after rows x) ≡ put slot_cmp (x.key, x.label) x.value (live_in l rows)
live_after l rows x e = ap (at_label l) (facets_in_after rows x)
    ∙ seen_put (λ (s : Slot). s.1 == l) (x.key, x.label) x.value (facets_in rows) (facets_in_sorted rows) true ((Decides-eqb x.label l).1 e)

-- and leaves those of the other labels
pub live_apart : (l : ℕ) (rows : Rows) (x : Write) → (x.label == l) ≡ false → live_in l (rows_after rows x) ≡ live_in l rows
live_apart l rows x e = ap (at_label l) (facets_in_after rows x)
    ∙ seen_put (λ (s : Slot). s.1 == l) (x.key, x.label) x.value (facets_in rows) (facets_in_sorted rows) false e

-- the live facets after a write are the one of the write and the others
pub live_length : (rows : Rows) (x : Write) → length (live_in x.label (rows_after rows x)) ≡ 1 + length (others (x.key, x.label) (live_in x.label rows))
live_length rows x = ap length (live_after x.label rows x refl) ∙ length_put (x.key, x.label) x.value (live_in x.label rows) (live_sorted x.label rows)

pub live_sum : (rows : Rows) (x : Write) → sum_by size (live_in x.label (rows_after rows x)) ≡ size ((x.key, x.label), x.value) + sum_by size (others (x.key, x.label) (live_in x.label rows))
live_sum rows x = ap (sum_by size) (live_after x.label rows x refl) ∙ weight_put size (x.key, x.label) x.value (live_in x.label rows) (live_sorted x.label rows)

-- whether a write fits after writes is told by their rows
pub fits_of : (limits : List Limits) (w : List Write) (x : Write) → fits_in limits (rows_of w) x ≡ fits limits w x
fits_of limits w x = ap (λ fs. are_within (slice_get limits x.label) (at_label x.label fs)) (ap facets_in (sym (rows_of-push w x)) ∙ facets_in_of (w ++ x ∷ []))
