-- The counts of a meter are those of the live facets.
use Rattle.std.proofs.Common.{◌≡◌, ◌≢◌, ◌<◌, ◌≤◌, ◌+◌, ◌-◌, ℕ, Bool, true, false, cond, List, [], ◌∷◌, T, Option, Some, None, length, get_or, set, map, zero, suc, refl, sym, ◌∙◌, ap, subst, arith}
use Rattle.std.specs.Prelude.{◌==◌, not, option_map, slice_get, sum_by, unwrap_or}
use Rattle.std.specs.Ordering.{eq_by_cmp}
use Rattle.std.specs.FinMap as finite
use Rattle.std.specs.FinMap.{put, find, is_sorted, get-empty}
use Rattle.std.specs.FinMap.Entries.{find-put, is_sorted-put, same_entries, find-where_key}
use Rattle.std.proofs.lemmas.Bool.Decides.{Decides-eqb}
use Rattle.std.proofs.lemmas.List.{get_or-set_same, get_or-set_other, length-set}
use Rattle.label_limits.specs.declared.limits.Limits.{Limits}
use Rattle.label_limits.specs.declared.meter.Count.{Count}
use Rattle.label_limits.specs.Counting.{Metered, nothing, count_of, charged, has_room, fits, IsCounted}
use Rattle.facet_list.specs.Store.{Slot, Write, Facet, slot_cmp}
use Rattle.facet_list.specs.Rows.{Rows, rows_after, facets_in, facet_at, member, key_cmp, IsSized, AreStoreRows}
use Rattle.facet_list.specs.Room.{size, tally, at_label, live_in, fits_in}
use Rattle.facet_list.proofs.Slots.{slots_total, exact_slot, tied}
use Rattle.facet_list.proofs.RowFacets.{find_facets_in, facets_in_unique}
use Rattle.facet_list.proofs.LiveFacets.{others, weight_put, ones, live_sorted, live_length, live_sum, live_apart}
use Rattle.facet_list.proofs.Sizes.{store_after}
use Rattle.facet_index.specs.Rows.{IsMetered}

-- the facet of a slot among the live ones of its label
live_found : (rows : Rows) (s : Slot) → find slot_cmp s (live_in s.1 rows) ≡ facet_at rows s
live_found rows s = find-where_key slot_cmp (λ (t : Slot). t.1 == s.1) s (λ x e. ap (λ (t : Slot). t.1 == s.1) (sym (exact_slot s x e))) (facets_in rows)
    ∙ ap (λ b. cond b (find slot_cmp s (facets_in rows)) None) ((Decides-eqb s.1 s.1).1 refl) ∙ find_facets_in rows s

-- a facet that is there adds its weight to that of the others
weight_found : (g : Facet → ℕ) (s : Slot) (v : Option (List ℕ)) (fs : List Facet) → T (is_sorted slot_cmp fs) → find slot_cmp s fs ≡ Some v → sum_by g fs ≡ g (s, v) + sum_by g (others s fs)
weight_found g s v fs sorted e = ap (sum_by g) (same_entries slot_cmp slots_total exact_slot fs (put slot_cmp s v fs) sorted (is_sorted-put slot_cmp slots_total s v fs sorted)
    (λ q. same q ∙ sym (find-put slot_cmp slots_total q s v fs))) ∙ weight_put g s v fs sorted
  where
    same : (q : Slot) → find slot_cmp q fs ≡ cond (eq_by_cmp slot_cmp q s) (Some v) (find slot_cmp q fs)
    same q = elim (eq_by_cmp slot_cmp q s) as (λ b. eq_by_cmp slot_cmp q s ≡ b → find slot_cmp q fs ≡ cond b (Some v) (find slot_cmp q fs)) [
      | true ↦ λ t. ap (λ z. find slot_cmp z fs) (tied q s t) ∙ e
      | false ↦ λ t. refl
    ] refl

-- where a slot has no facet all are others
none_others : (s : Slot) (fs : List Facet) → find slot_cmp s fs ≡ None → others s fs ≡ fs
none_others s [] e = refl
none_others s (f ∷ fs) e = elim (eq_by_cmp slot_cmp s f.0) as (λ b. cond b (Some f.1) (find slot_cmp s fs) ≡ None → cond (not b) (f ∷ others s fs) (others s fs) ≡ f ∷ fs) [
  | true ↦ λ e. cc
  | false ↦ λ e. ap (λ gs. f ∷ gs) (none_others s fs e)
] e

abbrev count : ℕ → ℕ → Count
count n sum = record { facets = n; bytes = sum }

same_count : (a b c d : ℕ) → a ≡ c → b ≡ d → count a b ≡ count c d
same_count a b c d p q = ap (λ n. count n b) p ∙ ap (count c) q

-- the size of a facet that is there
abbrev pub old_size : Rows → Slot → Option ℕ
old_size rows s = option_map (λ v. size (s, v)) (facet_at rows s)

replaced : (a b c d e : ℕ) → a ≡ b + c → d ≡ e + c → a + e - b ≡ d
replaced a b c d e p q = omega (arith, p, q)

added : (a b c d : ℕ) → a ≡ c → d ≡ b + c → a + b ≡ d
added a b c d p q = omega (arith, p, q)

-- the count after a write: its facet takes the place of the one that was there, or is added
pub charged_after : (rows : Rows) (x : Write) → charged (old_size rows (x.key, x.label)) (size ((x.key, x.label), x.value)) (tally (live_in x.label rows)) ≡ tally (live_in x.label (rows_after rows x))
charged_after rows x = go (facet_at rows (x.key, x.label)) refl
  where
    go : (o : Option (Option (List ℕ))) → facet_at rows (x.key, x.label) ≡ o
        → charged (option_map (λ v. size ((x.key, x.label), v)) o) (size ((x.key, x.label), x.value)) (tally (live_in x.label rows)) ≡ tally (live_in x.label (rows_after rows x))
    go None e =
        let rest = none_others (x.key, x.label) (live_in x.label rows) (live_found rows (x.key, x.label) ∙ e) in
        same_count _ _ _ _ (added (length (live_in x.label rows)) 1 _ _ (ap length (sym rest)) (live_length rows x)) (added (sum_by size (live_in x.label rows)) (size ((x.key, x.label), x.value)) _ _ (ap (sum_by size) (sym rest)) (live_sum rows x))
    go (Some v) e =
        let found = live_found rows (x.key, x.label) ∙ e in
        let many = sym (ones (live_in x.label rows)) ∙ weight_found (λ (f : Facet). 1) (x.key, x.label) v (live_in x.label rows) (live_sorted x.label rows) found ∙ ap (λ n. 1 + n) (ones (others (x.key, x.label) (live_in x.label rows))) in
        same_count _ _ _ _ (many ∙ sym (live_length rows x))
        (replaced (sum_by size (live_in x.label rows)) (size ((x.key, x.label), v)) _ _ (size ((x.key, x.label), x.value)) (weight_found size (x.key, x.label) v (live_in x.label rows) (live_sorted x.label rows) found) (live_sum rows x))

at_least : (a b c : ℕ) → a ≡ b + c → b ≤ a
at_least a b c e = omega (arith, e)

-- a facet that is there is counted
pub counted : (rows : Rows) (s : Slot) → IsCounted (old_size rows s) (tally (live_in s.1 rows))
counted rows s = go (facet_at rows s) refl
  where
    go : (o : Option (Option (List ℕ))) → facet_at rows s ≡ o → IsCounted (option_map (λ v. size (s, v)) o) (tally (live_in s.1 rows))
    go None e = tt
    go (Some v) e =
        let found = live_found rows s ∙ e in
        let many = sym (ones (live_in s.1 rows)) ∙ weight_found (λ (f : Facet). 1) s v (live_in s.1 rows) (live_sorted s.1 rows) found in
        (at_least _ _ _ many, at_least _ _ _ (weight_found size s v (live_in s.1 rows) (live_sorted s.1 rows) found))

-- the meter tells whether a write fits
pub fits_told : (meter : Metered) (rows : Rows) (x : Write) → IsMetered meter rows → x.label < length meter.limits
    → fits meter x.label (old_size rows (x.key, x.label)) (size ((x.key, x.label), x.value)) ≡ fits_in meter.limits rows x
fits_told meter rows x h lt = ap (λ c. has_room (slice_get meter.limits x.label) (charged (old_size rows (x.key, x.label)) (size ((x.key, x.label), x.value)) c)) (h.exact x.label lt)
    ∙ ap (has_room (slice_get meter.limits x.label)) (charged_after rows x)

-- a meter that is charged for a write
abbrev pub charged_meter : Metered → Rows → Write → Metered
charged_meter meter rows x = record {
  limits = meter.limits;
  counts = set meter.counts x.label (charged (old_size rows (x.key, x.label)) (size ((x.key, x.label), x.value)) (count_of meter x.label));
}

pub metered_after : (meter : Metered) (rows : Rows) (x : Write) → IsMetered meter rows → x.label < length meter.limits → IsMetered (charged_meter meter rows x) (rows_after rows x)
metered_after meter rows x h lt = record {
  each = length-set meter.counts x.label _ ∙ h.each;
  exact = λ l within. elim (x.label == l) as (λ b. (x.label == l) ≡ b → count_of (charged_meter meter rows x) l ≡ tally (live_in l (rows_after rows x))) [
    | true ↦ λ e. (let same = (Decides-eqb x.label l).0 e in
        subst (λ (k : ℕ). count_of (charged_meter meter rows x) k ≡ tally (live_in k (rows_after rows x))) same
        (get_or-set_same meter.counts x.label _ nothing (subst (λ (n : ℕ). x.label < n) (sym h.each) lt)
        ∙ ap (charged (old_size rows (x.key, x.label)) (size ((x.key, x.label), x.value))) (h.exact x.label lt) ∙ charged_after rows x))
    | false ↦ λ e. get_or-set_other meter.counts x.label l _ nothing (apart l e) ∙ h.exact l within ∙ ap tally (sym (live_apart l rows x e))
  ] refl;
}
  where
    apart : (l : ℕ) → (x.label == l) ≡ false → l ≢ x.label
    apart l e same = let k = (Decides-eqb x.label l).1 (sym same) in cc

none_counted : (limits : List Limits) (l : ℕ) → get_or (map (λ (k : Limits). nothing) limits) l nothing ≡ nothing
none_counted [] l = refl
none_counted (k ∷ limits) zero = refl
none_counted (k ∷ limits) (suc l) = none_counted limits l

same_length : (limits : List Limits) → length (map (λ (k : Limits). nothing) limits) ≡ length limits
same_length [] = refl
same_length (k ∷ limits) = ap suc (same_length limits)

no_facets : facets_in finite.empty ≡ []
no_facets = sym (facets_in_unique finite.empty [] tt (λ q. sym (ap (λ o. member q.1 (unwrap_or o [])) (get-empty key_cmp q.0))))

-- a new meter counts the facets of no rows
pub metered_none : (meter : Metered) (limits : List Limits) (rows : Rows) → meter.limits ≡ limits → meter.counts ≡ map (λ (k : Limits). nothing) limits → rows ≡ finite.empty → IsMetered meter rows
metered_none meter limits rows same none empty = record {
  each = ap length none ∙ same_length limits ∙ ap length (sym same);
  exact = λ l lt. ap (λ cs. get_or cs l nothing) none ∙ none_counted limits l ∙ ap (λ fs. tally (at_label l fs)) (sym (ap facets_in empty ∙ no_facets));
}

same_meter : (m n : Metered) → m.limits ≡ n.limits → m.counts ≡ n.counts → m ≡ n
same_meter m n p q = ap (λ ls. meter_of ls m.counts) p ∙ ap (meter_of n.limits) q
  where
    meter_of : List Limits → List Count → Metered
    meter_of ls cs = record { limits = ls; counts = cs }

-- by the sizes that are told, the meter tells whether a write fits
pub fits_sized : (meter : Metered) (rows : Rows) (x : Write) (old : Option ℕ) (new : ℕ) (b : Bool) → IsMetered meter rows → x.label < length meter.limits
    → old ≡ old_size rows (x.key, x.label) → new ≡ size ((x.key, x.label), x.value) → b ≡ fits meter x.label old new → fits_in meter.limits rows x ≡ b
fits_sized meter rows x old new b h lt p q told = sym (told ∙ ap (λ o. fits meter x.label o new) p ∙ ap (fits meter x.label (old_size rows (x.key, x.label))) q ∙ fits_told meter rows x h lt)

-- the size that is told is counted
pub counted_sized : (meter : Metered) (rows : Rows) (s : Slot) (old : Option ℕ) → IsMetered meter rows → s.1 < length meter.limits → old ≡ old_size rows s → IsCounted old (count_of meter s.1)
counted_sized meter rows s old h lt p = subst (λ (o : Option ℕ). IsCounted o (count_of meter s.1)) (sym p) (subst (IsCounted (old_size rows s)) (sym (h.exact s.1 lt)) (counted rows s))

-- the meter that was charged counts the facets after the write
pub metered_charged : (meter now : Metered) (rows after : Rows) (x : Write) (old : Option ℕ) (new : ℕ) → IsMetered meter rows → x.label < length meter.limits
    → old ≡ old_size rows (x.key, x.label) → new ≡ size ((x.key, x.label), x.value) → now.counts ≡ set meter.counts x.label (charged old new (count_of meter x.label)) → now.limits ≡ meter.limits
    → after ≡ rows_after rows x → IsMetered now after
metered_charged meter now rows after x old new h lt p q counts same made =
    subst (IsMetered now) (sym made) (subst (λ (m : Metered). IsMetered m (rows_after rows x)) (sym (same_meter now (charged_meter meter rows x) same
    (counts ∙ ap (λ o. set meter.counts x.label (charged o new (count_of meter x.label))) p ∙ ap (λ n. set meter.counts x.label (charged (old_size rows (x.key, x.label)) n (count_of meter x.label))) q)))
    (metered_after meter rows x h lt))

-- the rows after the write are those of a store
pub stored : (n m : ℕ) (rows after : Rows) (x : Write) → AreStoreRows n rows → IsSized x.key x.value → x.label < n → m ≡ n → after ≡ rows_after rows x → AreStoreRows m after
stored n m rows after x h sized lt same made = subst (λ (k : ℕ). AreStoreRows k after) (sym same) (subst (AreStoreRows n) (sym made) (store_after n rows x h sized lt))
