-- Facets within their sizes, one a label, and with labels below a number.
use native.Mathlib.Omega.{arith}
use Rattle.std.proofs.Common.{◌≡◌, ◌≢◌, ◌<◌, ℕ, Bool, true, false, cond, List, [], ◌∷◌, ◌++◌, Option, Some, None, refl, sym, ◌∙◌, ap, subst}
use Rattle.std.specs.Prelude.{filter, not, ◌==◌, unwrap_or, nat_eq, All}
use Rattle.std.specs.List.{AllPairs}
use Rattle.std.specs.Ordering.{eq_by_cmp, is_eq}
use Rattle.std.specs.Cmp.{tied_itself}
use Rattle.std.specs.Cmp.Lexicographic.{pointwise, bytes_decides}
use Rattle.std.specs.FinMap as finite
use Rattle.std.specs.FinMap.{get-empty}
use Rattle.std.proofs.lemmas.Bool.Decides.{Decides-eqb}
use Rattle.std.proofs.lemmas.List.Elements.{All-nil, All-cons, All-head, All-tail, All-push, All-filter, All-map, All-weaker, All-get_or, filter_passes}
use Rattle.std.proofs.lemmas.List.Kept.{AllPairs-filter}
use Rattle.std.proofs.lemmas.List.Quantifiers.{all_pairs_push}
use Rattle.facet_list.specs.Store.{Slot, slot_cmp, Write, last_value}
use Rattle.trapeze_io.specs.Sizes.{IsValue}
use Rattle.facet_list.specs.Rows.{Rows, Row, Member, row_of, row_after, rows_after, rows_from, rows_of, key_cmp, member, facet_at, read_row, IsSized, AreStoreRows, AreBelow}
use Rattle.facet_list.proofs.Slots.{slots_total}
use Rattle.facet_list.proofs.RowLaws.{row_of-after, rows_of-push}
use Rattle.facet_list.proofs.FacetLaws.{facet_at-after}

abbrev pub Differ : Member → Member → Type 0
Differ m n = m.0 ≢ n.0

others : (l : ℕ) (row : Row) → All (λ (m : Member). m.0 ≢ l) (filter (λ (m : Member). not (m.0 == l)) row)
others l row = All-weaker (λ (m : Member). not (m.0 == l) ≡ true) (λ (m : Member). m.0 ≢ l) (λ m p e. let k : (m.0 == l) ≡ true = (Decides-eqb m.0 l).1 e in cc) _ (filter_passes (λ (m : Member). not (m.0 == l)) row)

pub once_after : (l : ℕ) (v : Option (List ℕ)) (row : Row) → AllPairs Differ row → AllPairs Differ (row_after l v row)
once_after l v row h = all_pairs_push Differ (filter (λ (m : Member). not (m.0 == l)) row) (l, v) (AllPairs-filter Differ (λ (m : Member). not (m.0 == l)) row h)
    (λ k d lt. All-get_or (λ (m : Member). m.0 ≢ l) _ k d lt (others l row))

pub store_after : (n : ℕ) (rows : Rows) (x : Write) → AreStoreRows n rows → IsSized x.key x.value → x.label < n → AreStoreRows n (rows_after rows x)
store_after n rows x h s lt = record {
  sized = λ key. subst (λ (row : Row). All (λ m. IsSized key m.1) row) (sym (row_of-after rows x key))
      (elim (pointwise nat_eq key x.key) as (λ t. pointwise nat_eq key x.key ≡ t → All (λ m. IsSized key m.1) (cond t (row_after x.label x.value (row_of rows x.key)) (row_of rows key))) [
        | true ↦ λ e. subst (λ (k : List ℕ). All (λ m. IsSized k m.1) (row_after x.label x.value (row_of rows x.key))) (sym ((bytes_decides key x.key).0 e))
            (All-push (λ (m : Member). IsSized x.key m.1) _ (x.label, x.value) (All-filter (λ (m : Member). not (m.0 == x.label)) (λ (m : Member). IsSized x.key m.1) (row_of rows x.key) (h.sized x.key)) s)
        | false ↦ λ e. h.sized key
      ] refl);
  once = λ key. subst (λ (row : Row). AllPairs Differ row) (sym (row_of-after rows x key))
      (elim (pointwise nat_eq key x.key) as (λ t. AllPairs Differ (cond t (row_after x.label x.value (row_of rows x.key)) (row_of rows key))) [
        | true ↦ once_after x.label x.value (row_of rows x.key) (h.once x.key)
        | false ↦ h.once key
      ]);
  below = λ key. subst (λ (row : Row). All (λ m. m.0 < n) row) (sym (row_of-after rows x key))
      (elim (pointwise nat_eq key x.key) as (λ t. All (λ m. m.0 < n) (cond t (row_after x.label x.value (row_of rows x.key)) (row_of rows key))) [
        | true ↦ All-push (λ (m : Member). m.0 < n) _ (x.label, x.value) (All-filter (λ (m : Member). not (m.0 == x.label)) (λ (m : Member). m.0 < n) (row_of rows x.key) (h.below x.key)) lt
        | false ↦ h.below key
      ]);
}

pub store_empty : (n : ℕ) → AreStoreRows n finite.empty
store_empty n = record {
  sized = λ key. subst (λ (row : Row). All (λ m. IsSized key m.1) row) (sym (ap (λ o. unwrap_or o []) (get-empty key_cmp key))) (All-nil (λ (m : Member). IsSized key m.1));
  once = λ key. subst (λ (row : Row). AllPairs Differ row) (sym (ap (λ o. unwrap_or o []) (get-empty key_cmp key))) (λ i j d lt within. omega arith);
  below = λ key. subst (λ (row : Row). All (λ m. m.0 < n) row) (sym (ap (λ o. unwrap_or o []) (get-empty key_cmp key))) (All-nil (λ (m : Member). m.0 < n));
}

-- what holds of each member holds of the one at a label
pub All-member : (P : Member → Type 0) (l : ℕ) (v : Option (List ℕ)) (row : Row) → member l row ≡ Some v → All P row → P (l, v)
All-member P l v [] e h = cc
All-member P l v (m ∷ row) e h =
    elim (m.0 == l) as (λ t. (m.0 == l) ≡ t → cond t (Some m.1) (member l row) ≡ Some v → P (l, v)) [
      | true ↦ λ t e. (let same : m.0 ≡ l = (Decides-eqb m.0 l).0 t in let value : m.1 ≡ v = cc in
          subst (λ (k : ℕ). P (k, v)) same (subst (λ (u : Option (List ℕ)). P (m.0, u)) value (All-head P m row h)))
      | false ↦ λ t e. All-member P l v row e (All-tail P m row h)
    ] refl e

-- a facet is within its sizes
pub sized_at : (n : ℕ) (rows : Rows) (s : Slot) (v : Option (List ℕ)) → AreStoreRows n rows → facet_at rows s ≡ Some v → IsSized s.0 v
sized_at n rows s v h e = All-member (λ (m : Member). IsSized s.0 m.1) s.1 v (row_of rows s.0) e (h.sized s.0)

-- the label of a facet is below the number
pub below_at : (n : ℕ) (rows : Rows) (s : Slot) (v : Option (List ℕ)) → AreBelow n rows → facet_at rows s ≡ Some v → s.1 < n
below_at n rows s v h e = All-member (λ (m : Member). m.0 < n) s.1 v (row_of rows s.0) e (h s.0)

last_sized : (found : Option (List ℕ)) (vs : List (Option (List ℕ))) → IsValue found → All IsValue vs → IsValue (last_value found vs)
last_sized found [] f h = f
last_sized found (v ∷ vs) f h = last_sized v vs (All-head IsValue v vs h) (All-tail IsValue v vs h)

-- what is read is within its size
pub read_sized : (flows : ℕ → ℕ → Bool) (c n : ℕ) (rows : Rows) (key : List ℕ) → AreStoreRows n rows → IsValue (read_row flows c (row_of rows key))
read_sized flows c n rows key h = last_sized None _ (omega arith)
    (All-map IsValue (λ (m : Member). m.1) _ (All-filter (λ (m : Member). flows m.0 c) (λ (m : Member). IsValue m.1) (row_of rows key)
    (All-weaker (λ (m : Member). IsSized key m.1) (λ (m : Member). IsValue m.1) (λ m s. s.value_fits) (row_of rows key) (h.sized key))))

abbrev Held : Rows → Slot → Type 0
Held rows s = (v : Option (List ℕ)) × (facet_at rows s ≡ Some v)

held_after : (rows : Rows) (x : Write) (s : Slot) → Held rows s → Held (rows_after rows x) s
held_after rows x s h = elim (eq_by_cmp slot_cmp s (x.key, x.label)) as (λ t. eq_by_cmp slot_cmp s (x.key, x.label) ≡ t → Held (rows_after rows x) s) [
  | true ↦ λ e. (x.value, facet_at-after rows x s ∙ ap (λ t. cond t (Some x.value) (facet_at rows s)) e)
  | false ↦ λ e. (h.0, facet_at-after rows x s ∙ ap (λ t. cond t (Some x.value) (facet_at rows s)) e ∙ h.1)
] refl

held_from : (rows : Rows) (w : List Write) (s : Slot) → Held rows s → Held (rows_from rows w) s
held_from rows [] s h = h
held_from rows (x ∷ w) s h = held_from (rows_after rows x) w s (held_after rows x s h)

held_itself : (rows : Rows) (x : Write) → Held (rows_after rows x) (x.key, x.label)
held_itself rows x = (x.value, facet_at-after rows x (x.key, x.label) ∙ ap (λ r. cond (is_eq r) (Some x.value) (facet_at rows (x.key, x.label))) (tied_itself slots_total (x.key, x.label)))

below_from : (n : ℕ) (rows : Rows) (w : List Write) → AreBelow n (rows_from rows w) → All (λ x. x.label < n) w
below_from n rows [] h = All-nil (λ (x : Write). x.label < n)
below_from n rows (x ∷ w) h =
    let held = held_from (rows_after rows x) w (x.key, x.label) (held_itself rows x) in
    All-cons (λ (y : Write). y.label < n) x w (All-member (λ (m : Member). m.0 < n) x.label held.0 (row_of (rows_from (rows_after rows x) w) x.key) held.1 (h x.key)) (below_from n (rows_after rows x) w h)

-- the labels of the writes are those of their rows
pub below_of : (n : ℕ) (w : List Write) → AreBelow n (rows_of w) → All (λ x. x.label < n) w
below_of n w h = below_from n finite.empty w h

-- a write that may be pushed
pub store_push : (n : ℕ) (b : Bool) (w : List Write) (x : Write) → AreStoreRows n (rows_of w) → IsSized x.key x.value → x.label < n → AreStoreRows n (rows_of (cond b (w ++ x ∷ []) w))
store_push n true w x h s lt = subst (AreStoreRows n) (sym (rows_of-push w x)) (store_after n (rows_of w) x h s lt)
store_push n false w x h s lt = h
