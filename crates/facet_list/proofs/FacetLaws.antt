-- The facets of writes are those of their rows.
use Rattle.std.proofs.Common.{◌≡◌, ℕ, Bool, true, false, cond, List, [], ◌∷◌, ◌++◌, T, Option, Some, refl, sym, ◌∙◌, ap, arith}
use Rattle.std.specs.Prelude.{◌&&◌, filter, not, ◌==◌, if◌then◌else◌, unwrap_or, nat_eq}
use Rattle.std.specs.declared.cmp.Ordering.{Ordering}
use Rattle.std.specs.declared.cmp.Ordering.TheVariants.{Less, Equal, Greater}
use Rattle.std.specs.Ordering.{nat_cmp, eq_by_cmp, is_eq, ordering_then}
use Rattle.std.specs.Cmp.Lexicographic.{slice_cmp, pointwise, texts_ties, bytes_decides}
use Rattle.std.specs.FinMap as finite
use Rattle.std.specs.FinMap.{put, find, is_sorted, get-empty}
use Rattle.std.specs.FinMap.Entries.{find-put, same_entries, is_sorted-put}
use Rattle.std.proofs.lemmas.Bool.Decides.{Decides-eqb, nat_tests}
use Rattle.facet_list.specs.Store.{Slot, slot_cmp, Write, Facet, facets_after, facets}
use Rattle.facet_list.specs.Rows.{Row, Rows, key_cmp, row_of, row_after, rows_after, rows_from, rows_of, member, facet_at}
use Rattle.facet_list.proofs.Slots.{slots_total, exact_slot}
use Rattle.facet_list.proofs.RowLaws.{row_of-after}

turned : {A : Type 0} (s t : Bool) (x y z : A) → (s ≡ true → t ≡ true → x ≡ y) → cond s x (cond t y z) ≡ cond t y (cond s x z)
turned true true x y z h = h refl refl
turned true false x y z h = refl
turned false t x y z h = refl

dropped : {A : Type 0} (s t : Bool) (x y z : A) → t ≡ s → cond s x z ≡ cond s x (cond t y z)
dropped true t x y z h = refl
dropped false true x y z h = cc
dropped false false x y z h = refl

-- the members of other labels stay
member-after : (l k : ℕ) (v : Option (List ℕ)) (row : Row) → member l (row_after k v row) ≡ (if k == l then Some v else member l row)
member-after l k v [] = refl
member-after l k v (n ∷ row) =
    elim (n.0 == k) as (λ b. (n.0 == k) ≡ b → member l (cond (not b) (n ∷ filter (λ m. not (m.0 == k)) row) (filter (λ m. not (m.0 == k)) row) ++ (k, v) ∷ []) ≡ cond (k == l) (Some v) (cond (n.0 == l) (Some n.1) (member l row))) [
      | true ↦ λ e. member-after l k v row ∙ dropped (k == l) (n.0 == l) (Some v) (Some n.1) (member l row) (ap (λ z. z == l) ((Decides-eqb n.0 k).0 e))
      | false ↦ λ e. ap (cond (n.0 == l) (Some n.1)) (member-after l k v row)
          ∙ turned (n.0 == l) (k == l) (Some n.1) (Some v) (member l row) (λ a b. let same : (n.0 == k) ≡ true = (Decides-eqb n.0 k).1 ((Decides-eqb n.0 l).0 a ∙ sym ((Decides-eqb k l).0 b)) in cc)
    ] refl

eq_then : (a b : Ordering) → is_eq (ordering_then a b) ≡ (is_eq a && is_eq b)
eq_then Less b = refl
eq_then Equal b = refl
eq_then Greater b = refl

eq_nat : (x y : ℕ) → is_eq (nat_cmp x y) ≡ (y == x)
eq_nat x y = grind (arith, nat_tests)

pub ties : (q : Slot) (key : List ℕ) (l : ℕ) → eq_by_cmp slot_cmp q (key, l) ≡ (pointwise nat_eq q.0 key && (l == q.1))
ties q key l = eq_then (slice_cmp nat_cmp q.0 key) (nat_cmp q.1 l) ∙ ap (λ b. b && is_eq (nat_cmp q.1 l)) (sym (texts_ties q.0 key)) ∙ ap (λ b. pointwise nat_eq q.0 key && b) (eq_nat q.1 l)

pub facet_at-after : (rows : Rows) (x : Write) (q : Slot) → facet_at (rows_after rows x) q ≡ cond (eq_by_cmp slot_cmp q (x.key, x.label)) (Some x.value) (facet_at rows q)
facet_at-after rows x q = ap (member q.1) (row_of-after rows x q.0)
    ∙ elim (pointwise nat_eq q.0 x.key) as (λ b. pointwise nat_eq q.0 x.key ≡ b → member q.1 (cond b (row_after x.label x.value (row_of rows x.key)) (row_of rows q.0)) ≡ cond (b && (x.label == q.1)) (Some x.value) (facet_at rows q)) [
      | true ↦ λ e. member-after q.1 x.label x.value (row_of rows x.key) ∙ ap (λ k. cond (x.label == q.1) (Some x.value) (member q.1 (row_of rows k))) (sym ((bytes_decides q.0 x.key).0 e))
      | false ↦ λ e. refl
    ] refl
    ∙ ap (λ b. cond b (Some x.value) (facet_at rows q)) (sym (ties q x.key x.label))

find_from : (w : List Write) (fs : List Facet) (rows : Rows) → ((q : Slot) → find slot_cmp q fs ≡ facet_at rows q) → (q : Slot) → find slot_cmp q (facets_after fs w) ≡ facet_at (rows_from rows w) q
find_from [] fs rows h q = h q
find_from (x ∷ w) fs rows h q = find_from w (put slot_cmp (x.key, x.label) x.value fs) (rows_after rows x)
    (λ q. find-put slot_cmp slots_total q (x.key, x.label) x.value fs ∙ ap (cond (eq_by_cmp slot_cmp q (x.key, x.label)) (Some x.value)) (h q) ∙ sym (facet_at-after rows x q)) q

sorted_from : (w : List Write) (fs : List Facet) → T (is_sorted slot_cmp fs) → T (is_sorted slot_cmp (facets_after fs w))
sorted_from [] fs h = h
sorted_from (x ∷ w) fs h = sorted_from w _ (is_sorted-put slot_cmp slots_total (x.key, x.label) x.value fs h)

-- the facets are in order
pub facets_sorted : (w : List Write) → T (is_sorted slot_cmp (facets w))
facets_sorted w = sorted_from w [] tt

-- the facets of the writes are those of their rows
pub find_facets : (w : List Write) (q : Slot) → find slot_cmp q (facets w) ≡ facet_at (rows_of w) q
find_facets w q = find_from w [] finite.empty (λ q. sym (ap (λ o. member q.1 (unwrap_or o [])) (get-empty key_cmp q.0))) q

-- a list in order that has the facets of the rows is the facets
pub facets_unique : (w : List Write) (fs : List Facet) → T (is_sorted slot_cmp fs) → ((q : Slot) → find slot_cmp q fs ≡ facet_at (rows_of w) q) → fs ≡ facets w
facets_unique w fs sorted h = same_entries slot_cmp slots_total exact_slot fs (facets w) sorted (facets_sorted w) (λ q. h q ∙ sym (find_facets w q))
