-- The facets of rows, by key in byte order and then by label, are those that the rows have.
use Rattle.std.proofs.Common.{◌≡◌, ℕ, Bool, true, false, cond, List, [], ◌∷◌, ◌++◌, T, Option, Some, None, map, refl, sym, ◌∙◌, ap}
use Rattle.std.specs.Prelude.{◌&&◌, ◌==◌, unwrap_or, nat_eq}
use Rattle.std.specs.List.{flat_map, last_or}
use Rattle.std.specs.Option.{option_or}
use Rattle.std.specs.Ordering.{eq_by_cmp, is_eq}
use Rattle.std.specs.Cmp.Lexicographic.{pointwise, texts_ties, bytes_decides}
use Rattle.std.specs.FinMap as finite
use Rattle.std.specs.FinMap.{put, find, is_sorted, get-entries, get-from_entries, get-empty, entries_sorted}
use Rattle.std.specs.FinMap.Entries.{find-put, same_entries, is_sorted-put, below_all}
use Rattle.facet_list.specs.Store.{Slot, slot_cmp, Write, Facet, facets, written_at, last_at}
use Rattle.facet_list.specs.Rows.{Row, Rows, key_cmp, rows_after, rows_from, rows_of, member, facet_at, facets_of, facets_in}
use Rattle.facet_list.proofs.PassedTests.{first, second, less}
use Rattle.facet_list.proofs.Slots.{slots_total, exact_slot}
use Rattle.facet_list.proofs.FacetLaws.{ties, facet_at-after, find_facets, facets_sorted}

picked : {A : Type 0} (p t : Bool) (v : A) (o r : Option A) → cond (p && t) (Some v) (cond p (option_or o r) r) ≡ cond p (option_or (cond t (Some v) o) r) r
picked true true v o r = refl
picked true false v o r = refl
picked false t v o r = refl

-- a facet is found among those of a row where its key is the row's
find_row : (key : List ℕ) (row : Row) (rest : List Facet) (q : Slot)
    → find slot_cmp q (facets_of (key, row) ++ rest) ≡ cond (pointwise nat_eq q.0 key) (option_or (member q.1 row) (find slot_cmp q rest)) (find slot_cmp q rest)
find_row key [] rest q = elim (pointwise nat_eq q.0 key) as (λ b. find slot_cmp q rest ≡ cond b (find slot_cmp q rest) (find slot_cmp q rest)) [ true ↦ refl | false ↦ refl ]
find_row key (m ∷ row) rest q = ap (λ b. cond b (Some m.1) (find slot_cmp q (facets_of (key, row) ++ rest))) (ties q key m.0)
    ∙ ap (cond (pointwise nat_eq q.0 key && (m.0 == q.1)) (Some m.1)) (find_row key row rest q)
    ∙ picked (pointwise nat_eq q.0 key) (m.0 == q.1) m.1 (member q.1 row) (find slot_cmp q rest)

find_below : (x : List ℕ) (es : List (List ℕ × Row)) → T (below_all key_cmp x es) → find key_cmp x es ≡ None
find_below x [] h = refl
find_below x (e ∷ es) h = ap (λ r. cond (is_eq r) (Some e.1) (find key_cmp x es)) (less _ (first _ _ h)) ∙ find_below x es (second _ _ h)

or_none : {A : Type 0} (o : Option A) → option_or o None ≡ o
or_none None = refl
or_none (Some v) = refl

find_rows : (es : List (List ℕ × Row)) → T (is_sorted key_cmp es) → (q : Slot) → find slot_cmp q (flat_map facets_of es) ≡ member q.1 (unwrap_or (find key_cmp q.0 es) [])
find_rows [] h q = refl
find_rows (e ∷ es) h q =
    let rest = find slot_cmp q (flat_map facets_of es) in
    find_row e.0 e.1 (flat_map facets_of es) q
    ∙ elim (pointwise nat_eq q.0 e.0) as (λ b. pointwise nat_eq q.0 e.0 ≡ b → cond b (option_or (member q.1 e.1) rest) rest ≡ member q.1 (unwrap_or (cond b (Some e.1) (find key_cmp q.0 es)) [])) [
      | true ↦ λ t. ap (option_or (member q.1 e.1)) (find_rows es (second _ _ h) q ∙ ap (λ o. member q.1 (unwrap_or o [])) (ap (λ k. find key_cmp k es) ((bytes_decides q.0 e.0).0 t) ∙ find_below e.0 es (first _ _ h)))
          ∙ or_none (member q.1 e.1)
      | false ↦ λ t. find_rows es (second _ _ h) q
    ] refl
    ∙ ap (λ b. member q.1 (unwrap_or (cond b (Some e.1) (find key_cmp q.0 es)) [])) (texts_ties q.0 e.0)

-- the facets of rows are those that the rows have
pub find_facets_in : (rows : Rows) (q : Slot) → find slot_cmp q (facets_in rows) ≡ facet_at rows q
find_facets_in rows q = sym (get-entries (finite.from_entries {R = slot_cmp} (flat_map facets_of (finite.entries rows))) q)
    ∙ get-from_entries slots_total (flat_map facets_of (finite.entries rows)) q
    ∙ find_rows (finite.entries rows) (entries_sorted rows) q
    ∙ ap (λ o. member q.1 (unwrap_or o [])) (sym (get-entries rows q.0))

-- they are in order
pub facets_in_sorted : (rows : Rows) → T (is_sorted slot_cmp (facets_in rows))
facets_in_sorted rows = entries_sorted (finite.from_entries {R = slot_cmp} (flat_map facets_of (finite.entries rows)))

-- a list in order that has the facets of the rows is the list of them
pub facets_in_unique : (rows : Rows) (fs : List Facet) → T (is_sorted slot_cmp fs) → ((q : Slot) → find slot_cmp q fs ≡ facet_at rows q) → fs ≡ facets_in rows
facets_in_unique rows fs sorted h = same_entries slot_cmp slots_total exact_slot fs (facets_in rows) sorted (facets_in_sorted rows) (λ q. h q ∙ sym (find_facets_in rows q))

-- the facets of the rows of writes are those of the writes
pub facets_in_of : (w : List Write) → facets_in (rows_of w) ≡ facets w
facets_in_of w = sym (facets_in_unique (rows_of w) (facets w) (facets_sorted w) (find_facets w))

-- a write puts its facet among those of the rows
pub facets_in_after : (rows : Rows) (x : Write) → facets_in (rows_after rows x) ≡ put slot_cmp (x.key, x.label) x.value (facets_in rows)
facets_in_after rows x = sym (facets_in_unique (rows_after rows x) _ (is_sorted-put slot_cmp slots_total (x.key, x.label) x.value (facets_in rows) (facets_in_sorted rows))
    (λ q. find-put slot_cmp slots_total q (x.key, x.label) x.value (facets_in rows)
    ∙ ap (cond (eq_by_cmp slot_cmp q (x.key, x.label)) (Some x.value)) (find_facets_in rows q) ∙ sym (facet_at-after rows x q)))

last_more : (b : Bool) (v : Option (List ℕ)) (o : Option (Option (List ℕ))) (w : List Write) (x : Write) → v ≡ x.value
    → last_or (cond b (Some v) o) (map (λ (y : Write). y.value) w) ≡ last_or o (map (λ (y : Write). y.value) (cond b (x ∷ w) w))
last_more true v o w x e = ap (λ u. last_or (Some u) (map (λ (y : Write). y.value) w)) e
last_more false v o w x e = refl

last_from : (w : List Write) (rows : Rows) (s : Slot) → facet_at (rows_from rows w) s ≡ last_or (facet_at rows s) (map (λ (y : Write). y.value) (written_at s w))
last_from [] rows s = refl
last_from (x ∷ w) rows s = last_from w (rows_after rows x) s
    ∙ ap (λ o. last_or o (map (λ (y : Write). y.value) (written_at s w))) (facet_at-after rows x s ∙ ap (λ b. cond b (Some x.value) (facet_at rows s)) (ties s x.key x.label))
    ∙ last_more (pointwise nat_eq s.0 x.key && (x.label == s.1)) x.value (facet_at rows s) (written_at s w) x refl

-- the facet at a key and a label is the last write there
pub last_of : (w : List Write) (s : Slot) → facet_at (rows_of w) s ≡ last_at s w
last_of w s = last_from w finite.empty s ∙ ap (λ o. last_or (member s.1 (unwrap_or o [])) (map (λ (y : Write). y.value) (written_at s w))) (get-empty key_cmp s.0)
