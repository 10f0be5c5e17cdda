-- The rows of an ordered map: looked up, set, inserted, and the next one.
use Rattle.std.proofs.Common.{◌≡◌, ℕ, Bool, true, false, cond, List, [], ◌∷◌, T, Option, Some, None, map, refl, sym, ◌∙◌, ap, subst, Vec, Global}
use Rattle.std.specs.Prelude.{◌&&◌, filter, option_map, slice_get, unwrap_or}
use Rattle.std.specs.Borrow.{Bor}
use Rattle.std.specs.Map.Iter.{deref_pair}
use Rattle.std.specs.BTreeMap.Range.{entries_between}
use Rattle.std.specs.declared.ops.Bound.TheVariants.{Excluded, Unbounded}
use Rattle.std.specs.List.{AllByRecursion}
use Rattle.std.specs.List.Sorted.{IsStrictlySortedBy}
use Rattle.std.specs.declared.cmp.Ordering.{Ordering}
use Rattle.std.specs.declared.cmp.Ordering.TheVariants.{Less, Equal, Greater}
use Rattle.std.specs.Ordering.{nat_cmp, eq_by_cmp, is_eq, is_lt, match_ordering}
use Rattle.std.specs.Cmp.{tied_itself}
use Rattle.std.specs.Cmp.Lexicographic.{nat_list_cmp_total, slice_cmp}
use Rattle.std.specs.BTreeMap.{insert_entry}
use Rattle.std.specs.Map.{lookup, set_value, keys_of}
use Rattle.std.specs.FinMap as finite
use Rattle.std.specs.FinMap.{find, put, is_sorted, get-insert, get-from_entries, same_map}
use Rattle.std.specs.FinMap.Entries.{find-put, by_order, below_all}
use Rattle.std.proofs.lemmas.Map.Lookups.{exact_bytes}
use Rattle.facet_list.specs.Rows.{Row, key_cmp, row_of, member, facet_at}
use Rattle.facet_list.proofs.PassedTests.{first, second, both, less}
use Rattle.facet_rows.specs.Rows.{Entry, keyed, entry_rows, row_lent, is_past, IsNextRow}

-- the test of a query, and the order of the keys
abbrev pub finds : List ℕ → Vec ℕ Global → Bool
finds key k = is_eq (slice_cmp nat_cmp key k.items)

abbrev pub vec_cmp : Vec ℕ Global → Vec ℕ Global → Ordering
vec_cmp a b = slice_cmp nat_cmp a.items b.items

keyed_insert : (es : List Entry) (k : Vec ℕ Global) (v : Row) → map keyed (insert_entry vec_cmp es k v) ≡ put key_cmp k.items v (map keyed es)
keyed_insert [] k v = refl
keyed_insert (e ∷ es) k v =
    elim (slice_cmp nat_cmp k.items e.0.items) as (λ r. map keyed (match_ordering r ((k, v) ∷ e ∷ es) ((e.0, v) ∷ es) (e ∷ insert_entry vec_cmp es k v)) ≡ by_order r ((k.items, v) ∷ keyed e ∷ map keyed es) ((e.0.items, v) ∷ map keyed es) (keyed e ∷ put key_cmp k.items v (map keyed es))) [
      | Less ↦ refl
      | Equal ↦ refl
      | Greater ↦ ap (λ xs. keyed e ∷ xs) (keyed_insert es k v)
    ]

pub rows_insert : (es : List Entry) (k : Vec ℕ Global) (v : Row) → entry_rows (insert_entry vec_cmp es k v) ≡ finite.insert (entry_rows es) k.items v
rows_insert es k v = same_map nat_list_cmp_total exact_bytes _ _ (λ q.
    get-from_entries nat_list_cmp_total (map keyed (insert_entry vec_cmp es k v)) q
    ∙ ap (find key_cmp q) (keyed_insert es k v) ∙ find-put key_cmp nat_list_cmp_total q k.items v (map keyed es)
    ∙ sym (get-insert nat_list_cmp_total (entry_rows es) k.items v q ∙ ap (cond (eq_by_cmp key_cmp q k.items) (Some v)) (get-from_entries nat_list_cmp_total (map keyed es) q)))

found : (es : List Entry) (key : List ℕ) → find key_cmp key (map keyed es) ≡ lookup (finds key) es
found [] key = refl
found (e ∷ es) key = ap (cond (finds key e.0) (Some e.1)) (found es key)

pub get_rows_in : (es : List Entry) (key : List ℕ) → finite.get (entry_rows es) key ≡ lookup (finds key) es
get_rows_in es key = get-from_entries nat_list_cmp_total (map keyed es) key ∙ found es key

pub row_found : (es : List Entry) (key : List ℕ) (o : Option Row) → lookup (finds key) es ≡ o → row_of (entry_rows es) key ≡ unwrap_or o []
row_found es key o h = ap (λ x. unwrap_or x []) (get_rows_in es key ∙ h)

equal : (r : Ordering) → is_eq r ≡ true → r ≡ Equal
equal Less h = cc
equal Equal h = refl
equal Greater h = cc

same_key : (a b : List ℕ) → eq_by_cmp key_cmp a b ≡ true → a ≡ b
same_key a b e = exact_bytes a b (equal (slice_cmp nat_cmp a b) e)

shadow : {A : Type 0} (b : Bool) (x y z : A) → cond b x z ≡ cond b x (cond b y z)
shadow true x y z = refl
shadow false x y z = refl

turned : {A : Type 0} (s t : Bool) (x y z : A) → (s ≡ true → t ≡ true → x ≡ y) → cond s x (cond t y z) ≡ cond t y (cond s x z)
turned true true x y z h = h refl refl
turned true false x y z h = refl
turned false t x y z h = refl

find_set : (es : List Entry) (key q : List ℕ) (r w : Row) → lookup (finds key) es ≡ Some r → find key_cmp q (map keyed (set_value (finds key) es w)) ≡ cond (eq_by_cmp key_cmp q key) (Some w) (find key_cmp q (map keyed es))
find_set [] key q r w h = cc
find_set (e ∷ es) key q r w h =
    elim (finds key e.0) as (λ b. finds key e.0 ≡ b → cond b (Some e.1) (lookup (finds key) es) ≡ Some r
    → find key_cmp q (map keyed (cond b ((e.0, w) ∷ es) (e ∷ set_value (finds key) es w))) ≡ cond (eq_by_cmp key_cmp q key) (Some w) (cond (eq_by_cmp key_cmp q e.0.items) (Some e.1) (find key_cmp q (map keyed es)))) [
      | true ↦ λ t is. let same = same_key key e.0.items t in
          shadow (eq_by_cmp key_cmp q e.0.items) (Some w) (Some e.1) (find key_cmp q (map keyed es))
          ∙ ap (λ k. cond (eq_by_cmp key_cmp q k) (Some w) (cond (eq_by_cmp key_cmp q e.0.items) (Some e.1) (find key_cmp q (map keyed es)))) (sym same)
      | false ↦ λ t is. ap (cond (eq_by_cmp key_cmp q e.0.items) (Some e.1)) (find_set es key q r w is)
          ∙ turned (eq_by_cmp key_cmp q e.0.items) (eq_by_cmp key_cmp q key) (Some e.1) (Some w) (find key_cmp q (map keyed es))
          (λ a b. let here : finds key e.0 ≡ true = ap (λ k. eq_by_cmp key_cmp k e.0.items) (sym (same_key q key b)) ∙ a in cc)
    ] refl h

pub rows_set : (es : List Entry) (key : List ℕ) (r w : Row) → lookup (finds key) es ≡ Some r → entry_rows (set_value (finds key) es w) ≡ finite.insert (entry_rows es) key w
rows_set es key r w h = same_map nat_list_cmp_total exact_bytes _ _ (λ q.
    get-from_entries nat_list_cmp_total (map keyed (set_value (finds key) es w)) q ∙ find_set es key q r w h
    ∙ sym (get-insert nat_list_cmp_total (entry_rows es) key w q ∙ ap (cond (eq_by_cmp key_cmp q key) (Some w)) (get-from_entries nat_list_cmp_total (map keyed es) q)))

below_keys : (k : Vec ℕ Global) (es : List Entry) → AllByRecursion (λ y. vec_cmp k y ≡ Less) (keys_of es) → T (below_all key_cmp k.items (map keyed es))
below_keys k [] h = tt
below_keys k (e ∷ es) h = both _ _ (subst (λ r. T (is_lt r)) (sym h.0) tt) (below_keys k es h.1)

-- the keys of a map ascend
pub sorted_keys : (es : List Entry) → IsStrictlySortedBy vec_cmp (keys_of es) → T (is_sorted key_cmp (map keyed es))
unfolding IsStrictlySortedBy
sorted_keys [] h = tt
sorted_keys (e ∷ es) h = both _ _ (below_keys e.0 es h.0) (sorted_keys es h.1)

find_below : (q : List ℕ) (es : List (List ℕ × Row)) → T (below_all key_cmp q es) → find key_cmp q es ≡ None
find_below q [] h = refl
find_below q (e ∷ es) h = ap (λ r. cond (is_eq r) (Some e.1) (find key_cmp q es)) (less _ (first _ _ h)) ∙ find_below q es (second _ _ h)

below_later : (q x : List ℕ) (es : List (List ℕ × Row)) → key_cmp q x ≡ Less → T (below_all key_cmp x es) → T (below_all key_cmp q es)
below_later q x [] l h = tt
below_later q x (e ∷ es) l h = both _ _ (subst (λ r. T (is_lt r)) (sym (nat_list_cmp_total.trans q x e.0 l (less _ (first _ _ h)))) tt) (below_later q x es l (second _ _ h))

-- the first of the entries past a key is the next row
abbrev NextOf : List (List ℕ × Row) → Option (List ℕ) → Option (List ℕ × Row) → Type 0
NextOf es after None = (key : List ℕ) → is_past after key ≡ true → find key_cmp key es ≡ None
NextOf es after (Some e) = (is_past after e.0 ≡ true) × (find key_cmp e.0 es ≡ Some e.1)
    × ((key : List ℕ) → is_past after key ≡ true → key_cmp key e.0 ≡ Less → find key_cmp key es ≡ None)

passed : (e : List ℕ × Row) (es : List (List ℕ × Row)) (after : Option (List ℕ)) (key : List ℕ) → is_past after e.0 ≡ false → is_past after key ≡ true → find key_cmp key (e ∷ es) ≡ find key_cmp key es
passed e es after key p q = elim (eq_by_cmp key_cmp key e.0) as (λ b. eq_by_cmp key_cmp key e.0 ≡ b → cond b (Some e.1) (find key_cmp key es) ≡ find key_cmp key es) [
  | true ↦ λ t. (let same = ap (is_past after) (same_key key e.0 t) in cc)
  | false ↦ λ t. refl
] refl

later : (e : List ℕ × Row) (es : List (List ℕ × Row)) (after : Option (List ℕ)) (o : Option (List ℕ × Row)) → is_past after e.0 ≡ false → NextOf es after o → NextOf (e ∷ es) after o
later e es after None p h = λ key q. passed e es after key p q ∙ h key q
later e es after (Some f) p h = (h.0, passed e es after f.0 p h.0 ∙ h.1, λ key q l. passed e es after key p q ∙ h.2 key q l)

next_of : (es : List (List ℕ × Row)) (after : Option (List ℕ)) → T (is_sorted key_cmp es) → NextOf es after (slice_get (filter (λ e. is_past after e.0) es) 0)
next_of [] after h = λ key p. refl
next_of (e ∷ es) after h =
    let rest = filter (λ (f : List ℕ × Row). is_past after f.0) es in
    elim (is_past after e.0) as (λ b. is_past after e.0 ≡ b → NextOf (e ∷ es) after (slice_get (cond b (e ∷ rest) rest) 0)) [
      | true ↦ λ p. (
        p,
        ap (λ r. cond (is_eq r) (Some e.1) (find key_cmp e.0 es)) (itself e.0),
        λ key q l. ap (λ r. cond (is_eq r) (Some e.1) (find key_cmp key es)) l ∙ find_below key es (below_later key e.0 es l (first _ _ h)),
      )
      | false ↦ λ p. later e es after (slice_get rest 0) p (next_of es after (second _ _ h))
    ] refl
  where
    itself : (k : List ℕ) → key_cmp k k ≡ Equal
    itself k = tied_itself nat_list_cmp_total k

in_map : (es : List Entry) (after : Option (List ℕ)) (o : Option (List ℕ × Row)) → NextOf (map keyed es) after o → IsNextRow (entry_rows es) after o
in_map es after None h = λ key p. get-from_entries nat_list_cmp_total (map keyed es) key ∙ h key p
in_map es after (Some e) h = (h.0, get-from_entries nat_list_cmp_total (map keyed es) e.0 ∙ h.1, λ key p l. get-from_entries nat_list_cmp_total (map keyed es) key ∙ h.2 key p l)

pub next_in : (es : List Entry) (after : Option (List ℕ)) (o : Option (List ℕ × Row)) → IsStrictlySortedBy vec_cmp (keys_of es) → o ≡ slice_get (filter (λ e. is_past after e.0) (map keyed es)) 0 → IsNextRow (entry_rows es) after o
next_in es after o sorted is = subst (IsNextRow (entry_rows es) after) (sym is) (in_map es after _ (next_of (map keyed es) after (sorted_keys es sorted)))

-- the facet of a key that has a row, and of one that has none
pub facet_found : (es : List Entry) (key : List ℕ) (l : ℕ) (row : Row) → lookup (finds key) es ≡ Some row → facet_at (entry_rows es) (key, l) ≡ member l row
facet_found es key l row h = ap (member l) (row_found es key (Some row) h)

pub facet_missing : (es : List Entry) (key : List ℕ) (l : ℕ) → lookup (finds key) es ≡ None → facet_at (entry_rows es) (key, l) ≡ None
facet_missing es key l h = ap (member l) (row_found es key None h)

pub lent_keyed : (o : Option (Bor (Vec ℕ Global) × Bor Row)) → option_map row_lent o ≡ option_map keyed (option_map deref_pair o)
lent_keyed None = refl
lent_keyed (Some p) = refl

pub keyed_first : (es : List Entry) → option_map keyed (slice_get es 0) ≡ slice_get (map keyed es) 0
keyed_first [] = refl
keyed_first (e ∷ es) = refl

pub all_past : (es : List (List ℕ × Row)) → filter (λ e. is_past None e.0) es ≡ es
all_past [] = refl
all_past (e ∷ es) = ap (λ xs. e ∷ xs) (all_past es)

pub between_past : (a : Vec ℕ Global) (es : List Entry) → map keyed (entries_between vec_cmp (Excluded a) Unbounded es) ≡ filter (λ e. is_past (Some a.items) e.0) (map keyed es)
between_past a [] = refl
between_past a (e ∷ es) =
    let rest = entries_between vec_cmp (Excluded a) Unbounded es in
    elim (is_lt (vec_cmp a e.0)) as (λ b. map keyed (cond (b && true) (e ∷ rest) rest) ≡ cond b (keyed e ∷ filter (λ e. is_past (Some a.items) e.0) (map keyed es)) (filter (λ e. is_past (Some a.items) e.0) (map keyed es))) [
      | true ↦ ap (λ xs. keyed e ∷ xs) (between_past a es)
      | false ↦ between_past a es
    ]
