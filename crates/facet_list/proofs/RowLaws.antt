-- What is read of a row is what is read of the writes.
use Rattle.std.proofs.Common.{◌≡◌, ℕ, ◌+◌, ◌<◌, Bool, true, false, cond, List, [], ◌∷◌, ◌++◌, Option, Some, None, eqb, length, get_or, take, map, refl, sym, ◌∙◌, ap}
use Rattle.std.specs.Prelude.{filter, not, ◌&&◌, ◌==◌, if◌then◌else◌, unwrap_or, nat_eq}
use Rattle.std.specs.Ordering.{eq_by_cmp}
use Rattle.std.specs.Cmp.Lexicographic.{nat_list_cmp_total, pointwise, texts_ties, bytes_decides}
use Rattle.std.specs.FinMap as finite
use Rattle.std.specs.FinMap.{get-insert, get-empty}
use Rattle.std.proofs.lemmas.Bool.Decides.{Decides-eqb}
use Rattle.std.proofs.lemmas.List.{take_more, map-append, append-nil}
use Rattle.std.proofs.lemmas.List.Elements.{filter-append}
use Rattle.facet_list.specs.Store.{Write, last_value, readable, read}
use Rattle.facet_list.specs.Rows.{Row, Rows, Member, key_cmp, row_of, row_after, rows_after, rows_from, rows_of, read_row}

pub rows_from-push : (rows : Rows) (w : List Write) (x : Write) → rows_from rows (w ++ x ∷ []) ≡ rows_after (rows_from rows w) x
rows_from-push rows [] x = refl
rows_from-push rows (y ∷ w) x = rows_from-push (rows_after rows y) w x

pub rows_of-push : (w : List Write) (x : Write) → rows_of (w ++ x ∷ []) ≡ rows_after (rows_of w) x
rows_of-push w x = rows_from-push finite.empty w x

last_value-push : (found : Option (List ℕ)) (vs : List (Option (List ℕ))) (v : Option (List ℕ)) → last_value found (vs ++ v ∷ []) ≡ v
last_value-push found [] v = refl
last_value-push found (u ∷ vs) v = last_value-push u vs v

-- the last value of those that pass, after one more
pub kept-push : {A : Type 0} (p : A → Bool) (value : A → Option (List ℕ)) (found : Option (List ℕ)) (xs : List A) (x : A)
    → last_value found (map value (filter p (xs ++ x ∷ []))) ≡ (if p x then value x else last_value found (map value (filter p xs)))
kept-push p value found xs x = ap (λ ys. last_value found (map value ys)) (filter-append p xs (x ∷ []))
    ∙ elim (p x) as (λ b. last_value found (map value (filter p xs ++ cond b (x ∷ []) [])) ≡ cond b (value x) (last_value found (map value (filter p xs)))) [
      | true ↦ ap (last_value found) (map-append value (filter p xs) (x ∷ [])) ∙ last_value-push found (map value (filter p xs)) (value x)
      | false ↦ ap (λ ys. last_value found (map value ys)) (append-nil (filter p xs))
    ]

pub read-push : (flows : ℕ → ℕ → Bool) (c : ℕ) (key : List ℕ) (w : List Write) (x : Write)
    → read flows c key (w ++ x ∷ []) ≡ (if pointwise nat_eq key x.key && flows x.label c then x.value else read flows c key w)
read-push flows c key w x = kept-push (λ (y : Write). pointwise nat_eq key y.key && flows y.label c) (λ (y : Write). y.value) None w x

-- members that are not seen may go
without : (flows : ℕ → ℕ → Bool) (c l : ℕ) → flows l c ≡ false → (row : Row)
    → filter (λ (m : Member). flows m.0 c) (filter (λ (m : Member). not (m.0 == l)) row) ≡ filter (λ (m : Member). flows m.0 c) row
without flows c l hidden [] = refl
without flows c l hidden (m ∷ row) =
    elim (eqb m.0 l) as (λ t. eqb m.0 l ≡ t → filter (λ (m : Member). flows m.0 c) (cond (not t) (m ∷ filter (λ (m : Member). not (m.0 == l)) row) (filter (λ (m : Member). not (m.0 == l)) row)) ≡ cond (flows m.0 c) (m ∷ filter (λ (m : Member). flows m.0 c) row) (filter (λ (m : Member). flows m.0 c) row)) [
      | true ↦ λ e. without flows c l hidden row ∙ ap (λ b. cond b (m ∷ filter (λ (m : Member). flows m.0 c) row) (filter (λ (m : Member). flows m.0 c) row)) (sym (ap (λ k. flows k c) ((Decides-eqb m.0 l).0 e) ∙ hidden))
      | false ↦ λ e. ap (λ ys. cond (flows m.0 c) (m ∷ ys) ys) (without flows c l hidden row)
    ] refl

-- what is read after one more member
pub read_row_after : (flows : ℕ → ℕ → Bool) (c l : ℕ) (v : Option (List ℕ)) (row : Row) → read_row flows c (row_after l v row) ≡ (if flows l c then v else read_row flows c row)
read_row_after flows c l v row = kept-push (λ (m : Member). flows m.0 c) (λ (m : Member). m.1) None (filter (λ (m : Member). not (m.0 == l)) row) (l, v)
    ∙ elim (flows l c) as (λ b. flows l c ≡ b → cond b v (read_row flows c (filter (λ (m : Member). not (m.0 == l)) row)) ≡ cond b v (read_row flows c row)) [
      | true ↦ λ e. refl
      | false ↦ λ e. ap (λ ms. last_value None (map (λ (m : Member). m.1) ms)) (without flows c l e row)
    ] refl

taken : {A : Type 0} (t : Bool) (r d : A) (o : Option A) → unwrap_or (cond t (Some r) o) d ≡ cond t r (unwrap_or o d)
taken true r d o = refl
taken false r d o = refl

pub row_of-after : (rows : Rows) (x : Write) (key : List ℕ) → row_of (rows_after rows x) key ≡ (if pointwise nat_eq key x.key then row_after x.label x.value (row_of rows x.key) else row_of rows key)
row_of-after rows x key =
    let put = row_after x.label x.value (row_of rows x.key) in
    ap (λ o. unwrap_or o []) (get-insert nat_list_cmp_total rows x.key put key) ∙ taken (eq_by_cmp key_cmp key x.key) put [] (finite.get rows key)
    ∙ ap (λ t. cond t put (row_of rows key)) (sym (texts_ties key x.key))

-- one more write changes what is read where it has the key and is seen
pub read_after : (flows : ℕ → ℕ → Bool) (c : ℕ) (key : List ℕ) (rows : Rows) (x : Write)
    → read_row flows c (row_of (rows_after rows x) key) ≡ (if pointwise nat_eq key x.key && flows x.label c then x.value else read_row flows c (row_of rows key))
read_after flows c key rows x = ap (read_row flows c) (row_of-after rows x key)
    ∙ elim (pointwise nat_eq key x.key) as (λ t. pointwise nat_eq key x.key ≡ t → read_row flows c (cond t (row_after x.label x.value (row_of rows x.key)) (row_of rows key)) ≡ cond (t && flows x.label c) x.value (read_row flows c (row_of rows key))) [
      | true ↦ λ e. read_row_after flows c x.label x.value (row_of rows x.key) ∙ ap (λ k. cond (flows x.label c) x.value (read_row flows c (row_of rows k))) (sym ((bytes_decides key x.key).0 e))
      | false ↦ λ e. refl
    ] refl

skipped_value : (b : Bool) (found : Option (List ℕ)) (x : Write) (xs : List Write)
    → last_value (cond b x.value found) (map (λ (y : Write). y.value) xs) ≡ last_value found (map (λ (y : Write). y.value) (cond b (x ∷ xs) xs))
skipped_value true found x xs = refl
skipped_value false found x xs = refl

read_from : (flows : ℕ → ℕ → Bool) (c : ℕ) (key : List ℕ) (w : List Write) (rows : Rows)
    → read_row flows c (row_of (rows_from rows w) key) ≡ last_value (read_row flows c (row_of rows key)) (map (λ (y : Write). y.value) (readable flows c key w))
read_from flows c key [] rows = refl
read_from flows c key (x ∷ w) rows = read_from flows c key w (rows_after rows x)
    ∙ ap (λ f. last_value f (map (λ (y : Write). y.value) (readable flows c key w))) (read_after flows c key rows x)
    ∙ skipped_value (pointwise nat_eq key x.key && flows x.label c) (read_row flows c (row_of rows key)) x (readable flows c key w)

-- the row tells what the writes tell
pub read_rows_of : (flows : ℕ → ℕ → Bool) (c : ℕ) (key : List ℕ) (w : List Write) → read_row flows c (row_of (rows_of w) key) ≡ read flows c key w
read_rows_of flows c key w = read_from flows c key w finite.empty ∙ ap (λ o. last_value (read_row flows c (unwrap_or o [])) (map (λ (y : Write). y.value) (readable flows c key w))) (get-empty key_cmp key)

-- the reading of one more write of the list
pub read_more : (flows : ℕ → ℕ → Bool) (c : ℕ) (key : List ℕ) (ws : List Write) (i : ℕ) (x : Write) (b : Bool) → i < length ws → x ≡ get_or ws i x → b ≡ (pointwise nat_eq key x.key && flows x.label c)
    → read flows c key (take (i + 1) ws) ≡ (if b then x.value else read flows c key (take i ws))
read_more flows c key ws i x b lt is tells =
    ap (read flows c key) (take_more ws i x lt) ∙ ap (λ y. read flows c key (take i ws ++ y ∷ [])) (sym is)
    ∙ read-push flows c key (take i ws) x
    ∙ ap (λ b. cond b x.value (read flows c key (take i ws))) (sym tells)

-- the first writes and one more
pub more : (ws : List Write) (i : ℕ) (x : Write) → i < length ws → x ≡ get_or ws i x → take (i + 1) ws ≡ take i ws ++ x ∷ []
more ws i x lt is = take_more ws i x lt ∙ ap (λ y. take i ws ++ y ∷ []) (sym is)
