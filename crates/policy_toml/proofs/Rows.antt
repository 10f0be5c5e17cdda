-- Rows read one by one, and the document of a text.
use Rattle.std.proofs.Common.{◌≡◌, ◌≢◌, ℕ, zero, suc, ◌+◌, ◌<◌, ◌≤◌, cond, List, [], ◌∷◌, ◌++◌, Some, None, Ok, Err, length, map, get_or, String, Global, string_bytes, nat_cmp, nat_eq, Less, refl, sym, ◌∙◌, ap, subst, append_assoc, true, false, arith}
use Rattle.std.proofs.lemmas.List.{append-nil, length-append}
use Rattle.std.proofs.lemmas.List.Elements.{All-append}
use Rattle.std.proofs.lemmas.Bool.{le-leb, lt-leb}
use Rattle.std.proofs.lemmas.Str.{IsUtf8-from_is_utf8, is_utf8-from_IsUtf8}
use Rattle.std.specs.Prelude.{ok_or, Result, All, if◌then◌else◌}
use Rattle.std.specs.Cmp.Lexicographic.{pointwise, slice_cmp}
use Rattle.std.specs.List.{AllByRecursion}
use Rattle.std.specs.List.Sorted.{IsStrictlySortedBy}
use Rattle.std.specs.Map.{keys_of, lookup}
use Rattle.std.specs.Str.{IsUtf8, is_utf8}
use Rattle.std.specs.String.{string_cmp}
use Rattle.toml.specs.Parse.{parse_document}
use Rattle.toml.specs.Data.{Data, Members, no_members, member}
use Rattle.toml.specs.View.{view, items_view, members_view}
use Rattle.toml.specs.declared.value.Value.{Value}
use Rattle.toml.proofs.Views.{Entry}
use Rattle.label_lattice.specs.declared.label.Label.{Label}
use Rattle.label_lattice.proofs.BinarySearch.{apart_from}
use Rattle.policy_toml.specs.declared.place.Part.{Part}
use Rattle.policy_toml.specs.declared.error.PolicyError.{PolicyError}
use Rattle.policy_toml.specs.declared.error.PolicyError.TheVariants.{Toml, OutOfRange}
use Rattle.trapeze_io.specs.Names.{Ascend}
use Rattle.policy_toml.specs.Places.{whole}
use Rattle.trapeze_io.specs.Answers.{◌>>=◌}
use Rattle.policy_toml.specs.Rows.{each_row, members_of, at_most}
use Rattle.policy_toml.specs.Document.{document_of}
use Rattle.policy_toml.specs.Labels.{two_texts}

-- what was found, and then what the rest reads as
abbrev pub after : {Y : Type 0} → List Y → Result (List Y) PolicyError → Result (List Y) PolicyError
after found rest = rest >>= (λ ys. Ok (found ++ ys))

-- the rows so far gave what was found, and those left are still to be read
pub record SoFar {X Y : Type 0} (read : ℕ → X → Result Y PolicyError) (all left : List X) (found : List Y) : Type 0 where
  pub so_far : each_row read 1 all ≡ after found (each_row read (length found + 1) left)

pub SoFar-none : {X Y : Type 0} (read : ℕ → X → Result Y PolicyError) (all : List X) → SoFar read all all []
SoFar-none read all = record { so_far = elim (each_row read 1 all) as (λ r. r ≡ after [] r) [ Ok ys ↦ refl | Err e ↦ refl ] }

pub SoFar-begin : {X Y : Type 0} (read : ℕ → X → Result Y PolicyError) (all left : List X) (found : List Y) → left ≡ all → found ≡ [] → SoFar read all left found
SoFar-begin read all left found same none = rw (same, none) (SoFar-none read all)

after-cons : {Y : Type 0} (found : List Y) (y : Y) (rest : Result (List Y) PolicyError) → after found (rest >>= (λ ys. Ok (y ∷ ys))) ≡ after (found ++ y ∷ []) rest
after-cons found y (Ok ys) = ap Ok (sym (append_assoc found (y ∷ []) ys))
after-cons found y (Err e) = refl

-- one more row
pub SoFar-more : {X Y : Type 0} (read : ℕ → X → Result Y PolicyError) (all : List X) (x : X) (left : List X) (found : List Y) (y : Y)
    → SoFar read all (x ∷ left) found → read (length found + 1) x ≡ Ok y → SoFar read all left (found ++ y ∷ [])
SoFar-more read all x left found y so is = record {
  so_far = so.so_far
      ∙ ap (λ r. after found (r >>= (λ y. each_row read (length found + 1 + 1) left >>= (λ ys. Ok (y ∷ ys))))) is
      ∙ after-cons found y (each_row read (length found + 1 + 1) left)
      ∙ ap (λ n. after (found ++ y ∷ []) (each_row read n left)) (simp length-append (omega arith));
}

-- the next row has a fault
pub SoFar-stops : {X Y : Type 0} (read : ℕ → X → Result Y PolicyError) (all : List X) (x : X) (left : List X) (found : List Y) (fault : PolicyError)
    → SoFar read all (x ∷ left) found → read (length found + 1) x ≡ Err fault → each_row read 1 all ≡ Err fault
SoFar-stops read all x left found fault so is =
    so.so_far ∙ ap (λ r. after found (r >>= (λ y. each_row read (length found + 1 + 1) left >>= (λ ys. Ok (y ∷ ys))))) is

-- no row is left
pub SoFar-done : {X Y : Type 0} (read : ℕ → X → Result Y PolicyError) (all : List X) (found : List Y) → SoFar read all [] found → each_row read 1 all ≡ Ok found
SoFar-done read all found so = so.so_far ∙ ap Ok (append-nil found)

pub document_of_text : (bytes : List ℕ) → IsUtf8 bytes → document_of bytes ≡ ok_or (parse_document bytes) Toml
document_of_text bytes text = ap (λ b. if b then ok_or (parse_document bytes) Toml else Err Toml) (is_utf8-from_IsUtf8 bytes text)

pub document_of_none : (bytes : List ℕ) → ¬ IsUtf8 bytes → document_of bytes ≡ Err Toml
document_of_none bytes none =
    elim (is_utf8 bytes) as (λ b. is_utf8 bytes ≡ b → (if b then ok_or (parse_document bytes) Toml else Err Toml) ≡ Err Toml) [ true ↦ λ e. absurd (none (IsUtf8-from_is_utf8 bytes e)) | false ↦ λ e. refl ] refl

-- an array of another length
pub not_two : (values : List Value) → length values ≢ 2 → two_texts (items_view values) ≡ None
not_two [] n = refl
not_two (a ∷ []) n = refl
not_two (a ∷ b ∷ []) n = absurd (n refl)
not_two (a ∷ b ∷ c ∷ values) n = refl

-- the parts of a reading that gave a value
record Parts {X Y : Type 0} (first : Result X PolicyError) (next : X → Result Y PolicyError) (y : Y) : Type 0 where
  pub value : X
  pub gave : first ≡ Ok value
  pub onward : next value ≡ Ok y

parts_of : {X Y : Type 0} (first : Result X PolicyError) (next : X → Result Y PolicyError) (y : Y) → first >>= next ≡ Ok y → Parts first next y
parts_of (Ok x) next y is = record { value = x; gave = refl; onward = is }
parts_of (Err e) next y is = absurd (cc)

-- as many values as rows
pub each_row-length : {X Y : Type 0} (read : ℕ → X → Result Y PolicyError) (row : ℕ) (rows : List X) (ys : List Y) → each_row read row rows ≡ Ok ys → length ys ≡ length rows
each_row-length read row [] ys is = let none : [] ≡ ys = cc in ap length (sym none)
each_row-length {X} {Y} read row (x ∷ rows) ys is =
    let here = parts_of (read row x) (λ y. each_row read (row + 1) rows >>= (λ zs. Ok (y ∷ zs))) ys is in
    let rest = parts_of (each_row read (row + 1) rows) (λ zs. Ok (here.value ∷ zs)) ys here.onward in
    let same : here.value ∷ rest.value ≡ ys = let t = rest.onward in cc in
    ap length (sym same) ∙ ap suc (each_row-length read (row + 1) rows rest.value rest.gave)

-- the keys of a table
abbrev pub keys_in : Members → List (List ℕ)
keys_in no_members = []
keys_in (member key d others) = key ∷ keys_in others

-- the keys of a map ascend
below_rest : (k : List ℕ) (es : List Entry) → AllByRecursion (λ y. slice_cmp nat_cmp k (string_bytes y) ≡ Less) (keys_of es) → AllByRecursion (λ y. slice_cmp nat_cmp k y ≡ Less) (keys_in (members_view es))
below_rest k [] h = h
below_rest k (e ∷ es) h = (h.0, below_rest k es h.1)

pub keys_ascend : (es : List Entry) → IsStrictlySortedBy string_cmp (keys_of es) → Ascend (keys_in (members_view es))
unfolding IsStrictlySortedBy
keys_ascend [] h = h
keys_ascend (e ∷ es) h = (below_rest (string_bytes e.0) es h.0, keys_ascend es h.1)

-- the values found and the rows left have the keys of the whole table, which ascend, and P holds of each value found
pub record Named {Y : Type 0} (key : Y → List ℕ) (P : Y → Type 0) (found : List Y) (left all : Members) : Type 0 where
  pub names : map key found ++ keys_in left ≡ keys_in all
  pub ascend : Ascend (keys_in all)
  pub each : All P found

one_more_name : {Y : Type 0} (key : Y → List ℕ) (found : List Y) (y : Y) (name : List ℕ) (left : List (List ℕ)) → key y ≡ name → map key (found ++ y ∷ []) ++ left ≡ map key found ++ name ∷ left
one_more_name key [] y name left is = ap (λ n. n ∷ left) is
one_more_name key (f ∷ found) y name left is = ap (λ ns. key f ∷ ns) (one_more_name key found y name left is)

all_one : {Y : Type 0} (P : Y → Type 0) (y : Y) → P y → All P (y ∷ [])
all_one P y here zero d below = here
all_one P y here (suc k) d below = absurd (omega arith)

pub all_more : {Y : Type 0} (P : Y → Type 0) (found : List Y) (y : Y) → All P found → P y → All P (found ++ y ∷ [])
all_more P found y each here = All-append P found (y ∷ []) each (all_one P y here)

pub all_none : {Y : Type 0} (P : Y → Type 0) → All P []
all_none P k d below = absurd (omega arith)

pub Named-none : {Y : Type 0} (key : Y → List ℕ) (P : Y → Type 0) (es : List Entry) → IsStrictlySortedBy string_cmp (keys_of es) → Named key P [] (members_view es) (members_view es)
Named-none key P es sorted = record { names = refl; ascend = keys_ascend es sorted; each = all_none P }

pub Named-begin : {Y : Type 0} (key : Y → List ℕ) (P : Y → Type 0) (es left : List Entry) (found : List Y) → left ≡ es → found ≡ [] → IsStrictlySortedBy string_cmp (keys_of es) → Named key P found (members_view left) (members_view es)
Named-begin key P es left found same none sorted = rw (same, none) (Named-none key P es sorted)

pub Named-more : {Y : Type 0} (key : Y → List ℕ) (P : Y → Type 0) (found : List Y) (y : Y) (name : List ℕ) (d : Data) (left all : Members)
    → Named key P found (member name d left) all → key y ≡ name → P y → Named key P (found ++ y ∷ []) left all
Named-more key P found y name d left all so is here = record {
  names = one_more_name key found y name (keys_in left) is ∙ so.names;
  ascend = so.ascend;
  each = all_more P found y so.each here;
}

pub rows_of-length : (es : List Entry) → length (members_of (members_view es)) ≡ length es
rows_of-length [] = refl
rows_of-length (e ∷ es) = ap suc (rows_of-length es)

-- at most so many rows, or more
pub few_rows : (most : ℕ) (part : Part) (es : List Entry) → length es ≤ most → at_most most part (members_view es) ≡ Ok tt
few_rows most part es few = ap (λ b. if b then Ok tt else Err (OutOfRange (whole part))) (le-leb (length (members_of (members_view es))) most (rw rows_of-length few))

pub many_rows : (most : ℕ) (part : Part) (es : List Entry) → most < length es → at_most most part (members_view es) ≡ Err (OutOfRange (whole part))
many_rows most part es many = ap (λ b. if b then Ok tt else Err (OutOfRange (whole part))) (lt-leb (length (members_of (members_view es))) most (rw rows_of-length many))

all_within : {X : Type 0} (P : X → Type 0) (xs : List X) (y : X) (ys : List X) → AllByRecursion P (xs ++ y ∷ ys) → P y
all_within P [] y ys h = h.0
all_within P (x ∷ xs) y ys h = all_within P xs y ys h.1

new_name : {V : Type 0} (found : List (List ℕ × V)) (name : List ℕ) (more : List (List ℕ)) → Ascend (map (λ c. c.0) found ++ name ∷ more) → lookup (pointwise nat_eq name) found ≡ None
unfolding IsStrictlySortedBy
new_name [] name more h = refl
new_name (c ∷ found) name more h =
    ap (λ b. cond b (Some c.1) (lookup (pointwise nat_eq name) found)) (apart_from c.0 name (all_within (λ y. slice_cmp nat_cmp c.0 y ≡ Less) (map (λ c. c.0) found) name more h.0))
    ∙ new_name found name more h.1

pub Named-new : {V : Type 0} (P : List ℕ × V → Type 0) (found : List (List ℕ × V)) (name : List ℕ) (d : Data) (left all : Members) → Named (λ c. c.0) P found (member name d left) all → lookup (pointwise nat_eq name) found ≡ None
Named-new P found name d left all so = new_name found name (keys_in left) (subst Ascend (sym so.names) so.ascend)

-- the same, at the entries of a map: one more entry was read, or none is left
pub SoFar-next : {Y : Type 0} (read : ℕ → List ℕ × Data → Result Y PolicyError) (all : List (List ℕ × Data)) (es left : List Entry) (key : String Global) (v : Value) (found now : List Y) (y : Y)
    → SoFar read all (members_of (members_view es)) found → es ≡ (key, v) ∷ left → read (length found + 1) (string_bytes key, view v) ≡ Ok y → now ≡ found ++ y ∷ [] → SoFar read all (members_of (members_view left)) now
SoFar-next read all es left key v found now y so step is pushed =
    rw pushed (SoFar-more read all (string_bytes key, view v) (members_of (members_view left)) found y (subst (λ (x : List Entry). SoFar read all (members_of (members_view x)) found) step so) is)

pub Named-next : {Y : Type 0} (name : Y → List ℕ) (P : Y → Type 0) (es left all : List Entry) (key : String Global) (v : Value) (found now : List Y) (y : Y)
    → Named name P found (members_view es) (members_view all) → es ≡ (key, v) ∷ left → name y ≡ string_bytes key → P y → now ≡ found ++ y ∷ [] → Named name P now (members_view left) (members_view all)
Named-next name P es left all key v found now y so step is here pushed =
    rw pushed (Named-more name P found y (string_bytes key) (view v) (members_view left) (members_view all) (subst (λ (x : List Entry). Named name P found (members_view x) (members_view all)) step so) is here)

pub SoFar-count : {Y : Type 0} (read : ℕ → List ℕ × Data → Result Y PolicyError) (all : List (List ℕ × Data)) (es : List Entry) (found : List Y) → SoFar read all (members_of (members_view es)) found → es ≡ [] → length found ≡ length all
SoFar-count read all es found so none =
    each_row-length read 1 all found (SoFar-done read all found (subst (λ (x : List Entry). SoFar read all (members_of (members_view x)) found) none so))

pub Named-fresh : {V : Type 0} (P : List ℕ × V → Type 0) (es left all : List Entry) (key : String Global) (v : Value) (found : List (List ℕ × V)) (name : List ℕ)
    → Named (λ c. c.0) P found (members_view es) (members_view all) → es ≡ (key, v) ∷ left → name ≡ string_bytes key → lookup (pointwise nat_eq name) found ≡ None
Named-fresh P es left all key v found name so step is =
    rw is (Named-new P found (string_bytes key) (view v) (members_view left) (members_view all) (subst (λ (x : List Entry). Named (λ c. c.0) P found (members_view x) (members_view all)) step so))

pub label_at_index : (labels : List Label) (n i : ℕ) (label : Label) → All (λ l. l < n) (map (λ l. l.number) labels) → i < length labels → label ≡ get_or labels i label → label.number < n
label_at_index [] n i label each below is = absurd (omega arith)
label_at_index (l ∷ labels) n zero label each below is = let first : l.number < n = each 0 0 (omega arith) in subst (λ (x : Label). x.number < n) (sym is) first
label_at_index (l ∷ labels) n (suc i) label each below is = label_at_index labels n i label (λ k d lower. each (suc k) d (omega arith)) (omega arith) is

pub no_names_ascend : Ascend []
unfolding IsStrictlySortedBy
no_names_ascend = tt
