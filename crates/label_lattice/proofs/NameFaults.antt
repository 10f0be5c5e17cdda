-- Faults of names.
use Rattle.std.proofs.Common.{◌≡◌, ℕ, zero, suc, ◌+◌, ◌<◌, ◌≤◌, Bool, true, false, cond, List, [], ◌∷◌, ◌++◌, Option, Some, None, length, get_or, take, nat_eq, refl, sym, ◌∙◌, ap, subst, arith, inl, inr}
use Rattle.std.specs.Prelude.{not, if◌then◌else◌, slice_get, ◌↔◌}
use Rattle.std.specs.Option.{option_or}
use Rattle.std.specs.List.{list_any, range_with_len}
use Rattle.std.specs.Cmp.Lexicographic.{pointwise}
use Rattle.std.proofs.lemmas.List.{get_or-take, length-take, take_more}
use Rattle.std.proofs.lemmas.List.Folds.{Any-from_list_any, list_any-from_Any}
use Rattle.std.proofs.lemmas.Bool.{cases_Bool, cases_eq, cases_order}
use Rattle.std.proofs.lemmas.Option.{slice_get_within, get_or_from_slice_get, slice_get-get_or}
use lib.Pointwise.{bytes_decides}
use Rattle.trapeze_io.specs.Names.{is_name}
use Rattle.trapeze_io.specs.contracts.names.NamePartialEq.TheImpl.{eq-value}
use Rattle.label_lattice.specs.declared.error.LatticeError.{LatticeError}
use Rattle.label_lattice.specs.declared.error.LatticeError.TheVariants.{BadName, Repeated}
use Rattle.label_lattice.specs.Joins.{labels, labels_from}
use Rattle.label_lattice.specs.Faults.{first_of, is_repeated, name_fault}
use Rattle.label_lattice.specs.Sound.{AreNames}
use Rattle.label_lattice.proofs.Places.{same_name}
use Rattle.label_lattice.proofs.Ranges.{labels_more, labels_none}

-- a first answer over labels goes on from one to the next
pub first_next : {Y : Type 0} (f : ℕ → Option Y) (i n : ℕ) → i < n → f i ≡ None → first_of f (labels_from i n) ≡ first_of f (labels_from (i + 1) n)
first_next f i n lt e = ap (first_of f) (labels_more i n lt) ∙ ap (λ o. option_or o (first_of f (labels_from (i + 1) n))) e

pub first_here : {Y : Type 0} (f : ℕ → Option Y) (i n : ℕ) (y : Y) → i < n → f i ≡ Some y → first_of f (labels_from i n) ≡ Some y
first_here f i n y lt e = ap (first_of f) (labels_more i n lt) ∙ ap (λ o. option_or o (first_of f (labels_from (i + 1) n))) e

pub first_end : {Y : Type 0} (f : ℕ → Option Y) (i n : ℕ) → n ≤ i → first_of f (labels_from i n) ≡ None
first_end f i n le = ap (first_of f) (labels_none i n le)

pub or_none : {Y : Type 0} (o p : Option Y) → option_or o p ≡ None → (o ≡ None) × (p ≡ None)
or_none None p e = (refl, e)
or_none (Some y) p e = cc

first_none_from : {Y : Type 0} (f : ℕ → Option Y) (a k : ℕ) → first_of f (range_with_len a k) ≡ None → (i : ℕ) → a ≤ i → i < a + k → f i ≡ None
first_none_from f a zero e i le lt = absurd (omega arith)
first_none_from f a (suc k) e i le lt =
    let both = or_none (f a) (first_of f (range_with_len (a + 1) k)) e in
    elim (cases_eq a i) [
      | inl same ↦ subst (λ (x : ℕ). f x ≡ None) same both.0
      | inr other ↦ first_none_from f (a + 1) k both.1 i (omega arith) (omega arith)
    ]

all_none_from : {Y : Type 0} (f : ℕ → Option Y) (a k : ℕ) → ((i : ℕ) → i < a + k → f i ≡ None) → first_of f (range_with_len a k) ≡ None
all_none_from f a zero h = refl
all_none_from f a (suc k) h = ap (λ o. option_or o (first_of f (range_with_len (a + 1) k))) (h a (omega arith)) ∙ all_none_from f (a + 1) k (λ i lt. h i (omega arith))

-- there is no first answer exactly where there is none at any label
pub first_none : {Y : Type 0} (f : ℕ → Option Y) (n : ℕ) → (first_of f (labels n) ≡ None) ↔ ((i : ℕ) → i < n → f i ≡ None)
first_none f n = (λ e i lt. first_none_from f 0 n e i (omega arith) (omega arith), λ h. all_none_from f 0 n (λ i lt. h i (omega arith)))

-- the fault of a name from the two tests
abbrev named_fault : ℕ → Bool → Bool → Option LatticeError
named_fault i t r = if not t then Some (BadName i) else if r then Some (Repeated i) else None

pub bad_fault : (names : List (List ℕ)) (i : ℕ) → is_name (get_or names i []) ≡ false → name_fault names i ≡ Some (BadName i)
bad_fault names i bad = ap (λ t. named_fault i t (is_repeated names i)) bad

pub repeated_fault : (names : List (List ℕ)) (i : ℕ) → is_name (get_or names i []) ≡ true → is_repeated names i ≡ true → name_fault names i ≡ Some (Repeated i)
repeated_fault names i good again = ap (λ t. named_fault i t (is_repeated names i)) good ∙ ap (named_fault i true) again

pub no_fault : (names : List (List ℕ)) (i : ℕ) → is_name (get_or names i []) ≡ true → is_repeated names i ≡ false → name_fault names i ≡ None
no_fault names i good fresh = ap (λ t. named_fault i t (is_repeated names i)) good ∙ ap (named_fault i true) fresh

named_none : (i : ℕ) (t r : Bool) → named_fault i t r ≡ None → (t ≡ true) × (r ≡ false)
named_none i true true e = cc
named_none i true false e = (refl, refl)
named_none i false r e = cc

-- whether the set has the name says whether it is repeated
pub repeated_in : (names : List (List ℕ)) (i : ℕ) (name : List ℕ) (keys : List (List ℕ)) → name ≡ get_or names i [] → keys ≡ take i names → list_any (eq-value.it name) keys ≡ is_repeated names i
repeated_in names i name keys en ek = (λ j. list_any (λ k. same_name name k j) keys) ∙ (λ j. list_any (pointwise nat_eq (en j)) (ek j))

-- of two equal names the later one is repeated
later_repeated : (names : List (List ℕ)) (i j : ℕ) (name : List ℕ) → slice_get names i ≡ Some name → slice_get names j ≡ Some name → i < j → is_repeated names j ≡ true
later_repeated names i j name ei ej lt =
    let within = slice_get_within names i name ei in
    let later : name ≡ get_or names j [] = sym (get_or_from_slice_get names j name [] ej) in
    let there : get_or (take j names) i name ≡ name = get_or-take j names i name lt ∙ get_or_from_slice_get names i name name ei in
    let long = length-take j names in
    list_any-from_Any (pointwise nat_eq (get_or names j [])) (take j names) (i, name, omega arith, there, (bytes_decides (get_or names j []) name).1 (sym later))

-- names without a fault are names, and different
pub AreNames-faultless : (names : List (List ℕ)) → 0 < length names → length names ≤ 64 → first_of (name_fault names) (labels (length names)) ≡ None → AreNames names
AreNames-faultless names some few e = record {
  some = some;
  few = few;
  named = λ i name is. let within = slice_get_within names i name is in
      subst (λ (x : List ℕ). is_name x ≡ true) (get_or_from_slice_get names i name [] is) (named_none i _ _ ((first_none (name_fault names) (length names)).0 e i within)).0;
  different = λ i j name ei ej. elim (cases_order i j) [
    | inl same ↦ same
    | inr (inl lt) ↦ absurd (let once = (named_none j _ _ ((first_none (name_fault names) (length names)).0 e j (slice_get_within names j name ej))).1 in let again = later_repeated names i j name ei ej lt in let k : true ≡ false = sym again ∙ once in cc)
    | inr (inr lt) ↦ absurd (let once = (named_none i _ _ ((first_none (name_fault names) (length names)).0 e i (slice_get_within names i name ei))).1 in let again = later_repeated names j i name ej ei lt in let k : true ≡ false = sym again ∙ once in cc)
  ];
}

-- and the other way
pub faultless-AreNames : (names : List (List ℕ)) → AreNames names → first_of (name_fault names) (labels (length names)) ≡ None
faultless-AreNames names are = (first_none (name_fault names) (length names)).1 (λ i lt.
    let here : slice_get names i ≡ Some (get_or names i []) = slice_get-get_or names i [] lt in
    no_fault names i (are.named i (get_or names i []) here) (elim (cases_Bool (is_repeated names i)) [
      | inl again ↦ absurd (
          let (k, x, within, is, same) = Any-from_list_any (pointwise nat_eq (get_or names i [])) (take i names) again in
          let long = length-take i names in
          let lower : k < i = omega arith in
          let equal : get_or names i [] ≡ x = (bytes_decides (get_or names i []) x).0 same in
          let there : slice_get names k ≡ Some x = slice_get-get_or names k x (omega arith) ∙ ap Some (sym (get_or-take i names k x lower) ∙ is) in
          let one : k ≡ i = are.different k i x there (here ∙ ap Some equal) in omega arith)
      | inr fresh ↦ fresh
    ]))

pub not_false : (t : Bool) → not t ≡ false → t ≡ true
not_false true e = refl
not_false false e = cc

pub not_true : (t : Bool) → not t ≡ true → t ≡ false
not_true true e = cc
not_true false e = refl

-- the name that is added is the next one
pub added_name : (names : List (List ℕ)) (i : ℕ) (name : List ℕ) (keys new : List (List ℕ)) (has : Bool) → i < length names → name ≡ get_or names i [] → keys ≡ take i names
    → has ≡ false → new ≡ cond has keys (keys ++ name ∷ []) → new ≡ take (i + 1) names
added_name names i name keys new has lt en ek fresh e =
    e ∙ ap (λ b. cond b keys (keys ++ name ∷ [])) fresh ∙ (λ j. ek j ++ en j ∷ []) ∙ sym (take_more names i [] lt)
