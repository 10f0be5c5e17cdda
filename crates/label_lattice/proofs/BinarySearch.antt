-- A binary search among names that ascend ends at the name's place, or the name is not there.
use Rattle.std.proofs.Common.{◌≡◌, ℕ, ◌+◌, ◌<◌, ◌≤◌, zero, suc, cond, List, [], length, drop, get_or, Some, None, Result, Ok, Err, Less, Equal, Greater, inl, inr, refl, sym, ◌∙◌, ap, subst, nat_cmp, nat_eq, Ordering, true, false, arith}
use Rattle.std.specs.Prelude.{Bool, MatchResult, position}
use Rattle.std.specs.Cmp.{both_ways, tied_itself}
use Rattle.std.specs.Cmp.Lexicographic.{pointwise, slice_cmp, bytes_decides, texts_ties}
use Rattle.std.specs.List.{position_from}
use Rattle.std.specs.List.Sorted.{IsSearchInRange, IsBinarySearchResult, IsNonDecreasingBy}
use Rattle.std.specs.Ordering.{ordering_index, ordering_reverse, is_eq}
use Rattle.std.proofs.lemmas.Bool.{cases_lt}
use Rattle.std.proofs.lemmas.Cmp.{nat_list_cmp_total}
use Rattle.std.proofs.lemmas.List.{drop_more, drop_all}
use Rattle.std.proofs.lemmas.List.Sorted.{IsNonDecreasingBy-from_default}
use Rattle.std.proofs.lemmas.Iterator.Adapters.{position_from-zero}
use Rattle.std.proofs.lemmas.Map.Keys.{Less-from_sorted}
use Rattle.label_lattice.specs.Order.{place_of}
use Rattle.trapeze_io.specs.Names.{Ascend}

-- a key is no earlier one
pub apart_from : (a k : List ℕ) → slice_cmp nat_cmp a k ≡ Less → pointwise nat_eq k a ≡ false
apart_from a k less = both_ways (pointwise nat_eq k a) false
    (λ e. let same : k ≡ a = (bytes_decides k a).0 e in let tied : slice_cmp nat_cmp a a ≡ Equal = tied_itself nat_list_cmp_total a in
    let less_itself : slice_cmp nat_cmp a a ≡ Less = ap (slice_cmp nat_cmp a) (sym same) ∙ less in cc) (λ e. cc)

-- a search from the end finds none
pub none_left : (test : List ℕ → Bool) (names : List (List ℕ)) (i number : ℕ) → length names ≤ i
    → position_from test number (drop i names) ≡ position_from test 0 names → None ≡ position test names
none_left test names i number past so =
    ap (position_from test number) (sym (drop_all i names past)) ∙ so ∙ sym (position_from-zero test names)

-- how a name compares with another
abbrev pub compared : List ℕ → List ℕ → Ordering
compared name other = slice_cmp nat_cmp other name

-- of two names that ascend the later one compares no less with a third
rank_rises : (x y name : List ℕ) → slice_cmp nat_cmp x y ≡ Less → ordering_index (slice_cmp nat_cmp x name) ≤ ordering_index (slice_cmp nat_cmp y name)
rank_rises x y name less =
    elim (slice_cmp nat_cmp x name) as (λ o. slice_cmp nat_cmp x name ≡ o → ordering_index o ≤ ordering_index (slice_cmp nat_cmp y name)) [
      | Less ↦ λ e. omega arith
      | Equal ↦ λ e.
          let above : slice_cmp nat_cmp y name ≡ Greater = nat_list_cmp_total.antisymm y name ∙ ap ordering_reverse (sym (nat_list_cmp_total.congr x name y e) ∙ less) in
          subst (λ o. 1 ≤ ordering_index o) (sym above) (omega arith)
      | Greater ↦ λ e.
          let first : slice_cmp nat_cmp name x ≡ Less = nat_list_cmp_total.antisymm name x ∙ ap ordering_reverse e in
          let above : slice_cmp nat_cmp y name ≡ Greater = nat_list_cmp_total.antisymm y name ∙ ap ordering_reverse (nat_list_cmp_total.trans name x y first less) in
          subst (λ o. 2 ≤ ordering_index o) (sym above) (omega arith)
    ] refl

comparisons_rise : (names : List (List ℕ)) (name : List ℕ) → Ascend names → IsNonDecreasingBy (λ y. ordering_index (compared name y)) names
comparisons_rise names name sorted =
    IsNonDecreasingBy-from_default (λ y. ordering_index (compared name y)) names [] (λ i j le below.
    elim (cases_lt i j) [
      | inl before ↦ rank_rises (get_or names i []) (get_or names j []) name (Less-from_sorted (slice_cmp nat_cmp) names i j [] sorted before below)
      | inr past ↦
          let same : i ≡ j = omega arith in
          subst (λ k. ordering_index (compared name (get_or names i [])) ≤ ordering_index (compared name (get_or names k []))) same (omega arith)
    ])

-- a search from the front passes the names that fail its test
skipped : (test : List ℕ → Bool) (names : List (List ℕ)) (i : ℕ) → i ≤ length names → ((k : ℕ) → k < i → test (get_or names k []) ≡ false)
    → position_from test i (drop i names) ≡ position_from test 0 names
skipped test names zero below fails = refl
skipped test names (suc i) below fails =
    let here : position_from test i (drop i names) ≡ position_from test (i + 1) (drop (i + 1) names)
    = ap (position_from test i) (drop_more names i [] (omega arith)) ∙ ap (λ b. cond b (Some i) (position_from test (i + 1) (drop (i + 1) names))) (fails i (omega arith)) in
    let one : suc i ≡ i + 1 = omega arith in
    rw one (sym here ∙ skipped test names i (omega arith) (λ k lt. fails k (omega arith)))

-- names that compare as other than equal are not the name
not_before : (y name : List ℕ) → compared name y ≡ Less → pointwise nat_eq name y ≡ false
not_before y name less = apart_from y name less

not_after : (y name : List ℕ) → compared name y ≡ Greater → pointwise nat_eq name y ≡ false
not_after y name greater =
    texts_ties name y ∙ ap is_eq (nat_list_cmp_total.antisymm name y ∙ ap ordering_reverse greater)

is_name : (y name : List ℕ) → compared name y ≡ Equal → pointwise nat_eq name y ≡ true
is_name y name equal = texts_ties name y ∙ ap is_eq (nat_list_cmp_total.antisymm name y ∙ ap ordering_reverse equal)

-- what a binary search answers is the name's place
pub searched : (names : List (List ℕ)) (name : List ℕ) (r : Result ℕ ℕ) → Ascend names → IsSearchInRange r (length names) → IsBinarySearchResult (compared name) names r
    → MatchResult r (λ i. Some i ≡ place_of name names) (λ i. None ≡ place_of name names)
searched names name (Ok i) sorted below equal =
    let test : List ℕ → Bool = pointwise nat_eq name in
    let passes : test (get_or names i []) ≡ true = is_name (get_or names i []) name (equal []) in
    let same : name ≡ get_or names i [] = (bytes_decides name (get_or names i [])).0 passes in
    let fails : (k : ℕ) → k < i → test (get_or names k []) ≡ false = λ k lt. not_before (get_or names k []) name (ap (slice_cmp nat_cmp (get_or names k [])) same ∙ Less-from_sorted (slice_cmp nat_cmp) names k i [] sorted lt below) in
    sym (ap (λ b. cond b (Some i) (position_from test (i + 1) (drop (i + 1) names))) passes)
    ∙ ap (position_from test i) (sym (drop_more names i [] below))
    ∙ skipped test names i (omega arith) fails
    ∙ sym (position_from-zero test names)
searched names name (Err i) sorted most parted =
    let test : List ℕ → Bool = pointwise nat_eq name in
    let parts = parted (comparisons_rise names name sorted) in
    let fails : (k : ℕ) → k < length names → test (get_or names k []) ≡ false = λ k lt.
    elim (cases_lt k i) [
      | inl before ↦ not_before (get_or names k []) name (parts.0 k [] (omega arith) before)
      | inr past ↦ not_after (get_or names k []) name (parts.1 k [] (omega arith) lt)
    ] in
    none_left test names (length names) (length names) (omega arith) (skipped test names (length names) (omega arith) fails)
