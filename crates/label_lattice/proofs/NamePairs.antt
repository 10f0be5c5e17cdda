-- Pairs of names, by position.
use Rattle.std.proofs.Common.{◌≡◌, ℕ, zero, suc, ◌+◌, ◌<◌, List, [], ◌∷◌, ◌++◌, Option, Some, None, length, get_or, take, refl, sym, ◌∙◌, ap, subst, arith, ◌⊎◌, inl, inr}
use Rattle.std.specs.Prelude.{min, max, option_map, option_and_then, ◌==◌}
use Rattle.std.specs.List.{cons_option}
use Rattle.std.specs.Cmp.{both_ways}
use Rattle.std.proofs.lemmas.List.{take_more}
use Rattle.std.proofs.lemmas.List.Elements.{filter_map-append}
use Rattle.std.proofs.lemmas.List.Quantifiers.{position-Some}
use Rattle.std.proofs.lemmas.Bool.Decides.{Decides-eqb}
use Rattle.std.proofs.lemmas.Nat.Bits.{bit_at-lt}
use Rattle.label_lattice.specs.Order.{place_of}
use Rattle.label_lattice.specs.Reach.{Reaches, closes, ends_of, pairs_numbered}
use Rattle.label_lattice.specs.Rows.{ArePairs, bit, IsClosure, IsClosed, row_flows}
use Rattle.label_lattice.proofs.Paths.{Reaches-here, Reaches-trans, Reaches-push_old, Reaches-push_new, Reaches-push_cases, Reaches-within, exact_test}
use Rattle.label_lattice.proofs.JoinsByBits.{flows_from_bit, flows_itself, or_split}

-- where a name stands is below their number
pub place_within : (name : List ℕ) (names : List (List ℕ)) (i : ℕ) → place_of name names ≡ Some i → i < length names
place_within name names i e = (position-Some _ names i [] e).0

-- the ends of a pair whose names stand at a and b
pub ends_found : (names : List (List ℕ)) (pair : List ℕ × List ℕ) (a b : ℕ) → place_of pair.0 names ≡ Some a → place_of pair.1 names ≡ Some b → ends_of names pair ≡ Some (a, b)
ends_found names pair a b ea eb = (λ i. option_and_then (λ a. option_map (λ b. (a, b)) (place_of pair.1 names)) (ea i)) ∙ ap (option_map (λ b. (a, b))) eb

pub no_start : (names : List (List ℕ)) (pair : List ℕ × List ℕ) → place_of pair.0 names ≡ None → ends_of names pair ≡ None
no_start names pair e = ap (option_and_then (λ a. option_map (λ b. (a, b)) (place_of pair.1 names))) e

pub no_end : (names : List (List ℕ)) (pair : List ℕ × List ℕ) (a : ℕ) → place_of pair.0 names ≡ Some a → place_of pair.1 names ≡ None → ends_of names pair ≡ None
no_end names pair a ea eb = ap (option_and_then (λ a. option_map (λ b. (a, b)) (place_of pair.1 names))) ea ∙ ap (option_map (λ b. (a, b))) eb

-- one more pair, by position
pub numbered_more : (names : List (List ℕ)) (pairs : List (List ℕ × List ℕ)) (j : ℕ) (d : List ℕ × List ℕ) (p : ℕ × ℕ) → j < length pairs → ends_of names (get_or pairs j d) ≡ Some p
    → pairs_numbered names (take (j + 1) pairs) ≡ pairs_numbered names (take j pairs) ++ p ∷ []
numbered_more names pairs j d p lt e =
    ap (pairs_numbered names) (take_more pairs j d lt)
    ∙ filter_map-append (ends_of names) (take j pairs) (get_or pairs j d ∷ [])
    ∙ ap (λ o. pairs_numbered names (take j pairs) ++ cons_option o []) e

one_of : (old by from new : ℕ) → new ≡ max old (min by from) → old < 2 → by < 2 → from < 2 → new ≡ 1 → (old ≡ 1) ⊎ ((by ≡ 1) × (from ≡ 1))
one_of zero by from new is lo lb lf e = inr (omega arith, omega arith)
one_of (suc old) by from new is lo lb lf e = inl (omega arith)

-- the rows of the shorter list, and the new pair, give the rows of the longer one
pub IsClosure-more : (n : ℕ) (ps : List (ℕ × ℕ)) (p : ℕ × ℕ) (old new : List ℕ) → IsClosure n ps old → p.1 < n
    → ((a b : ℕ) → bit new a b ≡ max (bit old a b) (min (bit old a p.0) (bit old p.1 b))) → IsClosure n (ps ++ p ∷ []) new
IsClosure-more n ps p old new h within is = record {
  exact = λ a b. (
    λ e. elim (one_of (bit old a b) (bit old a p.0) (bit old p.1 b) (bit new a b) (is a b) (bit_at-lt _ b) (bit_at-lt _ p.0) (bit_at-lt _ b) e) [
      | inl o ↦ let r = (h.exact a b).0 o in (r.0, Reaches-push_old ps p a b r.1)
      | inr both ↦ let to = (h.exact a p.0).0 both.0 in let from = (h.exact p.1 b).0 both.1 in (to.0, Reaches-push_new ps p a b to.1 from.1)
    ],
    λ r. elim (Reaches-push_cases ps p a b r.1) [
      | inl o ↦ (let k : bit old a b ≡ 1 = (h.exact a b).1 (r.0, o) in let m = is a b in let s = bit_at-lt (get_or old a 0) p.0 in omega arith)
      | inr both ↦ (let k : bit old a p.0 ≡ 1 = (h.exact a p.0).1 (r.0, both.0) in let m : bit old p.1 b ≡ 1 = (h.exact p.1 b).1 (within, both.1) in
          let e = is a b in let s = bit_at-lt (get_or old a 0) b in omega arith)
    ],
  );
}

abbrev pub AreWithin : ℕ → List (ℕ × ℕ) → Type 0
AreWithin n ps = (k : ℕ) (d : ℕ × ℕ) → k < length ps → ((get_or ps k d).0 < n) × ((get_or ps k d).1 < n)

cons_within : (n : ℕ) (o : Option (ℕ × ℕ)) (ps : List (ℕ × ℕ)) → ((p : ℕ × ℕ) → o ≡ Some p → (p.0 < n) × (p.1 < n)) → AreWithin n ps → AreWithin n (cons_option o ps)
cons_within n None ps first rest = rest
cons_within n (Some p) ps first rest = within where
  within : AreWithin n (p ∷ ps)
  within zero d lt = first p refl
  within (suc k) d lt = rest k d (omega arith)

ends_within : (names : List (List ℕ)) (pair : List ℕ × List ℕ) (oa ob : Option ℕ) → place_of pair.0 names ≡ oa → place_of pair.1 names ≡ ob → (p : ℕ × ℕ) → ends_of names pair ≡ Some p → (p.0 < length names) × (p.1 < length names)
ends_within names pair None ob ea eb p e = absurd (let k : None ≡ Some p = sym (no_start names pair ea) ∙ e in cc)
ends_within names pair (Some a) None ea eb p e = absurd (let k : None ≡ Some p = sym (no_end names pair a ea eb) ∙ e in cc)
ends_within names pair (Some a) (Some b) ea eb p e =
    let k : Some (a, b) ≡ Some p = sym (ends_found names pair a b ea eb) ∙ e in
    let same : (a, b) ≡ p = cc in
    subst (λ (q : ℕ × ℕ). (q.0 < length names) × (q.1 < length names)) same (place_within pair.0 names a ea, place_within pair.1 names b eb)

numbered_within : (names : List (List ℕ)) (pairs : List (List ℕ × List ℕ)) → AreWithin (length names) (pairs_numbered names pairs)
numbered_within names [] = λ k d lt. absurd (omega arith)
numbered_within names (pair ∷ pairs) = cons_within (length names) (ends_of names pair) (pairs_numbered names pairs) (ends_within names pair (place_of pair.0 names) (place_of pair.1 names) refl refl) (numbered_within names pairs)

pub numbered_pairs : (names : List (List ℕ)) (pairs : List (List ℕ × List ℕ)) → ArePairs (length names) (pairs_numbered names pairs)
numbered_pairs names pairs p (k, lt, is) = subst (λ (q : ℕ × ℕ). (q.0 < length names) × (q.1 < length names)) is (numbered_within names pairs k p lt)

-- the rows of a closure are closed
pub IsClosed-closure : (n : ℕ) (ps : List (ℕ × ℕ)) (rows : List ℕ) → ArePairs n ps → IsClosure n ps rows → IsClosed n rows
IsClosed-closure n ps rows pairs h = record {
  own = λ a lt. (h.exact a a).1 (lt, Reaches-here ps a);
  within = λ a b e. let r = (h.exact a b).0 e in elim (Reaches-within n ps pairs a b r.1) [
    | inl same ↦ (r.0, subst (λ (x : ℕ). x < n) same r.0)
    | inr both ↦ both
  ];
  transitive = λ a b d e g. let r = (h.exact a b).0 e in (h.exact a d).1 (r.0, Reaches-trans ps a b d r.1 ((h.exact b d).0 g).1);
}

-- and say the same as the test
pub flows_closes : (n : ℕ) (ps : List (ℕ × ℕ)) (rows : List ℕ) → ArePairs n ps → IsClosure n ps rows → (a b : ℕ) → row_flows rows a b ≡ closes ps a b
flows_closes n ps rows pairs h a b = both_ways (row_flows rows a b) (closes ps a b)
    (λ e. (exact_test ps a b).1 (elim (or_split (a == b) _ e) [
      | inl same ↦ subst (λ (x : ℕ). Reaches ps a x) ((Decides-eqb a b).0 same) (Reaches-here ps a)
      | inr set ↦ ((h.exact a b).0 ((Decides-eqb (bit rows a b) 1).0 set)).1
    ]))
    (λ e. let r = (exact_test ps a b).0 e in elim (Reaches-within n ps pairs a b r) [
      | inl same ↦ flows_itself rows a b same
      | inr both ↦ flows_from_bit rows a b ((h.exact a b).1 (both.0, r))
    ])
