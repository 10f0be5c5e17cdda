-- The next facet: the next of a row, or the first of the next row.
use Rattle.std.proofs.Common.{◌≡◌, ◌<◌, ℕ, true, List, [], Option, Some, None, ◌⊎◌, inl, inr, refl, sym, ◌∙◌, ap, subst, arith, Vec, Global}
use Rattle.std.specs.Prelude.{nat_lt, unwrap_or, option_map, IfSome}
use Rattle.std.specs.Option.{option_copied}
use Rattle.std.specs.Borrow.{Bor}
use Rattle.label_lattice.specs.declared.label.Label.{Label}
use Rattle.std.specs.declared.cmp.Ordering.{Ordering}
use Rattle.std.specs.declared.cmp.Ordering.TheVariants.{Less, Equal, Greater}
use Rattle.std.specs.Ordering.{nat_cmp, is_lt, ordering_then, ordering_reverse}
use Rattle.std.specs.Cmp.{tied_itself}
use Rattle.std.specs.Cmp.Lexicographic.{nat_list_cmp_total}
use Rattle.std.specs.FinMap as finite
use Rattle.std.proofs.lemmas.Bool.Decides.{nat_tests}
use Rattle.std.proofs.lemmas.Map.Lookups.{exact_bytes}
use Rattle.facet_list.specs.Store.{Slot, Facet, slot_cmp}
use Rattle.facet_list.specs.Rows.{Member, Row, Rows, key_cmp, row_of, member, facet_at, IsSized, AreStoreRows}
use Rattle.facet_list.specs.Walk.{is_after, facet_lent}
use Rattle.facet_list.proofs.Sizes.{sized_at, below_at}
use Rattle.facet_list.specs.Kept.{IsLeast}
use Rattle.facet_list.proofs.PassedTests.{less_true}
use Rattle.facet_rows.specs.Rows.{is_past, IsNextRow, IsRest, IsFirst, IsLeastMember}

below : (a b : ℕ) → nat_cmp a b ≡ Less → a < b
below a b e = grind (arith, nat_tests)

below_cmp : (a b : ℕ) → a < b → nat_cmp a b ≡ Less
below_cmp a b lt = grind (arith, nat_tests)

itself : (k : List ℕ) → key_cmp k k ≡ Equal
itself k = tied_itself nat_list_cmp_total k

-- the facet of a key that has no row, and of one that has
no_row : (rows : Rows) (t : Slot) → finite.get rows t.0 ≡ None → facet_at rows t ≡ None
no_row rows t e = ap (λ o. member t.1 (unwrap_or o [])) e

in_row : (rows : Rows) (t : Slot) (row : Row) (v : Option (Option (List ℕ))) → finite.get rows t.0 ≡ Some row → member t.1 row ≡ v → facet_at rows t ≡ v
in_row rows t row v e m = ap (λ o. member t.1 (unwrap_or o [])) e ∙ m

-- a slot of the same key or of a greater one
pub data Later (k : List ℕ) (l : ℕ) (t : Slot) : Type 0 where
  same : t.0 ≡ k → l < t.1 → Later k l t
  past : key_cmp k t.0 ≡ Less → Later k l t

later : (k : List ℕ) (l : ℕ) (t : Slot) → slot_cmp (k, l) t ≡ Less → Later k l t
later k l t = go (key_cmp k t.0) refl
  where
    go : (r : Ordering) → key_cmp k t.0 ≡ r → ordering_then r (nat_cmp l t.1) ≡ Less → Later k l t
    go Less e h = past e
    go Equal e h = same (sym (exact_bytes k t.0 e)) (below l t.1 h)
    go Greater e h = cc

-- a facet that is the least of its row, where no key past the last one is less
via_row : (rows : Rows) (after : Option Slot) (edge : Option (List ℕ)) (o : Option (List ℕ × Row)) (found : Option Facet)
    → ((t : Slot) → is_after after t ≡ true → (is_past edge t.0 ≡ true) ⊎ (facet_at rows t ≡ None)) → ((t : Slot) → is_past edge t.0 ≡ true → is_after after t ≡ true)
    → IsNextRow rows edge o → IsFirst o found → IsLeast rows after found
via_row rows after edge None found here there next first = subst (IsLeast rows after) (sym first) (λ t a. elim (here t a) [ inl p ↦ no_row rows t (next t.0 p) | inr none ↦ none ])
via_row rows after edge (Some e) None here there next first = absurd first
via_row rows after edge (Some e) (Some f) here there next first = record {
  later = there f.0 (ap (is_past edge) first.0 ∙ next.0);
  here = in_row rows f.0 e.1 (Some f.1) (ap (finite.get rows) first.0 ∙ next.1) first.1;
  least = λ t a l. elim (here t a) [ inl p ↦ less t p (key_cmp t.0 f.0.0) refl l | inr none ↦ none ];
}
  where
    less : (t : Slot) → is_past edge t.0 ≡ true → (r : Ordering) → key_cmp t.0 f.0.0 ≡ r → ordering_then r (nat_cmp t.1 f.0.1) ≡ Less → facet_at rows t ≡ None
    less t p Less e l = no_row rows t (next.2 t.0 p (ap (key_cmp t.0) (sym first.0) ∙ e))
    less t p Equal e l = in_row rows t _ None (ap (finite.get rows) (exact_bytes t.0 f.0.0 e ∙ first.0) ∙ next.1) (first.2 t.1 (below t.1 f.0.1 l))
    less t p Greater e l = cc

-- the first facet of all
pub first_least : (rows : Rows) (o : Option (List ℕ × Row)) (found : Option Facet) → IsNextRow rows None o → IsFirst o found → IsLeast rows None found
first_least rows o found next first = via_row rows None None o found (λ t a. inl refl) (λ t p. refl) next first

-- the next facet of the same row
pub rest_least : (rows : Rows) (k : List ℕ) (l : ℕ) (f : Facet) → IsRest rows k l (Some f) → IsLeast rows (Some (k, l)) (Some f)
rest_least rows k l f h = record {
  later = ap (λ r. is_lt (ordering_then r (nat_cmp l f.0.1))) (ap (key_cmp k) h.0 ∙ itself k) ∙ ap is_lt (below_cmp l f.0.1 h.1);
  here = ap (λ key. member f.0.1 (row_of rows key)) h.0 ∙ h.2;
  least = λ t a lt. elim (later k l t (less_true _ a)) [
    | same e p ↦ ap (λ key. member t.1 (row_of rows key)) e ∙ h.3 t.1 p (below t.1 f.0.1 (alike (nat_cmp t.1 f.0.1) (key_cmp t.0 f.0.0) (ap (λ key. key_cmp key f.0.0) (e ∙ sym h.0) ∙ itself f.0.0) lt))
    | past e ↦ absurd (over t e lt)
  ];
}
  where
    alike : (b r : Ordering) → r ≡ Equal → ordering_then r b ≡ Less → b ≡ Less
    alike b Less e h = cc
    alike b Equal e h = h
    alike b Greater e h = cc

    over : (t : Slot) → key_cmp k t.0 ≡ Less → slot_cmp t f.0 ≡ Less → ⊥
    over t e lt = turned _ _ (nat_list_cmp_total.antisymm t.0 f.0.0 ∙ ap ordering_reverse (ap (λ key. key_cmp key t.0) h.0 ∙ e)) lt
      where
        turned : (b r : Ordering) → r ≡ Greater → ordering_then r b ≡ Less → ⊥
        turned b Less g l = cc
        turned b Equal g l = cc
        turned b Greater g l = cc

tested : (a b : ℕ) → a < b → nat_lt a b ≡ true
tested a b lt = grind (arith, nat_tests)

test : (a b : ℕ) → nat_lt a b ≡ true → a < b
test a b e = grind (arith, nat_tests)

-- what is next in the row of a key, by the least member of it
pub rest_found : (rows : Rows) (key k : List ℕ) (row : Row) (l n : ℕ) (m : Member) (v : Option (List ℕ)) → row_of rows key ≡ row → IsLeastMember row (Some l) (Some m) → k ≡ key → n ≡ m.0 → v ≡ m.1 → IsRest rows key l (Some ((k, n), v))
rest_found rows key k row l n m v e h p q r = (
  p,
  subst (λ (i : ℕ). l < i) (sym q) (test l m.0 h.0),
  ap (λ i. member i (row_of rows key)) q ∙ ap (member m.0) e ∙ h.1 ∙ ap Some (sym r),
  λ i lt less. ap (member i) e ∙ h.2 i (tested l i lt) (subst (λ (j : ℕ). i < j) q less),
)

pub rest_none : (rows : Rows) (key : List ℕ) (row : Row) (l : ℕ) → row_of rows key ≡ row → IsLeastMember row (Some l) None → IsRest rows key l None
rest_none rows key row l e h = λ k lt. ap (member k) e ∙ h k (tested l k lt)

-- the first facet of the next row, where the same row has no more
pub next_least : (rows : Rows) (k : List ℕ) (l : ℕ) (o : Option (List ℕ × Row)) (found : Option Facet) → IsRest rows k l None → IsNextRow rows (Some k) o → IsFirst o found → IsLeast rows (Some (k, l)) found
next_least rows k l o found rest next first = via_row rows (Some (k, l)) (Some k) o found
    (λ t a. elim (later k l t (less_true _ a)) [
      | same e p ↦ inr (ap (λ key. member t.1 (row_of rows key)) e ∙ rest t.1 p)
      | past e ↦ inl (ap is_lt e)
    ])
    (λ t p. ap (λ r. is_lt (ordering_then r (nat_cmp l t.1))) (less_true _ p)) next first

-- the least facet is within its sizes, at a label below the count, and the next one
pub sized_least : (n : ℕ) (rows : Rows) (after : Option Slot) (o : Option (Bor (Vec ℕ Global) × Label × Option (Bor (List ℕ)))) → AreStoreRows n rows → IsLeast rows after (option_map facet_lent o) → IfSome o (λ f. IsSized f.0.now.items (option_copied f.2))
sized_least n rows after None h least = tt
sized_least n rows after (Some f) h least = sized_at n rows (f.0.now.items, f.1.number) (option_copied f.2) h least.here

pub below_least : (n : ℕ) (rows : Rows) (after : Option Slot) (o : Option (Bor (Vec ℕ Global) × Label × Option (Bor (List ℕ)))) → AreStoreRows n rows → IsLeast rows after (option_map facet_lent o) → IfSome o (λ f. f.1.number < n)
below_least n rows after None h least = tt
below_least n rows after (Some f) h least = below_at n rows (f.0.now.items, f.1.number) (option_copied f.2) h.below least.here
