-- The live facets of a label after a write, counted one after the other.
use Rattle.std.proofs.Common.{◌≡◌, ◌<◌, ◌≤◌, ◌+◌, ◌-◌, ◌^◌, min, ℕ, Bool, true, false, cond, List, [], ◌∷◌, Option, Some, suc, length, get_or, sym, ◌∙◌, ap, subst, arith}
use Rattle.std.specs.Prelude.{◌&&◌, ◌==◌, not, nat_le, sum_by}
use Rattle.std.specs.Ordering.{is_eq}
use Rattle.std.proofs.lemmas.List.Sums.{sum_by-cons}
use Rattle.std.proofs.lemmas.Option.{slice_get-get_or}
use Rattle.label_lattice.specs.declared.label.Label.{Label}
use Rattle.label_limits.specs.declared.limits.Limits.{Limits}
use Rattle.facet_list.specs.Store.{Slot, slot_cmp, Write, Facet}
use Rattle.facet_list.specs.Rows.{rows_of, rows_after, facets_in}
use Rattle.facet_list.specs.Room.{at_label, live_in, size, are_within, fits_in}
use Rattle.facet_list.specs.Kept.{chosen}
use Rattle.facet_list.proofs.Slots.{seen_after}
use Rattle.facet_list.proofs.RowFacets.{facets_in_of}
use Rattle.facet_list.proofs.LiveFacets.{others, live_length, live_sum}

-- what was counted, besides the facet of the write, and what is left make up the whole
pub record IsTally (s : Slot) (v : Option (List ℕ)) (all left : List Facet) (count bytes : ℕ) : Type 0 where
  pub counted : min (count + length (others s left)) (2 ^ 64 - 1) ≡ min (1 + length (others s all)) (2 ^ 64 - 1)
  pub summed : min (bytes + sum_by size (others s left)) (2 ^ 64 - 1) ≡ min (size (s, v) + sum_by size (others s all)) (2 ^ 64 - 1)
  pub count_fits : count ≤ 2 ^ 64 - 1
  pub bytes_fit : bytes ≤ 2 ^ 64 - 1

-- nothing was counted yet
pub tally_none : (s : Slot) (v : Option (List ℕ)) (all left : List Facet) → left ≡ all → (bytes : ℕ) → bytes ≡ size (s, v) → bytes ≤ 2 ^ 64 - 1 → IsTally s v all left 1 bytes
tally_none s v all left e bytes is le = record {
  counted = ap (λ fs. min (1 + length (others s fs)) (2 ^ 64 - 1)) e;
  summed = ap (λ n. min (n + sum_by size (others s left)) (2 ^ 64 - 1)) is ∙ ap (λ fs. min (size (s, v) + sum_by size (others s fs)) (2 ^ 64 - 1)) e;
  count_fits = omega arith;
  bytes_fit = le;
}

cut : (a k n m : ℕ) → min (min (a + k) m + n) m ≡ min (a + (k + n)) m
cut a k n m = omega arith

-- one more facet
pub tally_more : (s : Slot) (v : Option (List ℕ)) (all left rest : List Facet) (count bytes : ℕ) (f : Facet) (b : Bool) → b ≡ is_eq (slot_cmp s f.0) → left ≡ f ∷ rest
    → IsTally s v all left count bytes → IsTally s v all rest (cond b count (min (count + 1) (2 ^ 64 - 1))) (cond b bytes (min (bytes + size f) (2 ^ 64 - 1)))
tally_more s v all left rest count bytes f b e is so =
    let here : others s left ≡ cond (not b) (f ∷ others s rest) (others s rest) = ap (others s) is ∙ ap (λ t. cond (not t) (f ∷ others s rest) (others s rest)) (sym e) in
    elim b as (λ b. others s left ≡ cond (not b) (f ∷ others s rest) (others s rest)
    → IsTally s v all rest (cond b count (min (count + 1) (2 ^ 64 - 1))) (cond b bytes (min (bytes + size f) (2 ^ 64 - 1)))) [
      | true ↦ λ here. record {
        counted = ap (λ fs. min (count + length fs) (2 ^ 64 - 1)) (sym here) ∙ so.counted;
        summed = ap (λ fs. min (bytes + sum_by size fs) (2 ^ 64 - 1)) (sym here) ∙ so.summed;
        count_fits = so.count_fits;
        bytes_fit = so.bytes_fit;
      }
      | false ↦ λ here. record {
        counted = cut count 1 (length (others s rest)) (2 ^ 64 - 1) ∙ ap (λ n. min (count + n) (2 ^ 64 - 1)) (one (length (others s rest)))
            ∙ ap (λ fs. min (count + length fs) (2 ^ 64 - 1)) (sym here) ∙ so.counted;
        summed = cut bytes (size f) (sum_by size (others s rest)) (2 ^ 64 - 1) ∙ ap (λ n. min (bytes + n) (2 ^ 64 - 1)) (sym (sum_by-cons size f (others s rest)))
            ∙ ap (λ fs. min (bytes + sum_by size fs) (2 ^ 64 - 1)) (sym here) ∙ so.summed;
        count_fits = below (count + 1) (2 ^ 64 - 1);
        bytes_fit = below (bytes + size f) (2 ^ 64 - 1);
      }
    ] here
  where
    one : (n : ℕ) → 1 + n ≡ suc n
    one n = omega arith

    below : (n m : ℕ) → min n m ≤ m
    below n m = omega arith

-- the same tally of equal counts
pub same_tally : (s : Slot) (v : Option (List ℕ)) (all left rest : List Facet) (count more bytes sum : ℕ) → rest ≡ left → more ≡ count → sum ≡ bytes → IsTally s v all left count bytes → IsTally s v all rest more sum
same_tally s v all left rest count more bytes sum p q r h =
    subst (λ (fs : List Facet). IsTally s v all fs more sum) (sym p) (subst (λ (n : ℕ). IsTally s v all left n sum) (sym q) (subst (λ (n : ℕ). IsTally s v all left count n) (sym r) h))

whole : (n m : ℕ) → n ≤ m → n ≡ min (n + 0) m
whole n m le = omega (arith, le)

-- all were counted
pub tally_count : (s : Slot) (v : Option (List ℕ)) (all left : List Facet) (count bytes : ℕ) → left ≡ [] → IsTally s v all left count bytes → count ≡ min (1 + length (others s all)) (2 ^ 64 - 1)
tally_count s v all left count bytes e so = whole count (2 ^ 64 - 1) so.count_fits ∙ ap (λ fs. min (count + length (others s fs)) (2 ^ 64 - 1)) (sym e) ∙ so.counted

pub tally_sum : (s : Slot) (v : Option (List ℕ)) (all left : List Facet) (count bytes : ℕ) → left ≡ [] → IsTally s v all left count bytes → bytes ≡ min (size (s, v) + sum_by size (others s all)) (2 ^ 64 - 1)
tally_sum s v all left count bytes e so = whole bytes (2 ^ 64 - 1) so.bytes_fit ∙ ap (λ fs. min (bytes + sum_by size (others s fs)) (2 ^ 64 - 1)) (sym e) ∙ so.summed

-- fewer are left after the next
pub fewer : (left rest now : List Facet) (f : Facet) → left ≡ f ∷ rest → now ≡ rest → length now < length left
fewer left rest now f e same = let h = ap length e in let k = ap length same in omega (arith, h, k)

-- the live facets of a label are those of the writes at it
live_chosen : (l : Label) (w : List Write) → live_in l.number (rows_of w) ≡ facets_in (rows_of (chosen (Some l) w))
live_chosen l w = ap (at_label l.number) (facets_in_of w) ∙ seen_after (λ (s : Slot). s.1 == l.number) w [] tt ∙ sym (facets_in_of (chosen (Some l) w))

-- the counts tell whether the write fits
pub room : (l : Label) (w : List Write) (x : Write) (limits : Limits) → x.label ≡ l.number
    → (nat_le (1 + length (others (x.key, x.label) (facets_in (rows_of (chosen (Some l) w))))) limits.facets
    && nat_le (size ((x.key, x.label), x.value) + sum_by size (others (x.key, x.label) (facets_in (rows_of (chosen (Some l) w))))) limits.bytes)
    ≡ are_within (Some limits) (live_in x.label (rows_after (rows_of w) x))
room l w x limits e =
    let s : Slot = (x.key, x.label) in
    let same : facets_in (rows_of (chosen (Some l) w)) ≡ live_in x.label (rows_of w) = sym (ap (λ k. live_in k (rows_of w)) e ∙ live_chosen l w) in
    ap (λ fs. nat_le (1 + length (others s fs)) limits.facets && nat_le (size (s, x.value) + sum_by size (others s fs)) limits.bytes) same
    ∙ ap (λ k. nat_le k limits.facets && nat_le (size (s, x.value) + sum_by size (others s (live_in x.label (rows_of w)))) limits.bytes) (sym (live_length (rows_of w) x))
    ∙ ap (λ k. nat_le (length (live_in x.label (rows_after (rows_of w) x))) limits.facets && nat_le k limits.bytes) (sym (live_sum (rows_of w) x))

pub fits_told : (limits : List Limits) (w u : List Write) (x : Write) (one : Limits) (i : ℕ) (b : Bool) → i ≡ x.label → x.label < length limits → one ≡ get_or limits i one → u ≡ w
    → b ≡ are_within (Some one) (live_in x.label (rows_after (rows_of u) x)) → fits_in limits (rows_of w) x ≡ b
fits_told limits w u x one i b at lt is same told =
    ap (λ o. are_within o (live_in x.label (rows_after (rows_of w) x))) (slice_get-get_or limits x.label one lt ∙ ap Some (ap (λ k. get_or limits k one) (sym at) ∙ sym is))
    ∙ ap (λ y. are_within (Some one) (live_in x.label (rows_after (rows_of y) x))) (sym same) ∙ sym told
