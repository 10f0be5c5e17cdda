-- The order of slots, and what a filter by slots keeps of facets.
use Rattle.std.proofs.Common.{◌≡◌, ℕ, Bool, true, false, cond, List, [], ◌∷◌, T, Option, Some, None, refl, sym, ◌∙◌, ap}
use Rattle.std.specs.Prelude.{filter}
use Rattle.std.specs.declared.cmp.Ordering.{Ordering}
use Rattle.std.specs.declared.cmp.Ordering.TheVariants.{Less, Equal, Greater}
use Rattle.std.specs.Ordering.{nat_cmp, eq_by_cmp, is_eq}
use Rattle.std.specs.Cmp.{IsTotalOrder, nat_cmp_total}
use Rattle.std.specs.Cmp.Lexicographic.{nat_list_cmp_total, slice_cmp}
use Rattle.std.specs.FinMap.{put, find, is_sorted}
use Rattle.std.specs.FinMap.Entries.{where_key, is_sorted-put, is_sorted-where_key, find-put, find-where_key, same_entries}
use Rattle.std.proofs.lemmas.Map.Lookups.{exact_pairs, exact_unsigned, exact_bytes}
use Rattle.std.proofs.lemmas.Cmp.{on_total, then_total}
use Rattle.facet_list.specs.Store.{Slot, slot_cmp, Write, Facet, facets_after}
use Rattle.facet_list.specs.Views.{AreNoninterfering, AreNoninterferingFrom}

pub slots_total : IsTotalOrder slot_cmp
slots_total = then_total (on_total (λ (s : Slot). s.0) nat_list_cmp_total) (on_total (λ (s : Slot). s.1) nat_cmp_total)

pub exact_slot : (a b : Slot) → slot_cmp a b ≡ Equal → a ≡ b
exact_slot = exact_pairs (slice_cmp nat_cmp) nat_cmp exact_bytes exact_unsigned

pub tied : (a b : Slot) → eq_by_cmp slot_cmp a b ≡ true → a ≡ b
tied a b e = exact_slot a b (equal (slot_cmp a b) e)
  where
    equal : (r : Ordering) → is_eq r ≡ true → r ≡ Equal
    equal Less h = cc
    equal Equal h = refl
    equal Greater h = cc

seen_branches : {A : Type 0} (t b : Bool) (v : A) (f : Option A) → (t ≡ true → b ≡ true) → cond b (cond t (Some v) f) None ≡ cond t (Some v) (cond b f None)
seen_branches true true v f h = refl
seen_branches true false v f h = let k = h refl in cc
seen_branches false b v f h = refl

hidden_branches : {A : Type 0} (t b : Bool) (v : A) (f : Option A) → (t ≡ true → b ≡ false) → cond b (cond t (Some v) f) None ≡ cond b f None
hidden_branches true true v f h = let k = h refl in cc
hidden_branches true false v f h = refl
hidden_branches false b v f h = refl

-- what is put at a slot that passes stays, and what is put at another does not show
pub seen_put : (p : Slot → Bool) (s : Slot) (v : Option (List ℕ)) (fs : List Facet) → T (is_sorted slot_cmp fs) → (b : Bool) → p s ≡ b
    → where_key slot_cmp p (put slot_cmp s v fs) ≡ cond b (put slot_cmp s v (where_key slot_cmp p fs)) (where_key slot_cmp p fs)
seen_put p s v fs sorted b is =
    let alike = λ (q x : Slot) (e : slot_cmp q x ≡ Equal). ap p (sym (exact_slot q x e)) in
    let left = λ (q : Slot). find-where_key slot_cmp p q (alike q) (put slot_cmp s v fs) ∙ ap (λ o. cond (p q) o None) (find-put slot_cmp slots_total q s v fs) in
    elim b as (λ b. p s ≡ b → where_key slot_cmp p (put slot_cmp s v fs) ≡ cond b (put slot_cmp s v (where_key slot_cmp p fs)) (where_key slot_cmp p fs)) [
      | true ↦ λ is. same_entries slot_cmp slots_total exact_slot _ _
          (is_sorted-where_key slot_cmp p _ (is_sorted-put slot_cmp slots_total s v fs sorted))
          (is_sorted-put slot_cmp slots_total s v _ (is_sorted-where_key slot_cmp p fs sorted))
          (λ q. left q ∙ seen_branches (eq_by_cmp slot_cmp q s) (p q) v (find slot_cmp q fs) (λ e. ap p (tied q s e) ∙ is)
          ∙ sym (find-put slot_cmp slots_total q s v (where_key slot_cmp p fs) ∙ ap (cond (eq_by_cmp slot_cmp q s) (Some v)) (find-where_key slot_cmp p q (alike q) fs)))
      | false ↦ λ is. same_entries slot_cmp slots_total exact_slot _ _
          (is_sorted-where_key slot_cmp p _ (is_sorted-put slot_cmp slots_total s v fs sorted))
          (is_sorted-where_key slot_cmp p fs sorted)
          (λ q. left q ∙ hidden_branches (eq_by_cmp slot_cmp q s) (p q) v (find slot_cmp q fs) (λ e. ap p (tied q s e) ∙ is)
          ∙ sym (find-where_key slot_cmp p q (alike q) fs))
    ] is

-- the facets that pass are those that the writes that pass leave
pub seen_after : (p : Slot → Bool) (w : List Write) (fs : List Facet) → T (is_sorted slot_cmp fs)
    → where_key slot_cmp p (facets_after fs w) ≡ facets_after (where_key slot_cmp p fs) (filter (λ x. p (x.key, x.label)) w)
seen_after p [] fs sorted = refl
seen_after p (x ∷ w) fs sorted =
    let s : Slot = (x.key, x.label) in
    let rest = seen_after p w (put slot_cmp s x.value fs) (is_sorted-put slot_cmp slots_total s x.value fs sorted) in
    elim (p s) as (λ b. p s ≡ b → where_key slot_cmp p (facets_after (put slot_cmp s x.value fs) w) ≡ facets_after (where_key slot_cmp p fs) (cond b (x ∷ filter (λ x. p (x.key, x.label)) w) (filter (λ x. p (x.key, x.label)) w))) [
      | true ↦ λ is. rest ∙ ap (λ es. facets_after es (filter (λ x. p (x.key, x.label)) w)) (seen_put p s x.value fs sorted true is)
      | false ↦ λ is. rest ∙ ap (λ es. facets_after es (filter (λ x. p (x.key, x.label)) w)) (seen_put p s x.value fs sorted false is)
    ] refl

pub noninterfering : AreNoninterfering
noninterfering flows o w = seen_after (λ (s : Slot). flows s.1 o) w [] tt

pub noninterfering_from : AreNoninterferingFrom
noninterfering_from flows o start w sorted = seen_after (λ (s : Slot). flows s.1 o) w start sorted
