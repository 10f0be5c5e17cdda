-- Names by their places.
use Rattle.std.proofs.Common.{◌≡◌, ℕ, zero, suc, ◌+◌, ◌-◌, Bool, true, false, cond, List, [], ◌∷◌, Some, None, length, refl, sym, ◌∙◌, ap, subst, nat_eq, nat_lt, take, replicate, arith}
use Rattle.std.specs.Prelude.{position, not, ◌&&◌, slice_get}
use Rattle.std.specs.List.{prefix_len}
use Rattle.std.specs.Cmp.{both_ways}
use Rattle.std.specs.Cmp.Derive.{both_true}
use Rattle.std.specs.Cmp.Lexicographic.{pointwise}
use Rattle.std.proofs.Math.Seq.{take-append_seam}
use Rattle.std.proofs.lemmas.Bool.{le-ltb}
use Rattle.std.proofs.lemmas.Bool.Decides.{Decides-eqb}
use lib.Pointwise.{bytes_decides}
use Rattle.trapeze_io.specs.Names.{is_name, padded}
use Rattle.trapeze_io.specs.contracts.names.NamePartialEq.TheImpl.{eq-value}
use Rattle.label_lattice.specs.Order.{place_of}

and_left : (x y : Bool) → (x && y) ≡ true → x ≡ true
and_left true y h = refl
and_left false y h = cc

and_right : (x y : Bool) → (x && y) ≡ true → y ≡ true
and_right true y h = h
and_right false y h = cc

-- names in place are equal exactly where their bytes are
pub same_name : (a b : List ℕ) → eq-value.it a b ≡ pointwise nat_eq a b
same_name a b = both_ways (eq-value.it a b) (pointwise nat_eq a b)
    (λ h. let places : padded a ≡ padded b = (bytes_decides (padded a) (padded b)).0 (and_left _ _ h) in
    let sizes : length a ≡ length b = (Decides-eqb (length a) (length b)).0 (and_right _ _ h) in
    (bytes_decides a b).1 (sym (take-append_seam a (replicate (64 - length a) 0)) ∙ ap (take (length a)) places ∙ ap (λ n. take n (padded b)) sizes ∙ take-append_seam b (replicate (64 - length b) 0)))
    (λ h. let same : a ≡ b = (bytes_decides a b).0 h in subst (λ (x : List ℕ). eq-value.it a x ≡ true) same
    (both_true ((bytes_decides (padded a) (padded a)).1 refl) ((Decides-eqb (length a) (length a)).1 refl)))

all_pass : (name : List ℕ) (names : List (List ℕ)) → is_name name ≡ false → ((i : ℕ) (x : List ℕ) → slice_get names i ≡ Some x → is_name x ≡ true) → prefix_len (λ k. not (pointwise nat_eq name k)) names ≡ length names
all_pass name [] bad h = refl
all_pass name (k ∷ names) bad h =
    let other : pointwise nat_eq name k ≡ false = both_ways (pointwise nat_eq name k) false
    (λ e. let same : name ≡ k = (bytes_decides name k).0 e in sym bad ∙ ap is_name same ∙ h zero k refl) (λ e. cc) in
    let before = all_pass name names bad (λ i x e. h (suc i) x e) in
    let step : 1 + prefix_len (λ k. not (pointwise nat_eq name k)) names ≡ suc (length names) = omega arith in
    ap (λ b. cond (not b) (1 + prefix_len (λ k. not (pointwise nat_eq name k)) names) 0) other ∙ step

-- what is no name stands nowhere among names
pub no_name : (name : List ℕ) (names : List (List ℕ)) → is_name name ≡ false → ((i : ℕ) (x : List ℕ) → slice_get names i ≡ Some x → is_name x ≡ true) → place_of name names ≡ None
no_name name names bad h = ap (λ n. cond (nat_lt n (length names)) (Some n) None) (all_pass name names bad h) ∙ ap (λ b. cond b (Some (length names)) None) (le-ltb (length names) (length names) (omega arith))

-- the index finds the place
pub found_place : (name : List ℕ) (names : List (List ℕ)) → position (eq-value.it name) names ≡ place_of name names
found_place name names = λ i. position (λ k. same_name name k i) names
