-- Lists that are filtered twice.
use Rattle.std.proofs.Common.{◌≡◌, Bool, true, false, cond, List, [], ◌∷◌, refl, sym, ◌∙◌, ap}
use Rattle.std.specs.Prelude.{filter, ◌&&◌}

-- a filter that keeps all that a later one looks for changes nothing for it
pub kept_by_both : {A : Type 0} (p q : A → Bool) → ((x : A) → q x ≡ true → p x ≡ true) → (xs : List A) → filter q (filter p xs) ≡ filter q xs
kept_by_both p q h [] = refl
kept_by_both p q h (x ∷ xs) =
    elim (p x) as (λ b. p x ≡ b → filter q (cond b (x ∷ filter p xs) (filter p xs)) ≡ cond (q x) (x ∷ filter q xs) (filter q xs)) [
      | true ↦ λ e. ap (λ ys. cond (q x) (x ∷ ys) ys) (kept_by_both p q h xs)
      | false ↦ λ e. kept_by_both p q h xs
          ∙ elim (q x) as (λ b. q x ≡ b → filter q xs ≡ cond b (x ∷ filter q xs) (filter q xs)) [ true ↦ λ f. (let k = h x f in cc) | false ↦ λ f. refl ] refl
    ] refl

-- to filter twice is to filter once
pub filter_twice : {A : Type 0} (p : A → Bool) (xs : List A) → filter p (filter p xs) ≡ filter p xs
filter_twice p xs = kept_by_both p p (λ x e. e) xs

-- two filters in either order
filter_first : {A : Type 0} (p : A → Bool) (b : Bool) (x : A) (xs : List A) → filter p (cond b (x ∷ xs) xs) ≡ cond (b && p x) (x ∷ filter p xs) (filter p xs)
filter_first p true x xs = refl
filter_first p false x xs = refl

and_turned : (a b : Bool) → (a && b) ≡ (b && a)
and_turned true true = refl
and_turned true false = refl
and_turned false true = refl
and_turned false false = refl

pub filters_commute : {A : Type 0} (p q : A → Bool) (xs : List A) → filter p (filter q xs) ≡ filter q (filter p xs)
filters_commute p q [] = refl
filters_commute p q (x ∷ xs) = filter_first p (q x) x (filter q xs)
    ∙ ap (λ ys. cond (q x && p x) (x ∷ ys) ys) (filters_commute p q xs)
    ∙ ap (λ b. cond b (x ∷ filter q (filter p xs)) (filter q (filter p xs))) (and_turned (q x) (p x))
    ∙ sym (filter_first q (p x) x (filter p xs))
