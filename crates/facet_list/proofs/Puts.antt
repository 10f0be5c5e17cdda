-- What an observer sees of puts is what the puts that he sees make.
use Rattle.std.proofs.Common.{◌≡◌, ℕ, Bool, true, false, cond, List, [], ◌∷◌, ◌++◌, refl, sym, ◌∙◌, ap}
use Rattle.std.specs.Prelude.{filter, ◌==◌, slice_get, if◌then◌else◌}
use Rattle.std.proofs.lemmas.Bool.Decides.{Decides-eqb}
use Rattle.std.proofs.lemmas.List.{append-nil}
use Rattle.std.proofs.lemmas.List.Elements.{filter-append}
use Rattle.label_limits.specs.declared.limits.Limits.{Limits}
use Rattle.facet_list.specs.Store.{Write, Facet, facets}
use Rattle.facet_list.specs.Room.{live, are_within, fits}
use Rattle.facet_list.specs.Puts.{store_after, refused_of, play, refused, AreNoninterferingPuts}
use Rattle.facet_list.specs.Views.{visible_writes}
use Rattle.facet_list.proofs.Slots.{noninterfering}

-- a filter after a filter that keeps all it looks for
kept_by_both : {A : Type 0} (p q : A → Bool) → ((x : A) → q x ≡ true → p x ≡ true) → (xs : List A) → filter q (filter p xs) ≡ filter q xs
kept_by_both p q h [] = refl
kept_by_both p q h (x ∷ xs) =
    elim (p x) as (λ b. p x ≡ b → filter q (cond b (x ∷ filter p xs) (filter p xs)) ≡ cond (q x) (x ∷ filter q xs) (filter q xs)) [
      | true ↦ λ e. ap (λ ys. cond (q x) (x ∷ ys) ys) (kept_by_both p q h xs)
      | false ↦ λ e. kept_by_both p q h xs ∙ elim (q x) as (λ b. q x ≡ b → filter q xs ≡ cond b (x ∷ filter q xs) (filter q xs)) [ true ↦ λ f. (let k = h x f in cc) | false ↦ λ f. refl ] refl
    ] refl

module _ (flows : ℕ → ℕ → Bool) (o : ℕ) where
  live_seen : (l : ℕ) → flows l o ≡ true → (w : List Write) → live l (visible_writes flows o w) ≡ live l w
  live_seen l seen w = ap (filter (λ f. f.0.1 == l)) (sym (noninterfering flows o w))
      ∙ kept_by_both (λ (f : Facet). flows f.0.1 o) (λ (f : Facet). f.0.1 == l) (λ f e. ap (λ k. flows k o) ((Decides-eqb f.0.1 l).0 e) ∙ seen) (facets w)

  -- one more write
  seen_push : (w : List Write) (x : Write) (b : Bool) → flows x.label o ≡ b → visible_writes flows o (w ++ x ∷ []) ≡ (if b then visible_writes flows o w ++ x ∷ [] else visible_writes flows o w)
  seen_push w x b e = filter-append (λ (y : Write). flows y.label o) w (x ∷ []) ∙ ap (λ c. visible_writes flows o w ++ cond c (x ∷ []) []) e
      ∙ elim b as (λ b. visible_writes flows o w ++ cond b (x ∷ []) [] ≡ cond b (visible_writes flows o w ++ x ∷ []) (visible_writes flows o w)) [ true ↦ refl | false ↦ append-nil (visible_writes flows o w) ]

  module _ (limits : List Limits) where
    fits_seen : (w : List Write) (x : Write) → flows x.label o ≡ true → fits limits (visible_writes flows o w) x ≡ fits limits w x
    fits_seen w x seen = ap (are_within (slice_get limits x.label)) (ap (live x.label) (sym (seen_push w x true seen)) ∙ live_seen x.label seen (w ++ x ∷ []))

    either : {A B : Type 0} (f : A → B) (b : Bool) (x y : A) → f (cond b x y) ≡ cond b (f x) (f y)
    either f true x y = refl
    either f false x y = refl

    same_either : {A : Type 0} (b : Bool) (x : A) → cond b x x ≡ x
    same_either true x = refl
    same_either false x = refl

    -- the store after a put that is seen, and after one that is not
    store_seen : (w : List Write) (x : Write) → flows x.label o ≡ true → visible_writes flows o (store_after limits w x) ≡ store_after limits (visible_writes flows o w) x
    store_seen w x e = either (visible_writes flows o) (fits limits w x) (w ++ x ∷ []) w
        ∙ ap (λ v. cond (fits limits w x) v (visible_writes flows o w)) (seen_push w x true e)
        ∙ ap (λ b. cond b (visible_writes flows o w ++ x ∷ []) (visible_writes flows o w)) (sym (fits_seen w x e))

    store_hidden : (w : List Write) (x : Write) → flows x.label o ≡ false → visible_writes flows o (store_after limits w x) ≡ visible_writes flows o w
    store_hidden w x e = either (visible_writes flows o) (fits limits w x) (w ++ x ∷ []) w
        ∙ ap (λ v. cond (fits limits w x) v (visible_writes flows o w)) (seen_push w x false e)
        ∙ same_either (fits limits w x) (visible_writes flows o w)

    refused_seen : (w : List Write) (x : Write) → flows x.label o ≡ true → visible_writes flows o (refused_of limits w x) ≡ refused_of limits (visible_writes flows o w) x
    refused_seen w x e = either (visible_writes flows o) (fits limits w x) [] (x ∷ [])
        ∙ ap (λ b. cond (fits limits w x) [] (cond b (x ∷ []) [])) e
        ∙ ap (λ b. cond b [] (x ∷ [])) (sym (fits_seen w x e))

    refused_hidden : (w : List Write) (x : Write) → flows x.label o ≡ false → visible_writes flows o (refused_of limits w x) ≡ []
    refused_hidden w x e = either (visible_writes flows o) (fits limits w x) [] (x ∷ [])
        ∙ ap (λ b. cond (fits limits w x) [] (cond b (x ∷ []) [])) e
        ∙ same_either (fits limits w x) []

    pub play_seen : (w puts : List Write) → visible_writes flows o (play limits w puts) ≡ play limits (visible_writes flows o w) (visible_writes flows o puts)
    play_seen w [] = refl
    play_seen w (x ∷ puts) = play_seen (store_after limits w x) puts
        ∙ elim (flows x.label o) as (λ b. flows x.label o ≡ b → play limits (visible_writes flows o (store_after limits w x)) (visible_writes flows o puts) ≡ play limits (visible_writes flows o w) (cond b (x ∷ visible_writes flows o puts) (visible_writes flows o puts))) [
          | true ↦ λ e. ap (λ v. play limits v (visible_writes flows o puts)) (store_seen w x e)
          | false ↦ λ e. ap (λ v. play limits v (visible_writes flows o puts)) (store_hidden w x e)
        ] refl

    pub all_refused_seen : (w puts : List Write) → visible_writes flows o (refused limits w puts) ≡ refused limits (visible_writes flows o w) (visible_writes flows o puts)
    all_refused_seen w [] = refl
    all_refused_seen w (x ∷ puts) =
        filter-append (λ (y : Write). flows y.label o) (refused_of limits w x) (refused limits (store_after limits w x) puts)
        ∙ ap (λ v. visible_writes flows o (refused_of limits w x) ++ v) (all_refused_seen (store_after limits w x) puts)
        ∙ elim (flows x.label o) as (λ b. flows x.label o ≡ b
        → visible_writes flows o (refused_of limits w x) ++ refused limits (visible_writes flows o (store_after limits w x)) (visible_writes flows o puts)
        ≡ refused limits (visible_writes flows o w) (cond b (x ∷ visible_writes flows o puts) (visible_writes flows o puts))) [
          | true ↦ λ e. ap (λ v. visible_writes flows o (refused_of limits w x) ++ refused limits v (visible_writes flows o puts)) (store_seen w x e)
              ∙ ap (λ r. r ++ refused limits (store_after limits (visible_writes flows o w) x) (visible_writes flows o puts)) (refused_seen w x e)
          | false ↦ λ e. ap (λ v. visible_writes flows o (refused_of limits w x) ++ refused limits v (visible_writes flows o puts)) (store_hidden w x e)
              ∙ ap (λ r. r ++ refused limits (visible_writes flows o w) (visible_writes flows o puts)) (refused_hidden w x e)
        ] refl

pub noninterfering_puts : (limits : List Limits) (flows : ℕ → ℕ → Bool) (o : ℕ) (w puts : List Write) → AreNoninterferingPuts limits flows o w puts
noninterfering_puts limits flows o w puts = record {
  store = play_seen flows o limits w puts;
  refusals = all_refused_seen flows o limits w puts;
  facets_seen = noninterfering flows o (play limits w puts) ∙ ap facets (play_seen flows o limits w puts);
}
