-- A list with one place set, as the table that it is.
use Rattle.std.proofs.Common.{◌≡◌, ℕ, ◌<◌, Bool, true, false, cond, List, length, get_or, refl, ◌∙◌, ap}
use Rattle.std.specs.Prelude.{◌==◌, ◌≢◌}
use Rattle.std.proofs.Math.ListN.{set}
use Rattle.std.proofs.lemmas.Bool.Decides.{Decides-eqb, not_from_Decides}
use Rattle.std.proofs.lemmas.List.{get_or-set_same, get_or-set_other}
use Rattle.host_rules.specs.States.{set_at}

-- by whether two numbers are equal
pub by_same : (P : Bool → Type 0) (k l : ℕ) → (k ≡ l → P true) → (k ≢ l → P false) → P (k == l)
by_same P k l same other = elim (k == l) as (λ b. (k == l) ≡ b → P b) [
  | true ↦ λ e. same ((Decides-eqb k l).0 e)
  | false ↦ λ e. other (not_from_Decides (k == l) (Decides-eqb k l) e)
] refl

-- what f makes of the members, after one place was set
pub set_place : {A B : Type 0} (f : A → B) (xs : List A) (d : A) (l k : ℕ) (v : A) → l < length xs → f (get_or (set xs l v) k d) ≡ cond (k == l) (f v) (f (get_or xs k d))
set_place f xs d l k v h = by_same (λ b. f (get_or (set xs l v) k d) ≡ cond b (f v) (f (get_or xs k d))) k l
    (λ e. ap (λ k. f (get_or (set xs l v) k d)) e ∙ ap f (get_or-set_same xs l v d h))
    (λ n. ap f (get_or-set_other xs l k v d n))

pub set_table : {A B : Type 0} (f : A → B) (xs : List A) (d : A) (l : ℕ) (v : A) → l < length xs → (λ k. f (get_or (set xs l v) k d)) ≡ set_at (λ k. f (get_or xs k d)) l (f v)
set_table f xs d l v h = λ i k. set_place f xs d l k v h i
