-- A table with one place set, and what holds of both branches of a choice.
use Rattle.std.proofs.Common.{◌≡◌, ℕ, Bool, true, false, cond, refl}
use Rattle.std.specs.Prelude.{◌==◌}
use Rattle.std.proofs.lemmas.Bool.Decides.{Decides-eqb}
use Rattle.host_rules.specs.States.{set_at}

-- a table after one place is set
pub at_set : {A : Type 0} (Q : A → Type 0) (f : ℕ → A) (l : ℕ) (v : A) (k : ℕ) → (k ≡ l → Q v) → Q (f k) → Q (set_at f l v k)
at_set Q f l v k h g = elim (k == l) as (λ b. (k == l) ≡ b → Q (cond b v (f k))) [ true ↦ λ e. h ((Decides-eqb k l).0 e) | false ↦ λ e. g ] refl

-- a place that is not looked at
pub hidden_set : {A : Type 0} (f : ℕ → A) (l : ℕ) (v : A) (k : ℕ) → (k ≡ l → v ≡ f k) → set_at f l v k ≡ f k
hidden_set f l v k h = at_set (λ x. x ≡ f k) f l v k h refl

-- the same place set in two tables
pub same_set : {A : Type 0} (f g : ℕ → A) (l : ℕ) (v w : A) (k : ℕ) → (k ≡ l → v ≡ w) → f k ≡ g k → set_at f l v k ≡ set_at g l w k
same_set f g l v w k h e =
    elim (k == l) as (λ b. (k == l) ≡ b → cond b v (f k) ≡ cond b w (g k)) [ true ↦ λ t. h ((Decides-eqb k l).0 t) | false ↦ λ t. e ] refl

-- a fact of both branches
pub of_branch : {A : Type 0} (Q : A → Type 0) (b : Bool) (x y : A) → Q x → Q y → Q (cond b x y)
of_branch Q true x y h k = h
of_branch Q false x y h k = k
