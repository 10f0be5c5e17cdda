-- Members of lists, and what tests over them say of each.
use Rattle.std.proofs.Common.{◌≡◌, ◌≤◌, ◌<◌, ◌+◌, ℕ, Bool, true, false, List, [], ◌∷◌, length, refl, subst, arith}
use Rattle.std.specs.Prelude.{Option, Some, None, IsTrue, cond, not, ◌&&◌, nat_lt, slice_get, zero, suc, position, find, option_and_then}
use Rattle.std.specs.List.{list_all, position_or_len}
use Rattle.std.proofs.lemmas.Bool.Decides.{nat_tests}

pub same_some : {A : Type 0} (x y : A) → Some x ≡ Some y → x ≡ y
same_some x y e = cc

pub both_true : (a b : Bool) → IsTrue (a && b) → IsTrue a × IsTrue b
both_true true true h = (refl, refl)
both_true true false h = cc
both_true false b h = cc

pub each_of : {A : Type 0} (p : A → Bool) (xs : List A) (k : ℕ) (x : A) → IsTrue (list_all p xs) → slice_get xs k ≡ Some x → IsTrue (p x)
each_of p [] k x h e = cc
each_of p (y ∷ ys) zero x h e = subst (λ z. IsTrue (p z)) (same_some y x e) (both_true (p y) (list_all p ys) h).0
each_of p (y ∷ ys) (suc k) x h e = each_of p ys k x (both_true (p y) (list_all p ys) h).1 e

head_fails : (b : Bool) (n k : ℕ) → suc n ≤ cond (not b) (1 + k) 0 → (b ≡ false) × (n ≤ k)
head_fails true n k h = absurd (omega arith)
head_fails false n k h = (refl, omega arith)

all_fail : {A : Type 0} (p : A → Bool) (xs : List A) (k : ℕ) (x : A) → length xs ≤ position_or_len p xs → slice_get xs k ≡ Some x → p x ≡ false
all_fail p [] k x h e = cc
all_fail p (y ∷ ys) zero x h e = subst (λ z. p z ≡ false) (same_some y x e) (head_fails (p y) (length ys) (position_or_len p ys) h).0
all_fail p (y ∷ ys) (suc k) x h e = all_fail p ys k x (head_fails (p y) (length ys) (position_or_len p ys) h).1 e

past_end : (b : Bool) (n k : ℕ) → nat_lt n k ≡ b → cond b (Some n) None ≡ None → k ≤ n
past_end true n k e h = cc
past_end false n k e h = grind (arith, nat_tests)

-- a test that no member passes
pub none_passes : {A : Type 0} (p : A → Bool) (xs : List A) (k : ℕ) (x : A) → position p xs ≡ None → slice_get xs k ≡ Some x → p x ≡ false
none_passes p xs k x h e = all_fail p xs k x (past_end (nat_lt (position_or_len p xs) (length xs)) (position_or_len p xs) (length xs) refl h) e

pub found : {A : Type 0} (xs : List A) (k : ℕ) → k < length xs → (a : A) × (slice_get xs k ≡ Some a)
found [] k h = absurd (omega arith)
found (x ∷ xs) zero h = (x, refl)
found (x ∷ xs) (suc k) h = found xs k (omega arith)

pub within : {A : Type 0} (xs : List A) (k : ℕ) (x : A) → slice_get xs k ≡ Some x → k < length xs
within [] k x e = cc
within (y ∷ ys) zero x e = omega arith
within (y ∷ ys) (suc k) x e = let h = within ys k x e in omega arith

pub beyond : {A : Type 0} (xs : List A) (k : ℕ) → slice_get xs k ≡ None → length xs ≤ k
beyond [] k e = omega arith
beyond (y ∷ ys) zero e = cc
beyond (y ∷ ys) (suc k) e = let h = beyond ys k e in omega arith

chosen_passes : {A : Type 0} (p : A → Bool) (y x : A) (ys : List A) (b : Bool) → p y ≡ b → cond b (Some y) (find p ys) ≡ Some x → (find p ys ≡ Some x → IsTrue (p x)) → IsTrue (p x)
chosen_passes p y x ys true q e h = subst (λ z. IsTrue (p z)) (same_some y x e) q
chosen_passes p y x ys false q e h = h e

pub find_passes : {A : Type 0} (p : A → Bool) (xs : List A) (x : A) → find p xs ≡ Some x → IsTrue (p x)
find_passes p [] x e = cc
find_passes p (y ∷ ys) x e = chosen_passes p y x ys (p y) refl e (find_passes p ys x)

pub then_some : {A B : Type 0} (f : A → Option B) (o : Option A) (b : B) → option_and_then f o ≡ Some b → (a : A) × (o ≡ Some a) × (f a ≡ Some b)
then_some f None b e = cc
then_some f (Some a) b e = (a, refl, e)
