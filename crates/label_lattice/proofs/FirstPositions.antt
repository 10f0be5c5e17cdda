-- The first position at which a test passes.
use Rattle.std.proofs.Common.{◌≡◌, ℕ, zero, suc, ◌+◌, ◌<◌, Bool, true, false, cond, List, [], ◌∷◌, Some, None, length, get_or, nat_lt, refl, ◌∙◌, ap, arith}
use Rattle.std.specs.Prelude.{not, position}
use Rattle.std.specs.List.{prefix_len}
use Rattle.std.proofs.lemmas.List.Sums.{prefix_len_passes}
use Rattle.std.proofs.lemmas.Bool.{le-ltb, lt-ltb, ltb-false}

prefix_at : {X : Type 0} (q : X → Bool) (xs : List X) (i : ℕ) (d : X) → i < length xs → q (get_or xs i d) ≡ false → ((k : ℕ) → k < i → q (get_or xs k d) ≡ true) → prefix_len q xs ≡ i
prefix_at q [] i d lt e h = absurd (omega arith)
prefix_at q (x ∷ xs) zero d lt e h = ap (λ b. cond b (1 + prefix_len q xs) 0) e
prefix_at q (x ∷ xs) (suc i) d lt e h =
    let rest = prefix_at q xs i d (omega arith) e (λ k l. h (suc k) (omega arith)) in
    let step : 1 + prefix_len q xs ≡ suc i = omega arith in
    ap (λ b. cond b (1 + prefix_len q xs) 0) (h zero (omega arith)) ∙ step

prefix_all : {X : Type 0} (q : X → Bool) (xs : List X) → ((k : ℕ) (d : X) → k < length xs → q (get_or xs k d) ≡ true) → prefix_len q xs ≡ length xs
prefix_all q [] h = refl
prefix_all q (x ∷ xs) h =
    let rest = prefix_all q xs (λ k d l. h (suc k) d (omega arith)) in
    let step : 1 + prefix_len q xs ≡ suc (length xs) = omega arith in
    ap (λ b. cond b (1 + prefix_len q xs) 0) (h zero x (omega arith)) ∙ step

pub position_here : {X : Type 0} (p : X → Bool) (xs : List X) (i : ℕ) (d : X) → i < length xs → p (get_or xs i d) ≡ true → ((k : ℕ) → k < i → p (get_or xs k d) ≡ false) → position p xs ≡ Some i
position_here p xs i d lt e h =
    ap (λ n. cond (nat_lt n (length xs)) (Some n) None) (prefix_at (λ x. not (p x)) xs i d lt (ap not e) (λ k l. ap not (h k l)))
    ∙ ap (λ b. cond b (Some i) None) (lt-ltb i (length xs) lt)

pub position_none : {X : Type 0} (p : X → Bool) (xs : List X) → ((k : ℕ) (d : X) → k < length xs → p (get_or xs k d) ≡ false) → position p xs ≡ None
position_none p xs h =
    ap (λ n. cond (nat_lt n (length xs)) (Some n) None) (prefix_all (λ x. not (p x)) xs (λ k d l. ap not (h k d l)))
    ∙ ap (λ b. cond b (Some (length xs)) None) (le-ltb (length xs) (length xs) (omega arith))

not_true : (t : Bool) → not t ≡ true → t ≡ false
not_true true e = cc
not_true false e = refl

some_cond : (b : Bool) (n : ℕ) → cond b (Some n) None ≡ None → b ≡ false
some_cond true n e = cc
some_cond false n e = refl

pub none_passes : {X : Type 0} (p : X → Bool) (xs : List X) → position p xs ≡ None → (k : ℕ) (d : X) → k < length xs → p (get_or xs k d) ≡ false
none_passes p xs e k d lt =
    let past = ltb-false (prefix_len (λ x. not (p x)) xs) (length xs) (some_cond (nat_lt (prefix_len (λ x. not (p x)) xs) (length xs)) (prefix_len (λ x. not (p x)) xs) e) in
    not_true (p (get_or xs k d)) (prefix_len_passes (λ x. not (p x)) xs k d (omega arith))
