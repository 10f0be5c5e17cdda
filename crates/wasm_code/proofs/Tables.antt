-- Tables that agree on all bytes.
use Rattle.std.proofs.Common.{◌≡◌, ℕ, zero, suc, ◌<◌, Bool, true, false, refl, sym, ap, ◌∙◌, arith}
use Rattle.std.specs.Prelude.{cond, nat_eq}
use Rattle.std.proofs.lemmas.Bool.{eqb-true, eqb-false}

-- two truth values are one
abbrev same : Bool → Bool → Bool
same true b = b
same false true = false
same false false = true

same_is : (a b : Bool) → same a b ≡ true → a ≡ b
same_is true b e = sym e
same_is false true e = absurd cc
same_is false false e = refl

-- so for all numbers below n
abbrev all_below : (ℕ → Bool) → ℕ → Bool
all_below f zero = true
all_below f (suc n) = cond (f n) (all_below f n) false

both : (a b : Bool) → cond a b false ≡ true → (a ≡ true) × (b ≡ true)
both true b e = (refl, e)
both false b e = absurd cc

at_by : (f : ℕ → Bool) (n k : ℕ) (t : Bool) → nat_eq k n ≡ t → f n ≡ true → (k < n → f k ≡ true) → k < suc n → f k ≡ true
at_by f n k true h a b l = ap f (eqb-true k n h) ∙ a
at_by f n k false h a b l = b (omega (arith, eqb-false k n h))

at : (f : ℕ → Bool) (n : ℕ) → all_below f n ≡ true → (k : ℕ) → k < n → f k ≡ true
at f zero e k l = absurd (omega arith)
at f (suc n) e k l = let b = both (f n) (all_below f n) e in at_by f n k (nat_eq k n) refl b.0 (at f n b.1 k) l

-- two tests that agree on each byte
pub on_bytes : (f g : ℕ → Bool) → all_below (λ k. same (f k) (g k)) 256 ≡ true → (k : ℕ) → k < 256 → f k ≡ g k
on_bytes f g e k l = same_is (f k) (g k) (at (λ k. same (f k) (g k)) 256 e k l)
