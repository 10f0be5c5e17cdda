-- Bytes that are set one after another.
use Rattle.std.proofs.Common.{◌≡◌, ◌+◌, ◌≤◌, ℕ, List, [], ◌∷◌, ◌++◌, length, take, drop, ap, ◌∙◌, arith, append_assoc}
use Rattle.std.specs.Prelude.{suc}
use Rattle.std.proofs.Math.ListN.{set}
use Rattle.std.proofs.Math.Seq.{sets}
use Rattle.std.proofs.lemmas.List.Edits.{sets-eq}

-- each further place is the one behind
one : (at : ℕ) → at + 1 ≡ suc at
one at = omega arith

two : (at : ℕ) → at + 2 ≡ suc (suc at)
two at = omega arith

three : (at : ℕ) → at + 3 ≡ suc (suc (suc at))
three at = omega arith

laid : (m ys : List ℕ) (at : ℕ) → at + length ys ≤ length m → sets m at ys ≡ take at m ++ (ys ++ drop (at + length ys) m)
laid m ys at le = sets-eq ys m at le ∙ append_assoc (take at m) ys (drop (at + length ys) m)

pub four : (m : List ℕ) (at a b c d : ℕ) → at + 4 ≤ length m → set (set (set (set m at a) (at + 1) b) (at + 2) c) (at + 3) d ≡ take at m ++ ((a ∷ b ∷ c ∷ d ∷ []) ++ drop (at + 4) m)
four m at a b c d le =
    ap (λ k. set (set (set (set m at a) k b) (at + 2) c) (at + 3) d) (one at)
    ∙ (ap (λ k. set (set (set (set m at a) (suc at) b) k c) (at + 3) d) (two at)
    ∙ (ap (λ k. set (set (set (set m at a) (suc at) b) (suc (suc at)) c) k d) (three at)
    ∙ laid m (a ∷ b ∷ c ∷ d ∷ []) at le))

-- four bytes set from each place on
abbrev four_set : List ℕ → ℕ → ℕ → ℕ → ℕ → ℕ → ℕ → ℕ → ℕ → List ℕ
four_set m i j k l a b c d = set (set (set (set m i a) j b) k c) l d

pub eight : (m : List ℕ) (at a b c d e f g h : ℕ) → at + 8 ≤ length m
    → four_set (four_set m at (at + 1) (at + 2) (at + 3) a b c d) (at + 4) (at + 5) (at + 6) (at + 7) e f g h ≡ take at m ++ ((a ∷ b ∷ c ∷ d ∷ e ∷ f ∷ g ∷ h ∷ []) ++ drop (at + 8) m)
eight m at a b c d e f g h le =
    let p4 : at + 4 ≡ suc (suc (suc (suc at))) = omega arith in
    let p5 : at + 5 ≡ suc (suc (suc (suc (suc at)))) = omega arith in
    let p6 : at + 6 ≡ suc (suc (suc (suc (suc (suc at))))) = omega arith in
    let p7 : at + 7 ≡ suc (suc (suc (suc (suc (suc (suc at)))))) = omega arith in
    ap (λ k. four_set (four_set m at k (at + 2) (at + 3) a b c d) (at + 4) (at + 5) (at + 6) (at + 7) e f g h) (one at)
    ∙ (ap (λ k. four_set (four_set m at (suc at) k (at + 3) a b c d) (at + 4) (at + 5) (at + 6) (at + 7) e f g h) (two at)
    ∙ (ap (λ k. four_set (four_set m at (suc at) (suc (suc at)) k a b c d) (at + 4) (at + 5) (at + 6) (at + 7) e f g h) (three at)
    ∙ (ap (λ k. four_set (four_set m at (suc at) (suc (suc at)) (suc (suc (suc at))) a b c d) k (at + 5) (at + 6) (at + 7) e f g h) p4
    ∙ (ap (λ k. four_set (four_set m at (suc at) (suc (suc at)) (suc (suc (suc at))) a b c d) (suc (suc (suc (suc at)))) k (at + 6) (at + 7) e f g h) p5
    ∙ (ap (λ k. four_set (four_set m at (suc at) (suc (suc at)) (suc (suc (suc at))) a b c d) (suc (suc (suc (suc at)))) (suc (suc (suc (suc (suc at))))) k (at + 7) e f g h) p6
    ∙ (ap (λ k. four_set (four_set m at (suc at) (suc (suc at)) (suc (suc (suc at))) a b c d) (suc (suc (suc (suc at)))) (suc (suc (suc (suc (suc at))))) (suc (suc (suc (suc (suc (suc at)))))) k e f g h) p7
    ∙ laid m (a ∷ b ∷ c ∷ d ∷ e ∷ f ∷ g ∷ h ∷ []) at le))))))
