-- Paths over lists of pairs, and the test of the order.
use Rattle.std.proofs.Common.{◌≡◌, ℕ, ◌<◌, Bool, true, false, List, [], ◌∷◌, ◌++◌, refl, sym, ◌∙◌, ap, subst, arith, ◌⊎◌, inl, inr, append_assoc}
use Rattle.std.specs.Prelude.{Contains, ◌↔◌, ◌==◌, ◌||◌, ◌&&◌, fold}
use Rattle.std.proofs.lemmas.List.{append-nil}
use Rattle.std.proofs.lemmas.List.Elements.{Contains-push_cases, Contains-append_left, Contains-push}
use Rattle.std.proofs.lemmas.Bool.Decides.{Decides-eqb}
use Rattle.label_lattice.specs.Reach.{IsPath, Reaches, with_pair, IsExactTest}

pub Reaches-here : (ps : List (ℕ × ℕ)) (a : ℕ) → Reaches ps a a
Reaches-here ps a = ([], refl)

pub Reaches-step : (ps : List (ℕ × ℕ)) (p : ℕ × ℕ) (a b : ℕ) → Contains ps p → p.0 ≡ a → Reaches ps p.1 b → Reaches ps a b
Reaches-step ps p a b there from (steps, path) = (p ∷ steps, (there, from, path))

-- paths join
path_joined : (ps steps : List (ℕ × ℕ)) (a b c : ℕ) → IsPath ps steps a b → Reaches ps b c → Reaches ps a c
path_joined ps [] a b c path rest = subst (λ (x : ℕ). Reaches ps x c) (sym path) rest
path_joined ps (s ∷ steps) a b c path rest = Reaches-step ps s a c path.0 path.1 (path_joined ps steps s.1 b c path.2 rest)

pub Reaches-trans : (ps : List (ℕ × ℕ)) (a b c : ℕ) → Reaches ps a b → Reaches ps b c → Reaches ps a c
Reaches-trans ps a b c (steps, path) rest = path_joined ps steps a b c path rest

-- a path stays one with more pairs
path_kept : (ps : List (ℕ × ℕ)) (p : ℕ × ℕ) (steps : List (ℕ × ℕ)) (a b : ℕ) → IsPath ps steps a b → IsPath (ps ++ p ∷ []) steps a b
path_kept ps p [] a b path = path
path_kept ps p (s ∷ steps) a b path = (Contains-append_left ps (p ∷ []) s path.0, path.1, path_kept ps p steps s.1 b path.2)

pub Reaches-push_old : (ps : List (ℕ × ℕ)) (p : ℕ × ℕ) (a b : ℕ) → Reaches ps a b → Reaches (ps ++ p ∷ []) a b
Reaches-push_old ps p a b (steps, path) = (steps, path_kept ps p steps a b path)

pub Reaches-push_new : (ps : List (ℕ × ℕ)) (p : ℕ × ℕ) (a b : ℕ) → Reaches ps a p.0 → Reaches ps p.1 b → Reaches (ps ++ p ∷ []) a b
Reaches-push_new ps p a b to from = Reaches-trans (ps ++ p ∷ []) a p.0 b (Reaches-push_old ps p a p.0 to) (Reaches-step (ps ++ p ∷ []) p p.0 b (Contains-push ps p) refl (Reaches-push_old ps p p.1 b from))

-- a path over the longer list goes by the new pair or not
path_cases : (ps : List (ℕ × ℕ)) (p : ℕ × ℕ) (steps : List (ℕ × ℕ)) (a b : ℕ) → IsPath (ps ++ p ∷ []) steps a b → Reaches ps a b ⊎ (Reaches ps a p.0 × Reaches ps p.1 b)
path_cases ps p [] a b path = inl ([], path)
path_cases ps p (s ∷ steps) a b path =
    elim (Contains-push_cases ps p s path.0) [
      | inl old ↦ elim (path_cases ps p steps s.1 b path.2) [
        | inl rest ↦ inl (Reaches-step ps s a b old path.1 rest)
        | inr rest ↦ inr (Reaches-step ps s a p.0 old path.1 rest.0, rest.1)
      ]
      | inr same ↦ let here : a ≡ p.0 = sym path.1 ∙ ap (λ (q : ℕ × ℕ). q.0) (sym same) in
          elim (path_cases ps p steps s.1 b path.2) [
            | inl rest ↦ inr (([], here), subst (λ (q : ℕ × ℕ). Reaches ps q.1 b) (sym same) rest)
            | inr rest ↦ inr (([], here), rest.1)
          ]
    ]

pub Reaches-push_cases : (ps : List (ℕ × ℕ)) (p : ℕ × ℕ) (a b : ℕ) → Reaches (ps ++ p ∷ []) a b → Reaches ps a b ⊎ (Reaches ps a p.0 × Reaches ps p.1 b)
Reaches-push_cases ps p a b (steps, path) = path_cases ps p steps a b path

-- with no pairs a label reaches itself alone
pub Reaches-none : (a b : ℕ) → Reaches [] a b → a ≡ b
Reaches-none a b ([], path) = path
Reaches-none a b (s ∷ steps, path) = absurd (let k = path.0 in omega arith)

or_cases : (x y z : Bool) → (x || (y && z)) ≡ true → (x ≡ true) ⊎ ((y ≡ true) × (z ≡ true))
or_cases true y z h = inl refl
or_cases false true true h = inr (refl, refl)
or_cases false true false h = cc
or_cases false false z h = cc

or_left : (x y z : Bool) → x ≡ true → (x || (y && z)) ≡ true
or_left true y z h = refl
or_left false y z h = cc

or_right : (x y z : Bool) → y ≡ true → z ≡ true → (x || (y && z)) ≡ true
or_right true y z g h = refl
or_right false true true g h = refl
or_right false true false g h = cc
or_right false false z g h = cc

-- f is the test of the pairs so far
exact_from : (rest done : List (ℕ × ℕ)) (f : ℕ → ℕ → Bool) → ((a b : ℕ) → (f a b ≡ true) ↔ Reaches done a b) → (a b : ℕ) → (fold with_pair f rest a b ≡ true) ↔ Reaches (done ++ rest) a b
exact_from [] done f h a b = rw append-nil (h a b)
exact_from (p ∷ rest) done f h a b = subst (λ (ps : List (ℕ × ℕ)). (fold with_pair (with_pair f p) rest a b ≡ true) ↔ Reaches ps a b) (append_assoc done (p ∷ []) rest)
    (exact_from rest (done ++ p ∷ []) (with_pair f p) (λ a b. (
      λ e. elim (or_cases (f a b) (f a p.0) (f p.1 b) e) [ inl o ↦ Reaches-push_old done p a b ((h a b).0 o) | inr t ↦ Reaches-push_new done p a b ((h a p.0).0 t.0) ((h p.1 b).0 t.1) ],
      λ r. elim (Reaches-push_cases done p a b r) [ inl o ↦ or_left (f a b) (f a p.0) (f p.1 b) ((h a b).1 o) | inr t ↦ or_right (f a b) (f a p.0) (f p.1 b) ((h a p.0).1 t.0) ((h p.1 b).1 t.1) ],
    )) a b)

pub exact_test : IsExactTest
exact_test pairs a b = exact_from pairs [] (λ a b. a == b) (λ a b. (λ e. ([], (Decides-eqb a b).0 e), λ r. (Decides-eqb a b).1 (Reaches-none a b r))) a b

-- where the pairs are of numbers below n, so are the ends of each path that has a step
pub Reaches-within : (n : ℕ) (ps : List (ℕ × ℕ)) → ((p : ℕ × ℕ) → Contains ps p → (p.0 < n) × (p.1 < n)) → (a b : ℕ) → Reaches ps a b → (a ≡ b) ⊎ ((a < n) × (b < n))
Reaches-within n ps within a b ([], path) = inl path
Reaches-within n ps within a b (s ∷ steps, path) =
    let first = within s path.0 in
    elim (Reaches-within n ps within s.1 b (steps, path.2)) [
      | inl same ↦ inr (subst (λ (x : ℕ). x < n) path.1 first.0, subst (λ (x : ℕ). x < n) same first.1)
      | inr both ↦ inr (subst (λ (x : ℕ). x < n) path.1 first.0, both.1)
    ]
