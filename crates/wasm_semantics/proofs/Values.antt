-- Numbers of given types.
use Rattle.std.proofs.Common.{◌≡◌, ℕ, List, [], ◌∷◌, ◌++◌, length, map, take, drop, refl, sym, subst, arith, lit<}
use Rattle.std.specs.Prelude.{Some, slice_get, slice_set, reverse, zero, suc}
use Rattle.std.proofs.lemmas.List.{reverse-append}
use Rattle.wasm_ast.specs.declared.val_types.ValType.{ValType}
use Rattle.wasm_ast.specs.declared.val_types.ValType.TheVariants.{I32, I64, F32, F64}
use Rattle.wasm_semantics.specs.OfModule.{Fits, Holds}

pub holds_length : (ts : List ValType) (vs : List ℕ) → Holds ts vs → length vs ≡ length ts
holds_length [] [] h = refl
holds_length [] (v ∷ vs) h = absurd h
holds_length (t ∷ ts) [] h = absurd h
holds_length (t ∷ ts) (v ∷ vs) h = omega (arith, holds_length ts vs h.1)

pub holds_append : (ts us : List ValType) (vs ws : List ℕ) → Holds ts vs → Holds us ws → Holds (ts ++ us) (vs ++ ws)
holds_append [] us [] ws h g = g
holds_append [] us (v ∷ vs) ws h g = absurd h
holds_append (t ∷ ts) us [] ws h g = absurd h
holds_append (t ∷ ts) us (v ∷ vs) ws h g = (h.0, holds_append ts us vs ws h.1 g)

pub holds_take : (ts us : List ValType) (vs : List ℕ) → Holds (ts ++ us) vs → Holds ts (take (length ts) vs)
holds_take [] us vs h = tt
holds_take (t ∷ ts) us [] h = absurd h
holds_take (t ∷ ts) us (v ∷ vs) h = (h.0, holds_take ts us vs h.1)

pub holds_drop : (ts us : List ValType) (vs : List ℕ) → Holds (ts ++ us) vs → Holds us (drop (length ts) vs)
holds_drop [] us vs h = h
holds_drop (t ∷ ts) us [] h = absurd h
holds_drop (t ∷ ts) us (v ∷ vs) h = holds_drop ts us vs h.1

same_some : {A : Type 0} (x y : A) → Some x ≡ Some y → x ≡ y
same_some x y e = cc

pub holds_get : (ts : List ValType) (vs : List ℕ) (n : ℕ) (t : ValType) → Holds ts vs → slice_get ts n ≡ Some t → (v : ℕ) × (slice_get vs n ≡ Some v) × Fits t v
holds_get [] vs n t h e = cc
holds_get (u ∷ ts) [] n t h e = absurd h
holds_get (u ∷ ts) (v ∷ vs) zero t h e = (v, refl, subst (λ x. Fits x v) (same_some u t e) h.0)
holds_get (u ∷ ts) (v ∷ vs) (suc n) t h e = holds_get ts vs n t h.1 e

pub holds_set : (ts : List ValType) (vs : List ℕ) (n : ℕ) (t : ValType) (v : ℕ) → Holds ts vs → slice_get ts n ≡ Some t → Fits t v → Holds ts (slice_set vs n v)
holds_set [] [] n t v h e f = tt
holds_set [] (w ∷ vs) n t v h e f = absurd h
holds_set (u ∷ ts) [] n t v h e f = absurd h
holds_set (u ∷ ts) (w ∷ vs) zero t v h e f = (subst (λ x. Fits x v) (sym (same_some u t e)) f, h.1)
holds_set (u ∷ ts) (w ∷ vs) (suc n) t v h e f = (h.0, holds_set ts vs n t v h.1 e f)

pub holds_reverse : (ts : List ValType) (vs : List ℕ) → Holds ts vs → Holds (reverse ts) (reverse vs)
holds_reverse [] [] h = tt
holds_reverse [] (v ∷ vs) h = absurd h
holds_reverse (t ∷ ts) [] h = absurd h
holds_reverse (t ∷ ts) (v ∷ vs) h =
    subst (λ x. Holds x (reverse (v ∷ vs))) (sym (reverse-append (t ∷ []) ts))
    (subst (λ y. Holds (reverse ts ++ t ∷ []) y) (sym (reverse-append (v ∷ []) vs))
    (holds_append (reverse ts) (t ∷ []) (reverse vs) (v ∷ []) (holds_reverse ts vs h.1) (h.0, tt)))

fits_zero : (t : ValType) → Fits t 0
fits_zero I32 = lit< tt
fits_zero I64 = lit< tt
fits_zero F32 = lit< tt
fits_zero F64 = lit< tt

pub holds_zeros : (ts : List ValType) → Holds ts (map (λ t. 0) ts)
holds_zeros [] = tt
holds_zeros (t ∷ ts) = (fits_zero t, holds_zeros ts)
