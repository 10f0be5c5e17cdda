-- Steps that say one thing, in turn.
use Rattle.std.proofs.Common.{◌≡◌, ℕ, ◌⊎◌, Result, Ok, Err, inl, inr, refl, sym, ap, subst, ◌∙◌}
use Rattle.trapeze_io.specs.Seen.{Held}
use Rattle.file_calls.specs.declared.error.FileError.{FileError}
use Rattle.file_calls.specs.Sources.{Source}
use Rattle.file_calls.specs.Steps.{Step, and_then, no_file, one_file, IsSingle}

pub one_of_file : {R : Type 0} (place : ℕ) (source : Source) → IsSingle {R = R} (one_file place source)
one_of_file place source held a b p q = sym p ∙ q

pub one_given : {X R : Type 0} (given : Result X (FileError R)) → IsSingle (no_file (λ r. given ≡ r))
one_given given held a b p q = sym p ∙ q

module _ {X Y R : Type 0} (first : Step X R) (next : X → Step Y R) (one : IsSingle first) (each : (x : X) → IsSingle (next x)) where
  ok_one : (held : Held) (x y : X) → first.says held (Ok x) → first.says held (Ok y) → x ≡ y
  ok_one held x y p q = let e = one held (Ok x) (Ok y) p q in cc

  never : {P : Type 0} (held : Held) (x : X) (e : FileError R) → first.says held (Ok x) → first.says held (Err e) → P
  never held x e p q = absurd (let k = one held (Ok x) (Err e) p q in cc)

  after : (held : Held) (x y : X) (a b : Result Y (FileError R)) → first.says held (Ok x) → first.says held (Ok y) → (next x).says held a → (next y).says held b → a ≡ b
  after held x y a b p q k l = each x held a b k (subst (λ z. (next z).says held b) (sym (ok_one held x y p q)) l)

  pub one_in_turn : IsSingle (and_then first next)
  one_in_turn held (Ok a) (Ok b) (x, p, k) (y, q, l) = after held x y (Ok a) (Ok b) p q k l
  one_in_turn held (Ok a) (Err e) (x, p, k) (inl q) = never held x e p q
  one_in_turn held (Ok a) (Err e) (x, p, k) (inr (y, q, l)) = after held x y (Ok a) (Err e) p q k l
  one_in_turn held (Err e) (Ok b) (inl p) (y, q, l) = never held y e q p
  one_in_turn held (Err e) (Ok b) (inr (x, p, k)) (y, q, l) = after held x y (Err e) (Ok b) p q k l
  one_in_turn held (Err e) (Err f) (inl p) (inl q) = let same : e ≡ f = let k = one held (Err e) (Err f) p q in cc in ap Err same
  one_in_turn held (Err e) (Err f) (inl p) (inr (y, q, l)) = never held y e q p
  one_in_turn held (Err e) (Err f) (inr (x, p, k)) (inl q) = never held x f p q
  one_in_turn held (Err e) (Err f) (inr (x, p, k)) (inr (y, q, l)) = after held x y (Err e) (Err f) p q k l
