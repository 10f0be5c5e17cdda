-- A module has at most one fault, and a valid one has none.
use Rattle.std.proofs.Common.{◌≡◌, ◌<◌, ◌⊎◌, inl, inr, ℕ, length, refl, sym, ap, ◌∙◌, arith}
use Rattle.std.specs.Prelude.{Option, Some, None}
use Rattle.wasm_ast.specs.declared.modules.Module.{Module}
use Rattle.wasm_ast.specs.Faults as fault
use Rattle.wasm_ast.specs.Faults.{Fault}
use Rattle.wasm_ast.specs.Validity.{early_fault, IsBodyTyped, Invalidity, Valid}
use Rattle.wasm_ast.proofs.Lists.{same_some}

-- the first body without a typing
record FirstUntyped (m : Module) (f : Fault) : Type 0 where
  pub body : ℕ
  pub is : f ≡ fault.IllTyped body
  pub early : early_fault m ≡ None
  pub inside : body < length m.bodies
  pub before : (j : ℕ) → j < body → IsBodyTyped m j
  pub here : IsBodyTyped m body → ⊥

either : (m : Module) (f : Fault) → Invalidity m f → (early_fault m ≡ Some f) ⊎ FirstUntyped m f
either m (fault.IllTyped k) h = inr (record { body = k; is = refl; early = h.0; inside = h.1; before = h.2; here = h.3 })
either m (fault.Float place) h = inl h
either m (fault.Import i) h = inl h
either m (fault.Structure n) h = inl h
either m fault.NoHandle h = inl h
either m (fault.Segment place) h = inl h

none_is_some : {A : Type 0} (o : Option A) (x : A) → o ≡ None → o ≡ Some x → ⊥
none_is_some o x e f = let clash : None ≡ Some x = sym e ∙ f in cc

least : (j k : ℕ) → (j < k) ⊎ ((j ≡ k) ⊎ (k < j))
least j k = grind arith

same_body : (m : Module) (f g : Fault) (a : FirstUntyped m f) (b : FirstUntyped m g) → f ≡ g
same_body m f g a b =
    elim (least a.body b.body) as (λ _. f ≡ g) [
      | inl less ↦ absurd (a.here (b.before a.body less))
      | inr others ↦
          elim others as (λ _. f ≡ g) [
            | inl same ↦ a.is ∙ (ap fault.IllTyped same ∙ sym b.is)
            | inr more ↦ absurd (b.here (a.before b.body more))
          ]
    ]

same_fault : (m : Module) (f g : Fault) → (early_fault m ≡ Some f) ⊎ FirstUntyped m f → (early_fault m ≡ Some g) ⊎ FirstUntyped m g → f ≡ g
same_fault m f g (inl a) (inl b) = same_some f g (sym a ∙ b)
same_fault m f g (inl a) (inr b) = absurd (none_is_some (early_fault m) f b.early a)
same_fault m f g (inr a) (inl b) = absurd (none_is_some (early_fault m) g a.early b)
same_fault m f g (inr a) (inr b) = same_body m f g a b

pub one_fault : (m : Module) (f g : Fault) → Invalidity m f → Invalidity m g → f ≡ g
one_fault m f g a b = same_fault m f g (either m f a) (either m g b)

not_both : (m : Module) (f : Fault) → Valid m → (early_fault m ≡ Some f) ⊎ FirstUntyped m f → ⊥
not_both m f valid (inl a) = none_is_some (early_fault m) f valid.early a
not_both m f valid (inr a) = a.here (valid.typed a.body a.inside)

pub no_fault : (m : Module) (f : Fault) → Valid m → Invalidity m f → ⊥
no_fault m f valid a = not_both m f valid (either m f a)
