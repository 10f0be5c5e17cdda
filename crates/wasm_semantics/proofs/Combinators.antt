-- What each combinator needs, whatever is to be shown of its result.
use Rattle.std.proofs.Common.{◌≡◌, ◌≤◌, ℕ, Bool, true, false, List, [], ◌∷◌, ◌++◌, length, take, drop, refl, sym, subst, arith, length-append}
use Rattle.std.specs.Prelude.{Option, Some, IsTrue, nat_lt, nat_le, if◌then◌else◌}
use Rattle.std.proofs.lemmas.Bool.Decides.{nat_tests}
use Rattle.wasm_ast.specs.declared.val_types.ValType.{ValType}
use Rattle.wasm_semantics.specs.Data.{with_top, with_some, split}
use Rattle.wasm_semantics.specs.OfModule.{Fits, Holds}
use Rattle.wasm_semantics.proofs.Values.{holds_length, holds_take, holds_drop}

pub top_rule : {R : Type 0} (P : R → Type 0) (bad : R) (t : ValType) (ts : List ValType) (values : List ℕ) (go : ℕ → List ℕ → R) → Holds (t ∷ ts) values
    → ((v : ℕ) (vs : List ℕ) → Fits t v → Holds ts vs → P (go v vs)) → P (with_top bad values go)
top_rule P bad t ts [] go h k = absurd h
top_rule P bad t ts (v ∷ vs) go h k = k v vs h.0 h.1

pub some_rule : {R A : Type 0} (P : R → Type 0) (bad : R) (o : Option A) (a : A) (go : A → R) → o ≡ Some a → P (go a) → P (with_some bad o go)
some_rule P bad o a go e s = subst (λ z. P (with_some bad z go)) (sym e) s

pub if_rule : {R : Type 0} (P : R → Type 0) (b : Bool) (x y : R) → (IsTrue b → P x) → ((IsTrue b → ⊥) → P y) → P (if b then x else y)
if_rule P true x y p q = p refl
if_rule P false x y p q = q (λ e. let clash : false ≡ true = e in cc)

less : (a b : ℕ) → IsTrue (nat_lt a b) → b ≤ a → ⊥
less a b h l = grind (arith, nat_tests)

pub at_most : (a b : ℕ) → IsTrue (nat_le a b) → a ≤ b
at_most a b h = grind (arith, nat_tests)

pub split_rule : {R : Type 0} (P : R → Type 0) (bad : R) (n : ℕ) (ts us : List ValType) (values : List ℕ) (go : List ℕ → List ℕ → R) → Holds (ts ++ us) values → n ≡ length ts
    → ((kept below : List ℕ) → Holds ts kept → Holds us below → P (go kept below)) → P (split bad n values go)
split_rule P bad n ts us values go h e k =
    let long : n ≤ length values = omega (arith, holds_length (ts ++ us) values h, length-append ts us) in
    if_rule P (nat_lt (length values) n) bad (go (take n values) (drop n values)) (λ b. absurd (less (length values) n b long))
    (λ b. k (take n values) (drop n values) (subst (λ j. Holds ts (take j values)) (sym e) (holds_take ts us values h)) (subst (λ j. Holds us (drop j values)) (sym e) (holds_drop ts us values h)))

pub at_least : (a b : ℕ) → (IsTrue (nat_lt a b) → ⊥) → b ≤ a
at_least a b h = grind (arith, nat_tests)
