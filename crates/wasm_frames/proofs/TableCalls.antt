-- A call through the table.
use Rattle.std.proofs.Common.{◌≡◌, ℕ, true, false, List, sym, ap, ◌∙◌}
use Rattle.std.specs.Prelude.{Option, Some, if◌then◌else◌}
use Rattle.wasm_ast.specs.declared.func_types.FuncType.{FuncType}
use Rattle.wasm_ast.specs.declared.modules.Module.{Module}
use Rattle.wasm_ast.specs.Spaces.{type_of}
use Rattle.wasm_ast.specs.Hosts.{same_type}
use Rattle.wasm_semantics.specs.declared.traps.Trap.TheVariants as trap
use Rattle.wasm_semantics.specs.Data.{with_some}
use Rattle.wasm_semantics.specs.Threads.{Trapped, Stuck}
use Rattle.wasm_semantics.specs.Control.{Spot, call, indirect}

same_some : {A : Type 0} (x y : A) → Some x ≡ Some y → x ≡ y
same_some x y e = cc

pub some_same : {A : Type 0} (o : Option A) (x y : A) → o ≡ Some x → o ≡ Some y → x ≡ y
some_same o x y e e' = same_some x y (sym e ∙ e')

through : (m : Module) (ft found : FuncType) (p : Spot) (vs : List ℕ) (x : ℕ) (o : Option (Option ℕ)) → o ≡ Some (Some x) → type_of m x ≡ Some found
    → indirect m ft p vs o ≡ (if same_type found ft then call m x p vs else Trapped trap.TypeDiffers)
through m ft found p vs x o e e' =
    ap (indirect m ft p vs) e ∙ ap (λ t. with_some Stuck t (λ found. if same_type found ft then call m x p vs else Trapped trap.TypeDiffers)) e'

pub through_same : (m : Module) (ft found : FuncType) (p : Spot) (vs : List ℕ) (x : ℕ) (o : Option (Option ℕ)) → o ≡ Some (Some x) → type_of m x ≡ Some found → same_type found ft ≡ true
    → indirect m ft p vs o ≡ call m x p vs
through_same m ft found p vs x o e e' t = through m ft found p vs x o e e' ∙ ap (λ b. if b then call m x p vs else Trapped trap.TypeDiffers) t

pub through_differs : (m : Module) (ft found : FuncType) (p : Spot) (vs : List ℕ) (x : ℕ) (o : Option (Option ℕ)) → o ≡ Some (Some x) → type_of m x ≡ Some found → same_type found ft ≡ false
    → indirect m ft p vs o ≡ Trapped trap.TypeDiffers
through_differs m ft found p vs x o e e' t = through m ft found p vs x o e e' ∙ ap (λ b. if b then call m x p vs else Trapped trap.TypeDiffers) t
