-- Which instructions move data, and which no module has.
use Rattle.std.proofs.Common.{◌≡◌, ℕ, ◌∙◌, sym, ap, subst, inl, inr}
use Rattle.std.specs.Prelude.{◌⊎◌}
use Rattle.wasm_ast.specs.declared.trees.Instr.{Instr}
use Rattle.wasm_ast.specs.declared.trees.Instr.TheVariants as V
use Rattle.wasm_ast.specs.declared.modules.Module.{Module}
use Rattle.wasm_ast.specs.Trees.{Layer, layer, layer_nop, layer_drop, layer_select, layer_local_get, layer_local_set, layer_local_tee, layer_global_get, layer_global_set, layer_load, layer_store, layer_memory_size, layer_memory_grow, layer_memory_copy, layer_memory_fill, layer_i32_const, layer_i64_const, layer_num, layer_float_memory, layer_f32_const, layer_f64_const, layer_float_op}
use Rattle.wasm_semantics.specs.Threads.{Stuck}
use Rattle.wasm_semantics.specs.Control.{Spot}
use Rattle.wasm_semantics.specs.Units.{act}
use Rattle.wasm_units.proofs.DataUnits.{IsData}

pub is_data : (i : Instr) → (((i ≡ V.Nop)) ⊎ (((i ≡ V.Drop)) ⊎ (((i ≡ V.Select)) ⊎ (((x : ℕ) × (i ≡ V.LocalGet x)) ⊎ (((x : ℕ) × (i ≡ V.LocalSet x)) ⊎ (((x : ℕ) × (i ≡ V.LocalTee x)) ⊎ (((x : ℕ) × (i ≡ V.GlobalGet x)) ⊎ (((x : ℕ) × (i ≡ V.GlobalSet x)) ⊎ (((x : ℕ) × (y : ℕ) × (z : ℕ) × (i ≡ V.Load x y z)) ⊎ (((x : ℕ) × (y : ℕ) × (z : ℕ) × (i ≡ V.Store x y z)) ⊎ (((i ≡ V.MemorySize)) ⊎ (((i ≡ V.MemoryGrow)) ⊎ (((i ≡ V.MemoryCopy)) ⊎ (((i ≡ V.MemoryFill)) ⊎ (((x : ℕ) × (i ≡ V.I32Const x)) ⊎ (((x : ℕ) × (i ≡ V.I64Const x)) ⊎ ((x : ℕ) × (i ≡ V.Num x)))))))))))))))))) → IsData (layer i)
is_data i (inl h) = let P : Layer → Type 0 = λ y. IsData y in subst P (sym (ap layer h ∙ layer_nop)) tt
is_data i (inr (inl h)) = let P : Layer → Type 0 = λ y. IsData y in subst P (sym (ap layer h ∙ layer_drop)) tt
is_data i (inr (inr (inl h))) = let P : Layer → Type 0 = λ y. IsData y in subst P (sym (ap layer h ∙ layer_select)) tt
is_data i (inr (inr (inr (inl h)))) = let P : Layer → Type 0 = λ y. IsData y in subst P (sym (ap layer h.1 ∙ layer_local_get h.0)) tt
is_data i (inr (inr (inr (inr (inl h))))) = let P : Layer → Type 0 = λ y. IsData y in subst P (sym (ap layer h.1 ∙ layer_local_set h.0)) tt
is_data i (inr (inr (inr (inr (inr (inl h)))))) = let P : Layer → Type 0 = λ y. IsData y in subst P (sym (ap layer h.1 ∙ layer_local_tee h.0)) tt
is_data i (inr (inr (inr (inr (inr (inr (inl h))))))) = let P : Layer → Type 0 = λ y. IsData y in subst P (sym (ap layer h.1 ∙ layer_global_get h.0)) tt
is_data i (inr (inr (inr (inr (inr (inr (inr (inl h)))))))) = let P : Layer → Type 0 = λ y. IsData y in subst P (sym (ap layer h.1 ∙ layer_global_set h.0)) tt
is_data i (inr (inr (inr (inr (inr (inr (inr (inr (inl h))))))))) = let P : Layer → Type 0 = λ y. IsData y in subst P (sym (ap layer h.3 ∙ layer_load h.0 h.1 h.2)) tt
is_data i (inr (inr (inr (inr (inr (inr (inr (inr (inr (inl h)))))))))) = let P : Layer → Type 0 = λ y. IsData y in subst P (sym (ap layer h.3 ∙ layer_store h.0 h.1 h.2)) tt
is_data i (inr (inr (inr (inr (inr (inr (inr (inr (inr (inr (inl h))))))))))) = let P : Layer → Type 0 = λ y. IsData y in subst P (sym (ap layer h ∙ layer_memory_size)) tt
is_data i (inr (inr (inr (inr (inr (inr (inr (inr (inr (inr (inr (inl h)))))))))))) = let P : Layer → Type 0 = λ y. IsData y in subst P (sym (ap layer h ∙ layer_memory_grow)) tt
is_data i (inr (inr (inr (inr (inr (inr (inr (inr (inr (inr (inr (inr (inl h))))))))))))) = let P : Layer → Type 0 = λ y. IsData y in subst P (sym (ap layer h ∙ layer_memory_copy)) tt
is_data i (inr (inr (inr (inr (inr (inr (inr (inr (inr (inr (inr (inr (inr (inl h)))))))))))))) = let P : Layer → Type 0 = λ y. IsData y in subst P (sym (ap layer h ∙ layer_memory_fill)) tt
is_data i (inr (inr (inr (inr (inr (inr (inr (inr (inr (inr (inr (inr (inr (inr (inl h))))))))))))))) = let P : Layer → Type 0 = λ y. IsData y in subst P (sym (ap layer h.1 ∙ layer_i32_const h.0)) tt
is_data i (inr (inr (inr (inr (inr (inr (inr (inr (inr (inr (inr (inr (inr (inr (inr (inl h)))))))))))))))) = let P : Layer → Type 0 = λ y. IsData y in subst P (sym (ap layer h.1 ∙ layer_i64_const h.0)) tt
is_data i (inr (inr (inr (inr (inr (inr (inr (inr (inr (inr (inr (inr (inr (inr (inr (inr h)))))))))))))))) = let P : Layer → Type 0 = λ y. IsData y in subst P (sym (ap layer h.1 ∙ layer_num h.0)) tt

-- instructions on floats have no rule
pub no_rule : (m : Module) (pages : ℕ) (i : Instr) (p : Spot) → (((x : ℕ) × (y : ℕ) × (z : ℕ) × (i ≡ V.FloatMemory x y z)) ⊎ (((x : ℕ) × (i ≡ V.F32Const x)) ⊎ (((x : ℕ) × (i ≡ V.F64Const x)) ⊎ ((x : ℕ) × (i ≡ V.FloatOp x))))) → act m pages i (layer i) p ≡ Stuck
no_rule m pages i p (inl h) = ap (λ y. act m pages i y p) (ap layer h.3 ∙ layer_float_memory h.0 h.1 h.2)
no_rule m pages i p (inr (inl h)) = ap (λ y. act m pages i y p) (ap layer h.1 ∙ layer_f32_const h.0)
no_rule m pages i p (inr (inr (inl h))) = ap (λ y. act m pages i y p) (ap layer h.1 ∙ layer_f64_const h.0)
no_rule m pages i p (inr (inr (inr h))) = ap (λ y. act m pages i y p) (ap layer h.1 ∙ layer_float_op h.0)
