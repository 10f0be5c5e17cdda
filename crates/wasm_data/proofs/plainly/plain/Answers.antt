use Rattle.std.proofs.Common.{◌≡◌, ◌∙◌, ℕ, List, ap, subst, refl, inl, inr}
use Rattle.std.specs.Prelude.{Option, ◌⊎◌}
use Rattle.wasm_ast.specs.declared.val_types.ValType.{ValType}
use Rattle.wasm_ast.specs.declared.trees.Seq.{Seq}
use Rattle.wasm_ast.specs.declared.trees.Instr.{Instr}
use Rattle.wasm_ast.specs.declared.trees.Instr.TheVariants as V
use Rattle.wasm_ast.specs.declared.trees.Instr.TheOpen.{Instr-F}
use Rattle.wasm_ast.specs.Trees.{Layer, layer, layer_unreachable, layer_nop, layer_block, layer_loop, layer_if, layer_br, layer_br_if, layer_br_table, layer_return, layer_call, layer_call_indirect, layer_drop, layer_select, layer_local_get, layer_local_set, layer_local_tee, layer_global_get, layer_global_set, layer_load, layer_store, layer_memory_size, layer_memory_grow, layer_memory_copy, layer_memory_fill, layer_i32_const, layer_i64_const, layer_num, layer_float_memory, layer_f32_const, layer_f64_const, layer_float_op}
use Rattle.wasm_data.specs.declared.moved.Moved.TheVariants as moved
use Rattle.wasm_data.specs.Marked.{operands_in}
use Rattle.wasm_data.specs.Rules.{IsPlain}
use Rattle.wasm_data.proofs.OnTop.{has_operands}
use Rattle.wasm_data.proofs.Rules.{rule_at, carried, carried_globals, drop_needs, select_needs, local_get_needs, local_set_needs, local_tee_needs, global_get_needs, global_set_needs, number_needs}
use Rattle.wasm_data.proofs.plainly.plain.Goals as goal

pub returns-in-Nop : goal.returns-in-Nop
returns-in-Nop c = carried c.args.instr.now Instr-F.Nop c.args.globals.now c.args.values.now c.args.values.now c.args.marks (moved.Goes c.args.marks.sp) (ap layer c.in-Nop.is ∙ layer_nop) (λ m pages memory globals. record { is = refl; within = c.requires.within; deep = refl })

pub discard-requires-clause-some : goal.discard-requires-clause-some
discard-requires-clause-some c = drop_needs c.args.globals.now c.args.values.now c.args.marks c.requires.within (rule_at c.args.instr.now Instr-F.Drop c.args.globals.now c.args.values.now c.args.marks (ap layer c.in-Drop.is ∙ layer_drop) c.requires.ruled)

pub returns-in-Drop : goal.returns-in-Drop
returns-in-Drop c = carried c.args.instr.now Instr-F.Drop c.args.globals.now c.args.values.now c.discard.new.values c.args.marks c.discard.result (ap layer c.in-Drop.is ∙ layer_drop) c.discard.ensures

pub select-requires-clause-three : goal.select-requires-clause-three
select-requires-clause-three c = select_needs c.args.globals.now c.args.values.now c.args.marks c.requires.within (rule_at c.args.instr.now Instr-F.Select c.args.globals.now c.args.values.now c.args.marks (ap layer c.in-Select.is ∙ layer_select) c.requires.ruled)

pub returns-in-Select : goal.returns-in-Select
returns-in-Select c = carried c.args.instr.now Instr-F.Select c.args.globals.now c.args.values.now c.select.new.values c.args.marks c.select.result (ap layer c.in-Select.is ∙ layer_select) c.select.ensures

pub local_get-requires-clause-there : goal.local_get-requires-clause-there
local_get-requires-clause-there c = local_get_needs c.in-LocalGet.index c.args.globals.now c.args.values.now c.args.marks c.requires.within (rule_at c.args.instr.now (Instr-F.LocalGet c.in-LocalGet.index) c.args.globals.now c.args.values.now c.args.marks (ap layer c.in-LocalGet.is ∙ layer_local_get c.in-LocalGet.index) c.requires.ruled)

pub returns-in-LocalGet : goal.returns-in-LocalGet
returns-in-LocalGet c = carried c.args.instr.now (Instr-F.LocalGet c.in-LocalGet.index) c.args.globals.now c.args.values.now c.local_get.new.values c.args.marks c.local_get.result (ap layer c.in-LocalGet.is ∙ layer_local_get c.in-LocalGet.index) c.local_get.ensures

pub local_set-requires-clause-there : goal.local_set-requires-clause-there
local_set-requires-clause-there c = (local_set_needs c.in-LocalSet.index c.args.globals.now c.args.values.now c.args.marks c.requires.within (rule_at c.args.instr.now (Instr-F.LocalSet c.in-LocalSet.index) c.args.globals.now c.args.values.now c.args.marks (ap layer c.in-LocalSet.is ∙ layer_local_set c.in-LocalSet.index) c.requires.ruled)).0

pub local_set-requires-clause-some : goal.local_set-requires-clause-some
local_set-requires-clause-some c = (local_set_needs c.in-LocalSet.index c.args.globals.now c.args.values.now c.args.marks c.requires.within (rule_at c.args.instr.now (Instr-F.LocalSet c.in-LocalSet.index) c.args.globals.now c.args.values.now c.args.marks (ap layer c.in-LocalSet.is ∙ layer_local_set c.in-LocalSet.index) c.requires.ruled)).1

pub returns-in-LocalSet : goal.returns-in-LocalSet
returns-in-LocalSet c = carried c.args.instr.now (Instr-F.LocalSet c.in-LocalSet.index) c.args.globals.now c.args.values.now c.local_set.new.values c.args.marks c.local_set.result (ap layer c.in-LocalSet.is ∙ layer_local_set c.in-LocalSet.index) c.local_set.ensures

pub local_tee-requires-clause-there : goal.local_tee-requires-clause-there
local_tee-requires-clause-there c = (local_tee_needs c.in-LocalTee.index c.args.globals.now c.args.values.now c.args.marks c.requires.within (rule_at c.args.instr.now (Instr-F.LocalTee c.in-LocalTee.index) c.args.globals.now c.args.values.now c.args.marks (ap layer c.in-LocalTee.is ∙ layer_local_tee c.in-LocalTee.index) c.requires.ruled)).0

pub local_tee-requires-clause-some : goal.local_tee-requires-clause-some
local_tee-requires-clause-some c = (local_tee_needs c.in-LocalTee.index c.args.globals.now c.args.values.now c.args.marks c.requires.within (rule_at c.args.instr.now (Instr-F.LocalTee c.in-LocalTee.index) c.args.globals.now c.args.values.now c.args.marks (ap layer c.in-LocalTee.is ∙ layer_local_tee c.in-LocalTee.index) c.requires.ruled)).1

pub returns-in-LocalTee : goal.returns-in-LocalTee
returns-in-LocalTee c = carried c.args.instr.now (Instr-F.LocalTee c.in-LocalTee.index) c.args.globals.now c.args.values.now c.local_tee.new.values c.args.marks c.local_tee.result (ap layer c.in-LocalTee.is ∙ layer_local_tee c.in-LocalTee.index) c.local_tee.ensures

pub global_get-requires-clause-there : goal.global_get-requires-clause-there
global_get-requires-clause-there c = global_get_needs c.in-GlobalGet.index c.args.globals.now c.args.values.now c.args.marks (rule_at c.args.instr.now (Instr-F.GlobalGet c.in-GlobalGet.index) c.args.globals.now c.args.values.now c.args.marks (ap layer c.in-GlobalGet.is ∙ layer_global_get c.in-GlobalGet.index) c.requires.ruled)

pub returns-in-GlobalGet : goal.returns-in-GlobalGet
returns-in-GlobalGet c = carried_globals c.args.instr.now (Instr-F.GlobalGet c.in-GlobalGet.index) c.args.globals.now c.args.globals.now c.args.values.now c.global_get.new.values c.args.marks c.global_get.result (ap layer c.in-GlobalGet.is ∙ layer_global_get c.in-GlobalGet.index) c.global_get.ensures

pub global_set-requires-clause-there : goal.global_set-requires-clause-there
global_set-requires-clause-there c = (global_set_needs c.in-GlobalSet.index c.args.globals.now c.args.values.now c.args.marks c.requires.within (rule_at c.args.instr.now (Instr-F.GlobalSet c.in-GlobalSet.index) c.args.globals.now c.args.values.now c.args.marks (ap layer c.in-GlobalSet.is ∙ layer_global_set c.in-GlobalSet.index) c.requires.ruled)).0

pub global_set-requires-clause-some : goal.global_set-requires-clause-some
global_set-requires-clause-some c = (global_set_needs c.in-GlobalSet.index c.args.globals.now c.args.values.now c.args.marks c.requires.within (rule_at c.args.instr.now (Instr-F.GlobalSet c.in-GlobalSet.index) c.args.globals.now c.args.values.now c.args.marks (ap layer c.in-GlobalSet.is ∙ layer_global_set c.in-GlobalSet.index) c.requires.ruled)).1

pub returns-in-GlobalSet : goal.returns-in-GlobalSet
returns-in-GlobalSet c = carried_globals c.args.instr.now (Instr-F.GlobalSet c.in-GlobalSet.index) c.args.globals.now c.global_set.new.globals c.args.values.now c.args.values.now c.args.marks c.global_set.result (ap layer c.in-GlobalSet.is ∙ layer_global_set c.in-GlobalSet.index) c.global_set.ensures

pub returns-in-I32Const : goal.returns-in-I32Const
returns-in-I32Const c = carried c.args.instr.now (Instr-F.I32Const c.in-I32Const.value) c.args.globals.now c.args.values.now c.push.new.values c.args.marks c.push.result (ap layer c.in-I32Const.is ∙ layer_i32_const c.in-I32Const.value) (λ m pages memory globals. c.push.ensures memory globals)

pub returns-in-I64Const : goal.returns-in-I64Const
returns-in-I64Const c = carried c.args.instr.now (Instr-F.I64Const c.in-I64Const.value) c.args.globals.now c.args.values.now c.push-in-I64Const.new.values c.args.marks c.push-in-I64Const.result (ap layer c.in-I64Const.is ∙ layer_i64_const c.in-I64Const.value) (λ m pages memory globals. c.push-in-I64Const.ensures memory globals)

pub number-requires-clause-listed : goal.number-requires-clause-listed
number-requires-clause-listed c = number_needs c.in-Num.code c.args.globals.now c.args.values.now c.args.marks (rule_at c.args.instr.now (Instr-F.Num c.in-Num.code) c.args.globals.now c.args.values.now c.args.marks (ap layer c.in-Num.is ∙ layer_num c.in-Num.code) c.requires.ruled)

pub number-requires-clause-fits : goal.number-requires-clause-fits
number-requires-clause-fits c =
    has_operands c.in-Num.code (operands_in c.args.marks.floor c.args.marks.sp c.args.values.now)
    (rule_at c.args.instr.now (Instr-F.Num c.in-Num.code) c.args.globals.now c.args.values.now c.args.marks (ap layer c.in-Num.is ∙ layer_num c.in-Num.code) c.requires.ruled).fits

pub returns-in-Num : goal.returns-in-Num
returns-in-Num c = carried c.args.instr.now (Instr-F.Num c.in-Num.code) c.args.globals.now c.args.values.now c.number.new.values c.args.marks c.number.result (ap layer c.in-Num.is ∙ layer_num c.in-Num.code) c.number.ensures

not_plain : (i : Instr) → (((i ≡ V.Unreachable)) ⊎ (((x : Option ValType) × (y : Seq) × (i ≡ V.Block x y)) ⊎ (((x : Option ValType) × (y : Seq) × (i ≡ V.Loop x y)) ⊎ (((x : Option ValType) × (y : Seq) × (z : Seq) × (i ≡ V.If x y z)) ⊎ (((x : ℕ) × (i ≡ V.Br x)) ⊎ (((x : ℕ) × (i ≡ V.BrIf x)) ⊎ (((x : List ℕ) × (y : ℕ) × (i ≡ V.BrTable x y)) ⊎ (((i ≡ V.Return)) ⊎ (((x : ℕ) × (i ≡ V.Call x)) ⊎ (((x : ℕ) × (i ≡ V.CallIndirect x)) ⊎ (((x : ℕ) × (y : ℕ) × (z : ℕ) × (i ≡ V.Load x y z)) ⊎ (((x : ℕ) × (y : ℕ) × (z : ℕ) × (i ≡ V.Store x y z)) ⊎ (((i ≡ V.MemorySize)) ⊎ (((i ≡ V.MemoryGrow)) ⊎ (((i ≡ V.MemoryCopy)) ⊎ (((i ≡ V.MemoryFill)) ⊎ (((x : ℕ) × (y : ℕ) × (z : ℕ) × (i ≡ V.FloatMemory x y z)) ⊎ (((x : ℕ) × (i ≡ V.F32Const x)) ⊎ (((x : ℕ) × (i ≡ V.F64Const x)) ⊎ ((x : ℕ) × (i ≡ V.FloatOp x))))))))))))))))))))) → IsPlain (layer i) → ⊥
not_plain i (inl h) p = let P : Layer → Type 0 = λ y. IsPlain y in subst P (ap layer h ∙ layer_unreachable) p
not_plain i (inr (inl h)) p = let P : Layer → Type 0 = λ y. IsPlain y in subst P (ap layer h.2 ∙ layer_block h.0 h.1) p
not_plain i (inr (inr (inl h))) p = let P : Layer → Type 0 = λ y. IsPlain y in subst P (ap layer h.2 ∙ layer_loop h.0 h.1) p
not_plain i (inr (inr (inr (inl h)))) p = let P : Layer → Type 0 = λ y. IsPlain y in subst P (ap layer h.3 ∙ layer_if h.0 h.1 h.2) p
not_plain i (inr (inr (inr (inr (inl h))))) p = let P : Layer → Type 0 = λ y. IsPlain y in subst P (ap layer h.1 ∙ layer_br h.0) p
not_plain i (inr (inr (inr (inr (inr (inl h)))))) p = let P : Layer → Type 0 = λ y. IsPlain y in subst P (ap layer h.1 ∙ layer_br_if h.0) p
not_plain i (inr (inr (inr (inr (inr (inr (inl h))))))) p = let P : Layer → Type 0 = λ y. IsPlain y in subst P (ap layer h.2 ∙ layer_br_table h.0 h.1) p
not_plain i (inr (inr (inr (inr (inr (inr (inr (inl h)))))))) p = let P : Layer → Type 0 = λ y. IsPlain y in subst P (ap layer h ∙ layer_return) p
not_plain i (inr (inr (inr (inr (inr (inr (inr (inr (inl h))))))))) p = let P : Layer → Type 0 = λ y. IsPlain y in subst P (ap layer h.1 ∙ layer_call h.0) p
not_plain i (inr (inr (inr (inr (inr (inr (inr (inr (inr (inl h)))))))))) p = let P : Layer → Type 0 = λ y. IsPlain y in subst P (ap layer h.1 ∙ layer_call_indirect h.0) p
not_plain i (inr (inr (inr (inr (inr (inr (inr (inr (inr (inr (inl h))))))))))) p = let P : Layer → Type 0 = λ y. IsPlain y in subst P (ap layer h.3 ∙ layer_load h.0 h.1 h.2) p
not_plain i (inr (inr (inr (inr (inr (inr (inr (inr (inr (inr (inr (inl h)))))))))))) p = let P : Layer → Type 0 = λ y. IsPlain y in subst P (ap layer h.3 ∙ layer_store h.0 h.1 h.2) p
not_plain i (inr (inr (inr (inr (inr (inr (inr (inr (inr (inr (inr (inr (inl h))))))))))))) p = let P : Layer → Type 0 = λ y. IsPlain y in subst P (ap layer h ∙ layer_memory_size) p
not_plain i (inr (inr (inr (inr (inr (inr (inr (inr (inr (inr (inr (inr (inr (inl h)))))))))))))) p = let P : Layer → Type 0 = λ y. IsPlain y in subst P (ap layer h ∙ layer_memory_grow) p
not_plain i (inr (inr (inr (inr (inr (inr (inr (inr (inr (inr (inr (inr (inr (inr (inl h))))))))))))))) p = let P : Layer → Type 0 = λ y. IsPlain y in subst P (ap layer h ∙ layer_memory_copy) p
not_plain i (inr (inr (inr (inr (inr (inr (inr (inr (inr (inr (inr (inr (inr (inr (inr (inl h)))))))))))))))) p = let P : Layer → Type 0 = λ y. IsPlain y in subst P (ap layer h ∙ layer_memory_fill) p
not_plain i (inr (inr (inr (inr (inr (inr (inr (inr (inr (inr (inr (inr (inr (inr (inr (inr (inl h))))))))))))))))) p = let P : Layer → Type 0 = λ y. IsPlain y in subst P (ap layer h.3 ∙ layer_float_memory h.0 h.1 h.2) p
not_plain i (inr (inr (inr (inr (inr (inr (inr (inr (inr (inr (inr (inr (inr (inr (inr (inr (inr (inl h)))))))))))))))))) p = let P : Layer → Type 0 = λ y. IsPlain y in subst P (ap layer h.1 ∙ layer_f32_const h.0) p
not_plain i (inr (inr (inr (inr (inr (inr (inr (inr (inr (inr (inr (inr (inr (inr (inr (inr (inr (inr (inl h))))))))))))))))))) p = let P : Layer → Type 0 = λ y. IsPlain y in subst P (ap layer h.1 ∙ layer_f64_const h.0) p
not_plain i (inr (inr (inr (inr (inr (inr (inr (inr (inr (inr (inr (inr (inr (inr (inr (inr (inr (inr (inr h))))))))))))))))))) p = let P : Layer → Type 0 = λ y. IsPlain y in subst P (ap layer h.1 ∙ layer_float_op h.0) p

pub unreachable-requires : goal.unreachable-requires
unreachable-requires c = not_plain c.args.instr.now c.in-Unreachable.is c.requires.plain
