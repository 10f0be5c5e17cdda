use Rattle.std.proofs.Common.{◌≡◌, ◌≢◌, ◌∙◌, ℕ, List, ap, sym, subst, inl, inr}
use Rattle.std.specs.Prelude.{Option, ◌⊎◌}
use Rattle.wasm_ast.specs.declared.val_types.ValType.{ValType}
use Rattle.wasm_ast.specs.declared.trees.Seq.{Seq}
use Rattle.wasm_ast.specs.declared.trees.Instr.{Instr}
use Rattle.wasm_ast.specs.declared.trees.Instr.TheVariants as V
use Rattle.wasm_ast.specs.declared.trees.Instr.TheOpen.{Instr-F}
use Rattle.wasm_ast.specs.declared.modules.Module.{Module}
use Rattle.wasm_ast.specs.Trees.{Layer, layer, layer_unreachable, layer_nop, layer_block, layer_loop, layer_if, layer_br, layer_br_if, layer_br_table, layer_return, layer_call, layer_call_indirect, layer_drop, layer_select, layer_local_get, layer_local_set, layer_local_tee, layer_global_get, layer_global_set, layer_load, layer_store, layer_memory_size, layer_memory_grow, layer_memory_copy, layer_memory_fill, layer_i32_const, layer_i64_const, layer_num, layer_float_memory, layer_f32_const, layer_f64_const, layer_float_op}
use Rattle.wasm_semantics.specs.Data.{Data, Wrong, effect_of}
use Rattle.wasm_semantics.specs.Operands.{operand_types, LieOnTop}
use Rattle.wasm_data.specs.Marked.{operands_in}
use Rattle.wasm_data.specs.Effects.{cells, seen}
use Rattle.wasm_data.specs.Rules.{IsPlain}
use Rattle.wasm_data.proofs.Rules.{load_needs, store_needs, grow_needs, copy_needs, fill_needs, carried_memory}
use Rattle.wasm_data.proofs.instructions.data.Goals as goal

is_plain : (i : Instr) → (((i ≡ V.Nop)) ⊎ (((i ≡ V.Drop)) ⊎ (((i ≡ V.Select)) ⊎ (((x : ℕ) × (i ≡ V.LocalGet x)) ⊎ (((x : ℕ) × (i ≡ V.LocalSet x)) ⊎ (((x : ℕ) × (i ≡ V.LocalTee x)) ⊎ (((x : ℕ) × (i ≡ V.GlobalGet x)) ⊎ (((x : ℕ) × (i ≡ V.GlobalSet x)) ⊎ (((x : ℕ) × (i ≡ V.I32Const x)) ⊎ (((x : ℕ) × (i ≡ V.I64Const x)) ⊎ ((x : ℕ) × (i ≡ V.Num x)))))))))))) → IsPlain (layer i)
is_plain i (inl h) = let P : Layer → Type 0 = λ y. IsPlain y in subst P (sym (ap layer h ∙ layer_nop)) tt
is_plain i (inr (inl h)) = let P : Layer → Type 0 = λ y. IsPlain y in subst P (sym (ap layer h ∙ layer_drop)) tt
is_plain i (inr (inr (inl h))) = let P : Layer → Type 0 = λ y. IsPlain y in subst P (sym (ap layer h ∙ layer_select)) tt
is_plain i (inr (inr (inr (inl h)))) = let P : Layer → Type 0 = λ y. IsPlain y in subst P (sym (ap layer h.1 ∙ layer_local_get h.0)) tt
is_plain i (inr (inr (inr (inr (inl h))))) = let P : Layer → Type 0 = λ y. IsPlain y in subst P (sym (ap layer h.1 ∙ layer_local_set h.0)) tt
is_plain i (inr (inr (inr (inr (inr (inl h)))))) = let P : Layer → Type 0 = λ y. IsPlain y in subst P (sym (ap layer h.1 ∙ layer_local_tee h.0)) tt
is_plain i (inr (inr (inr (inr (inr (inr (inl h))))))) = let P : Layer → Type 0 = λ y. IsPlain y in subst P (sym (ap layer h.1 ∙ layer_global_get h.0)) tt
is_plain i (inr (inr (inr (inr (inr (inr (inr (inl h)))))))) = let P : Layer → Type 0 = λ y. IsPlain y in subst P (sym (ap layer h.1 ∙ layer_global_set h.0)) tt
is_plain i (inr (inr (inr (inr (inr (inr (inr (inr (inl h))))))))) = let P : Layer → Type 0 = λ y. IsPlain y in subst P (sym (ap layer h.1 ∙ layer_i32_const h.0)) tt
is_plain i (inr (inr (inr (inr (inr (inr (inr (inr (inr (inl h)))))))))) = let P : Layer → Type 0 = λ y. IsPlain y in subst P (sym (ap layer h.1 ∙ layer_i64_const h.0)) tt
is_plain i (inr (inr (inr (inr (inr (inr (inr (inr (inr (inr h)))))))))) = let P : Layer → Type 0 = λ y. IsPlain y in subst P (sym (ap layer h.1 ∙ layer_num h.0)) tt

no_rule : (m : Module) (pages : ℕ) (d : Data) (i : Instr) → (((i ≡ V.Unreachable)) ⊎ (((x : Option ValType) × (y : Seq) × (i ≡ V.Block x y)) ⊎ (((x : Option ValType) × (y : Seq) × (i ≡ V.Loop x y)) ⊎ (((x : Option ValType) × (y : Seq) × (z : Seq) × (i ≡ V.If x y z)) ⊎ (((x : ℕ) × (i ≡ V.Br x)) ⊎ (((x : ℕ) × (i ≡ V.BrIf x)) ⊎ (((x : List ℕ) × (y : ℕ) × (i ≡ V.BrTable x y)) ⊎ (((i ≡ V.Return)) ⊎ (((x : ℕ) × (i ≡ V.Call x)) ⊎ (((x : ℕ) × (i ≡ V.CallIndirect x)) ⊎ (((x : ℕ) × (y : ℕ) × (z : ℕ) × (i ≡ V.FloatMemory x y z)) ⊎ (((x : ℕ) × (i ≡ V.F32Const x)) ⊎ (((x : ℕ) × (i ≡ V.F64Const x)) ⊎ ((x : ℕ) × (i ≡ V.FloatOp x))))))))))))))) → effect_of m pages (layer i) d ≢ Wrong → ⊥
no_rule m pages d i (inl h) typed = typed (ap (λ y. effect_of m pages y d) (ap layer h ∙ layer_unreachable))
no_rule m pages d i (inr (inl h)) typed = typed (ap (λ y. effect_of m pages y d) (ap layer h.2 ∙ layer_block h.0 h.1))
no_rule m pages d i (inr (inr (inl h))) typed = typed (ap (λ y. effect_of m pages y d) (ap layer h.2 ∙ layer_loop h.0 h.1))
no_rule m pages d i (inr (inr (inr (inl h)))) typed = typed (ap (λ y. effect_of m pages y d) (ap layer h.3 ∙ layer_if h.0 h.1 h.2))
no_rule m pages d i (inr (inr (inr (inr (inl h))))) typed = typed (ap (λ y. effect_of m pages y d) (ap layer h.1 ∙ layer_br h.0))
no_rule m pages d i (inr (inr (inr (inr (inr (inl h)))))) typed = typed (ap (λ y. effect_of m pages y d) (ap layer h.1 ∙ layer_br_if h.0))
no_rule m pages d i (inr (inr (inr (inr (inr (inr (inl h))))))) typed = typed (ap (λ y. effect_of m pages y d) (ap layer h.2 ∙ layer_br_table h.0 h.1))
no_rule m pages d i (inr (inr (inr (inr (inr (inr (inr (inl h)))))))) typed = typed (ap (λ y. effect_of m pages y d) (ap layer h ∙ layer_return))
no_rule m pages d i (inr (inr (inr (inr (inr (inr (inr (inr (inl h))))))))) typed = typed (ap (λ y. effect_of m pages y d) (ap layer h.1 ∙ layer_call h.0))
no_rule m pages d i (inr (inr (inr (inr (inr (inr (inr (inr (inr (inl h)))))))))) typed = typed (ap (λ y. effect_of m pages y d) (ap layer h.1 ∙ layer_call_indirect h.0))
no_rule m pages d i (inr (inr (inr (inr (inr (inr (inr (inr (inr (inr (inl h))))))))))) typed = typed (ap (λ y. effect_of m pages y d) (ap layer h.3 ∙ layer_float_memory h.0 h.1 h.2))
no_rule m pages d i (inr (inr (inr (inr (inr (inr (inr (inr (inr (inr (inr (inl h)))))))))))) typed = typed (ap (λ y. effect_of m pages y d) (ap layer h.1 ∙ layer_f32_const h.0))
no_rule m pages d i (inr (inr (inr (inr (inr (inr (inr (inr (inr (inr (inr (inr (inl h))))))))))))) typed = typed (ap (λ y. effect_of m pages y d) (ap layer h.1 ∙ layer_f64_const h.0))
no_rule m pages d i (inr (inr (inr (inr (inr (inr (inr (inr (inr (inr (inr (inr (inr h))))))))))))) typed = typed (ap (λ y. effect_of m pages y d) (ap layer h.1 ∙ layer_float_op h.0))

pub load-requires-clause-some : goal.load-requires-clause-some
load-requires-clause-some c = (load_needs c.args.program.now c.args.pages c.in-Load.code c.in-Load.align c.in-Load.offset (cells c.args.memory.now.bytes c.args.globals.now c.args.values.now) c.args.marks c.requires.within (let P : Layer → Type 0 = λ y. effect_of c.args.program.now c.args.pages y (seen (cells c.args.memory.now.bytes c.args.globals.now c.args.values.now) c.args.marks) ≢ Wrong in subst P (ap layer c.in-Load.is ∙ layer_load c.in-Load.code c.in-Load.align c.in-Load.offset) c.requires.typed)).1

pub load-requires-clause-listed : goal.load-requires-clause-listed
load-requires-clause-listed c = (load_needs c.args.program.now c.args.pages c.in-Load.code c.in-Load.align c.in-Load.offset (cells c.args.memory.now.bytes c.args.globals.now c.args.values.now) c.args.marks c.requires.within (let P : Layer → Type 0 = λ y. effect_of c.args.program.now c.args.pages y (seen (cells c.args.memory.now.bytes c.args.globals.now c.args.values.now) c.args.marks) ≢ Wrong in subst P (ap layer c.in-Load.is ∙ layer_load c.in-Load.code c.in-Load.align c.in-Load.offset) c.requires.typed)).0

pub load-requires-clause-fits : goal.load-requires-clause-fits
load-requires-clause-fits c = let P : Layer → Type 0 = λ y. LieOnTop (operand_types c.args.program.now y) (operands_in c.args.marks.floor c.args.marks.sp c.args.values.now) in subst P (ap layer c.in-Load.is ∙ layer_load c.in-Load.code c.in-Load.align c.in-Load.offset) c.requires.fits

pub store-requires-clause-two : goal.store-requires-clause-two
store-requires-clause-two c = (store_needs c.args.program.now c.args.pages c.in-Store.code c.in-Store.align c.in-Store.offset (cells c.args.memory.now.bytes c.args.globals.now c.args.values.now) c.args.marks c.requires.within (let P : Layer → Type 0 = λ y. effect_of c.args.program.now c.args.pages y (seen (cells c.args.memory.now.bytes c.args.globals.now c.args.values.now) c.args.marks) ≢ Wrong in subst P (ap layer c.in-Store.is ∙ layer_store c.in-Store.code c.in-Store.align c.in-Store.offset) c.requires.typed)).1

pub store-requires-clause-listed : goal.store-requires-clause-listed
store-requires-clause-listed c = (store_needs c.args.program.now c.args.pages c.in-Store.code c.in-Store.align c.in-Store.offset (cells c.args.memory.now.bytes c.args.globals.now c.args.values.now) c.args.marks c.requires.within (let P : Layer → Type 0 = λ y. effect_of c.args.program.now c.args.pages y (seen (cells c.args.memory.now.bytes c.args.globals.now c.args.values.now) c.args.marks) ≢ Wrong in subst P (ap layer c.in-Store.is ∙ layer_store c.in-Store.code c.in-Store.align c.in-Store.offset) c.requires.typed)).0

pub store-requires-clause-fits : goal.store-requires-clause-fits
store-requires-clause-fits c = let P : Layer → Type 0 = λ y. LieOnTop (operand_types c.args.program.now y) (operands_in c.args.marks.floor c.args.marks.sp c.args.values.now) in subst P (ap layer c.in-Store.is ∙ layer_store c.in-Store.code c.in-Store.align c.in-Store.offset) c.requires.fits

pub grow-requires-clause-some : goal.grow-requires-clause-some
grow-requires-clause-some c = grow_needs c.args.program.now c.args.pages (cells c.args.memory.now.bytes c.args.globals.now c.args.values.now) c.args.marks c.requires.within (let P : Layer → Type 0 = λ y. effect_of c.args.program.now c.args.pages y (seen (cells c.args.memory.now.bytes c.args.globals.now c.args.values.now) c.args.marks) ≢ Wrong in subst P (ap layer c.in-MemoryGrow.is ∙ layer_memory_grow) c.requires.typed)

pub grow-requires-clause-fits : goal.grow-requires-clause-fits
grow-requires-clause-fits c = let P : Layer → Type 0 = λ y. LieOnTop (operand_types c.args.program.now y) (operands_in c.args.marks.floor c.args.marks.sp c.args.values.now) in subst P (ap layer c.in-MemoryGrow.is ∙ layer_memory_grow) c.requires.fits

pub copy-requires-clause-three : goal.copy-requires-clause-three
copy-requires-clause-three c = copy_needs c.args.program.now c.args.pages (cells c.args.memory.now.bytes c.args.globals.now c.args.values.now) c.args.marks c.requires.within (let P : Layer → Type 0 = λ y. effect_of c.args.program.now c.args.pages y (seen (cells c.args.memory.now.bytes c.args.globals.now c.args.values.now) c.args.marks) ≢ Wrong in subst P (ap layer c.in-MemoryCopy.is ∙ layer_memory_copy) c.requires.typed)

pub copy-requires-clause-fits : goal.copy-requires-clause-fits
copy-requires-clause-fits c = let P : Layer → Type 0 = λ y. LieOnTop (operand_types c.args.program.now y) (operands_in c.args.marks.floor c.args.marks.sp c.args.values.now) in subst P (ap layer c.in-MemoryCopy.is ∙ layer_memory_copy) c.requires.fits

pub fill-requires-clause-three : goal.fill-requires-clause-three
fill-requires-clause-three c = fill_needs c.args.program.now c.args.pages (cells c.args.memory.now.bytes c.args.globals.now c.args.values.now) c.args.marks c.requires.within (let P : Layer → Type 0 = λ y. effect_of c.args.program.now c.args.pages y (seen (cells c.args.memory.now.bytes c.args.globals.now c.args.values.now) c.args.marks) ≢ Wrong in subst P (ap layer c.in-MemoryFill.is ∙ layer_memory_fill) c.requires.typed)

pub fill-requires-clause-fits : goal.fill-requires-clause-fits
fill-requires-clause-fits c = let P : Layer → Type 0 = λ y. LieOnTop (operand_types c.args.program.now y) (operands_in c.args.marks.floor c.args.marks.sp c.args.values.now) in subst P (ap layer c.in-MemoryFill.is ∙ layer_memory_fill) c.requires.fits

pub plain-requires-clause-plain : goal.plain-requires-clause-plain
plain-requires-clause-plain c = is_plain c.args.instr.now c.in-Nop.is

pub plain-requires-clause-ruled : goal.plain-requires-clause-ruled
plain-requires-clause-ruled c = record { program = c.args.program.now; pages = c.args.pages; memory = c.args.memory.now.bytes; typed = c.requires.typed; fits = c.requires.fits }

pub unreachable-requires : goal.unreachable-requires
unreachable-requires c = no_rule c.args.program.now c.args.pages (seen (cells c.args.memory.now.bytes c.args.globals.now c.args.values.now) c.args.marks) c.args.instr.now c.in-Unreachable.is c.requires.typed

pub returns-in-Load-clause-does : goal.returns-in-Load-clause-does
returns-in-Load-clause-does c = carried_memory c.args.instr.now (Instr-F.Load c.in-Load.code c.in-Load.align c.in-Load.offset) c.args.program.now c.args.pages c.args.memory.now c.args.memory.now c.args.globals.now c.args.values.now c.load.new.values c.args.marks c.load.result (ap layer c.in-Load.is ∙ layer_load c.in-Load.code c.in-Load.align c.in-Load.offset) c.requires.maximum (c.load.ensures c.args.pages)

pub returns-in-Store-clause-does : goal.returns-in-Store-clause-does
returns-in-Store-clause-does c = carried_memory c.args.instr.now (Instr-F.Store c.in-Store.code c.in-Store.align c.in-Store.offset) c.args.program.now c.args.pages c.args.memory.now c.store.new.memory c.args.globals.now c.args.values.now c.args.values.now c.args.marks c.store.result (ap layer c.in-Store.is ∙ layer_store c.in-Store.code c.in-Store.align c.in-Store.offset) c.requires.maximum (c.store.ensures.does c.args.pages)

pub returns-in-MemorySize-clause-does : goal.returns-in-MemorySize-clause-does
returns-in-MemorySize-clause-does c = carried_memory c.args.instr.now Instr-F.MemorySize c.args.program.now c.args.pages c.args.memory.now c.args.memory.now c.args.globals.now c.args.values.now c.size.new.values c.args.marks c.size.result (ap layer c.in-MemorySize.is ∙ layer_memory_size) c.requires.maximum (c.size.ensures c.args.pages)

pub returns-in-MemoryGrow-clause-does : goal.returns-in-MemoryGrow-clause-does
returns-in-MemoryGrow-clause-does c = carried_memory c.args.instr.now Instr-F.MemoryGrow c.args.program.now c.args.pages c.args.memory.now c.grow.new.memory c.args.globals.now c.args.values.now c.grow.new.values c.args.marks c.grow.result (ap layer c.in-MemoryGrow.is ∙ layer_memory_grow) c.requires.maximum c.grow.ensures.does

pub returns-in-MemoryCopy-clause-does : goal.returns-in-MemoryCopy-clause-does
returns-in-MemoryCopy-clause-does c = carried_memory c.args.instr.now Instr-F.MemoryCopy c.args.program.now c.args.pages c.args.memory.now c.copy.new.memory c.args.globals.now c.args.values.now c.args.values.now c.args.marks c.copy.result (ap layer c.in-MemoryCopy.is ∙ layer_memory_copy) c.requires.maximum (c.copy.ensures.does c.args.pages)

pub returns-in-MemoryFill-clause-does : goal.returns-in-MemoryFill-clause-does
returns-in-MemoryFill-clause-does c = carried_memory c.args.instr.now Instr-F.MemoryFill c.args.program.now c.args.pages c.args.memory.now c.fill.new.memory c.args.globals.now c.args.values.now c.args.values.now c.args.marks c.fill.result (ap layer c.in-MemoryFill.is ∙ layer_memory_fill) c.requires.maximum (c.fill.ensures.does c.args.pages)

pub returns-in-Nop-clause-does : goal.returns-in-Nop-clause-does
returns-in-Nop-clause-does c = c.plain.ensures c.args.program.now c.args.pages c.args.memory.now.bytes
