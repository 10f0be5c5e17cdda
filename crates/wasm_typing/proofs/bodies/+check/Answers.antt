use Rattle.std.proofs.Common.{◌≡◌, ◌∙◌, ap, subst, refl, true, false, [], ◌∷◌}
use Rattle.std.specs.Prelude.{◌↔◌, IsTrue}
use Rattle.wasm_ast.specs.declared.val_types.ValType.TheVariants.{I32}
use Rattle.wasm_ast.specs.declared.trees.Instr.TheOpen.{Instr-F}
use Rattle.wasm_ast.specs.Trees.{layer, layer_unreachable, layer_nop, layer_block, layer_loop, layer_if, layer_br, layer_br_if, layer_br_table, layer_return, layer_call, layer_call_indirect, layer_drop, layer_select, layer_local_get, layer_local_set, layer_local_tee, layer_global_get, layer_global_set, layer_load, layer_store, layer_memory_size, layer_memory_grow, layer_memory_copy, layer_memory_fill, layer_i32_const, layer_i64_const, layer_num, layer_float_memory, layer_f32_const, layer_f64_const, layer_float_op}
use Rattle.wasm_ast.specs.Typing.{results, Types, Changes}
use Rattle.wasm_typing.specs.declared.operands.Operands.{Operands}
use Rattle.wasm_typing.specs.Operands.{Stand, Image}
use Rattle.wasm_typing.specs.Scopes.{TypeEffect, Stepped, context_in, labels_of}
use Rattle.wasm_typing.proofs.Images.{nothing_done}
use Rattle.wasm_typing.proofs.Effects.{if_ok}
use Rattle.wasm_typing.proofs.Codes.{plain_stepped, effects_stepped, effect_stepped, block_stepped, block_refused, loop_stepped, loop_refused, if_stepped, first_refused, second_refused, untyped_stepped, begins, goes_on, ends_here, yes, no_}
use Rattle.wasm_typing.proofs.bodies.+check.Goals as goal

pub check_instr-returns-in-Unreachable-clause-effect : goal.check_instr-returns-in-Unreachable-clause-effect
check_instr-returns-in-Unreachable-clause-effect t c =
    plain_stepped c.args.scope c.args.labels.now c.args.instr.now c.args.operands.now c.forget.new.self Instr-F.Unreachable true (ap layer c.in-Unreachable.is ∙ layer_unreachable) tt c.forget.ensures

pub check_instr-returns-in-Nop-clause-effect : goal.check_instr-returns-in-Nop-clause-effect
check_instr-returns-in-Nop-clause-effect t c =
    plain_stepped c.args.scope c.args.labels.now c.args.instr.now c.args.operands.now c.args.operands.now Instr-F.Nop true (ap layer c.in-Nop.is ∙ layer_nop) tt (nothing_done (Stand c.args.operands.now))

pub check_instr-returns-in-Br-clause-effect : goal.check_instr-returns-in-Br-clause-effect
check_instr-returns-in-Br-clause-effect t c =
    plain_stepped c.args.scope c.args.labels.now c.args.instr.now c.args.operands.now c.branch-scope.new.operands (Instr-F.Br c.in-Br.label) c.branch-scope.result (ap layer c.in-Br.is ∙ layer_br c.in-Br.label) tt c.branch-scope.ensures

pub check_instr-returns-in-BrIf-clause-effect : goal.check_instr-returns-in-BrIf-clause-effect
check_instr-returns-in-BrIf-clause-effect t c =
    effect_stepped c.args.scope c.args.labels.now c.args.instr.now c.args.operands.now c.branch_if.new.operands c.branch_if.result (Instr-F.BrIf c.in-BrIf.label) (ap layer c.in-BrIf.is ∙ layer_br_if c.in-BrIf.label) tt c.branch_if.ensures

pub check_instr-returns-in-BrTable-clause-effect : goal.check_instr-returns-in-BrTable-clause-effect
check_instr-returns-in-BrTable-clause-effect t c =
    plain_stepped c.args.scope c.args.labels.now c.args.instr.now c.args.operands.now c.branch_table.new.operands (Instr-F.BrTable c.in-BrTable.targets c.in-BrTable.default) c.branch_table.result (ap layer c.in-BrTable.is ∙ layer_br_table c.in-BrTable.targets c.in-BrTable.default) tt (subst (λ ns. TypeEffect c.args.scope c.args.labels.now (Instr-F.BrTable ns c.in-BrTable.default) c.args.operands.now c.branch_table.new.operands c.branch_table.result) c.items-in-BrTable.ensures c.branch_table.ensures)

pub check_instr-returns-in-Return-clause-effect : goal.check_instr-returns-in-Return-clause-effect
check_instr-returns-in-Return-clause-effect t c =
    plain_stepped c.args.scope c.args.labels.now c.args.instr.now c.args.operands.now c.jump.new.self Instr-F.Return c.jump.result (ap layer c.in-Return.is ∙ layer_return) tt c.jump.ensures

pub check_instr-returns-in-Call-clause-effect : goal.check_instr-returns-in-Call-clause-effect
check_instr-returns-in-Call-clause-effect t c =
    effects_stepped c.args.scope c.args.labels.now c.args.instr.now c.args.operands.now c.call.new.operands c.call.result (Instr-F.Call c.in-Call.index) (ap layer c.in-Call.is ∙ layer_call c.in-Call.index) tt c.call.ensures

pub check_instr-returns-in-CallIndirect-clause-effect : goal.check_instr-returns-in-CallIndirect-clause-effect
check_instr-returns-in-CallIndirect-clause-effect t c =
    effects_stepped c.args.scope c.args.labels.now c.args.instr.now c.args.operands.now c.call_indirect.new.operands c.call_indirect.result (Instr-F.CallIndirect c.in-CallIndirect.index) (ap layer c.in-CallIndirect.is ∙ layer_call_indirect c.in-CallIndirect.index) tt c.call_indirect.ensures

pub check_instr-returns-in-Drop-clause-effect : goal.check_instr-returns-in-Drop-clause-effect
check_instr-returns-in-Drop-clause-effect t c =
    plain_stepped c.args.scope c.args.labels.now c.args.instr.now c.args.operands.now c.take_any.new.self Instr-F.Drop c.take_any.result (ap layer c.in-Drop.is ∙ layer_drop) tt c.take_any.ensures

pub check_instr-returns-in-Select-clause-effect : goal.check_instr-returns-in-Select-clause-effect
check_instr-returns-in-Select-clause-effect t c =
    effects_stepped c.args.scope c.args.labels.now c.args.instr.now c.args.operands.now c.select.new.operands c.select.result Instr-F.Select (ap layer c.in-Select.is ∙ layer_select) tt c.select.ensures

pub check_instr-returns-in-LocalGet-clause-effect : goal.check_instr-returns-in-LocalGet-clause-effect
check_instr-returns-in-LocalGet-clause-effect t c =
    effects_stepped c.args.scope c.args.labels.now c.args.instr.now c.args.operands.now c.local_get.new.operands c.local_get.result (Instr-F.LocalGet c.in-LocalGet.index) (ap layer c.in-LocalGet.is ∙ layer_local_get c.in-LocalGet.index) tt c.local_get.ensures

pub check_instr-returns-in-LocalSet-clause-effect : goal.check_instr-returns-in-LocalSet-clause-effect
check_instr-returns-in-LocalSet-clause-effect t c =
    effects_stepped c.args.scope c.args.labels.now c.args.instr.now c.args.operands.now c.local_set.new.operands c.local_set.result (Instr-F.LocalSet c.in-LocalSet.index) (ap layer c.in-LocalSet.is ∙ layer_local_set c.in-LocalSet.index) tt c.local_set.ensures

pub check_instr-returns-in-LocalTee-clause-effect : goal.check_instr-returns-in-LocalTee-clause-effect
check_instr-returns-in-LocalTee-clause-effect t c =
    effects_stepped c.args.scope c.args.labels.now c.args.instr.now c.args.operands.now c.local_tee.new.operands c.local_tee.result (Instr-F.LocalTee c.in-LocalTee.index) (ap layer c.in-LocalTee.is ∙ layer_local_tee c.in-LocalTee.index) tt c.local_tee.ensures

pub check_instr-returns-in-GlobalGet-clause-effect : goal.check_instr-returns-in-GlobalGet-clause-effect
check_instr-returns-in-GlobalGet-clause-effect t c =
    effects_stepped c.args.scope c.args.labels.now c.args.instr.now c.args.operands.now c.global_get.new.operands c.global_get.result (Instr-F.GlobalGet c.in-GlobalGet.index) (ap layer c.in-GlobalGet.is ∙ layer_global_get c.in-GlobalGet.index) tt c.global_get.ensures

pub check_instr-returns-in-GlobalSet-clause-effect : goal.check_instr-returns-in-GlobalSet-clause-effect
check_instr-returns-in-GlobalSet-clause-effect t c =
    effects_stepped c.args.scope c.args.labels.now c.args.instr.now c.args.operands.now c.global_set.new.operands c.global_set.result (Instr-F.GlobalSet c.in-GlobalSet.index) (ap layer c.in-GlobalSet.is ∙ layer_global_set c.in-GlobalSet.index) tt c.global_set.ensures

pub check_instr-returns-in-Load-clause-effect : goal.check_instr-returns-in-Load-clause-effect
check_instr-returns-in-Load-clause-effect t c =
    effects_stepped c.args.scope c.args.labels.now c.args.instr.now c.args.operands.now c.load.new.operands c.load.result (Instr-F.Load c.in-Load.opcode c.in-Load.align c.in-Load.offset) (ap layer c.in-Load.is ∙ layer_load c.in-Load.opcode c.in-Load.align c.in-Load.offset) tt c.load.ensures

pub check_instr-returns-in-Store-clause-effect : goal.check_instr-returns-in-Store-clause-effect
check_instr-returns-in-Store-clause-effect t c =
    effects_stepped c.args.scope c.args.labels.now c.args.instr.now c.args.operands.now c.store.new.operands c.store.result (Instr-F.Store c.in-Store.opcode c.in-Store.align c.in-Store.offset) (ap layer c.in-Store.is ∙ layer_store c.in-Store.opcode c.in-Store.align c.in-Store.offset) tt c.store.ensures

pub check_instr-returns-in-MemorySize-clause-effect : goal.check_instr-returns-in-MemorySize-clause-effect
check_instr-returns-in-MemorySize-clause-effect t c =
    effects_stepped c.args.scope c.args.labels.now c.args.instr.now c.args.operands.now c.memory_size.new.operands c.memory_size.result Instr-F.MemorySize (ap layer c.in-MemorySize.is ∙ layer_memory_size) tt c.memory_size.ensures

pub check_instr-returns-in-MemoryGrow-clause-effect : goal.check_instr-returns-in-MemoryGrow-clause-effect
check_instr-returns-in-MemoryGrow-clause-effect t c =
    effects_stepped c.args.scope c.args.labels.now c.args.instr.now c.args.operands.now c.memory_grow.new.operands c.memory_grow.result Instr-F.MemoryGrow (ap layer c.in-MemoryGrow.is ∙ layer_memory_grow) tt c.memory_grow.ensures

pub check_instr-returns-in-Num-clause-effect : goal.check_instr-returns-in-Num-clause-effect
check_instr-returns-in-Num-clause-effect t c =
    effects_stepped c.args.scope c.args.labels.now c.args.instr.now c.args.operands.now c.num.new.operands c.num.result (Instr-F.Num c.in-Num.opcode) (ap layer c.in-Num.is ∙ layer_num c.in-Num.opcode) tt c.num.ensures

pub check_instr-returns-in-MemoryCopy-clause-effect : goal.check_instr-returns-in-MemoryCopy-clause-effect
check_instr-returns-in-MemoryCopy-clause-effect t c =
    effects_stepped c.args.scope c.args.labels.now c.args.instr.now c.args.operands.now c.memory_range.new.operands c.memory_range.result Instr-F.MemoryCopy (ap layer c.in-MemoryCopy.is ∙ layer_memory_copy) tt c.memory_range.ensures.copy

pub check_instr-returns-in-MemoryFill-clause-effect : goal.check_instr-returns-in-MemoryFill-clause-effect
check_instr-returns-in-MemoryFill-clause-effect t c =
    effects_stepped c.args.scope c.args.labels.now c.args.instr.now c.args.operands.now c.memory_range-in-MemoryFill.new.operands c.memory_range-in-MemoryFill.result Instr-F.MemoryFill (ap layer c.in-MemoryFill.is ∙ layer_memory_fill) tt c.memory_range-in-MemoryFill.ensures.fill

pub check_instr-returns-in-I32Const-clause-effect : goal.check_instr-returns-in-I32Const-clause-effect
check_instr-returns-in-I32Const-clause-effect t c =
    effects_stepped c.args.scope c.args.labels.now c.args.instr.now c.args.operands.now c.i32_const.new.operands c.i32_const.result (Instr-F.I32Const c.in-I32Const.value) (ap layer c.in-I32Const.is ∙ layer_i32_const c.in-I32Const.value) tt c.i32_const.ensures

pub check_instr-returns-in-I64Const-clause-effect : goal.check_instr-returns-in-I64Const-clause-effect
check_instr-returns-in-I64Const-clause-effect t c =
    effects_stepped c.args.scope c.args.labels.now c.args.instr.now c.args.operands.now c.i64_const.new.operands c.i64_const.result (Instr-F.I64Const c.in-I64Const.value) (ap layer c.in-I64Const.is ∙ layer_i64_const c.in-I64Const.value) tt c.i64_const.ensures

pub check_instr-returns-in-FloatMemory-clause-effect : goal.check_instr-returns-in-FloatMemory-clause-effect
check_instr-returns-in-FloatMemory-clause-effect t c =
    untyped_stepped c.args.scope c.args.labels.now c.args.instr.now c.args.operands.now c.args.operands.now (Instr-F.FloatMemory c.in-FloatMemory.field-0 c.in-FloatMemory.field-1 c.in-FloatMemory.field-2) (ap layer c.in-FloatMemory.is ∙ layer_float_memory c.in-FloatMemory.field-0 c.in-FloatMemory.field-1 c.in-FloatMemory.field-2) tt (λ b a p. p)

pub check_instr-returns-in-F32Const-clause-effect : goal.check_instr-returns-in-F32Const-clause-effect
check_instr-returns-in-F32Const-clause-effect t c =
    untyped_stepped c.args.scope c.args.labels.now c.args.instr.now c.args.operands.now c.args.operands.now (Instr-F.F32Const c.in-F32Const.field-0) (ap layer c.in-F32Const.is ∙ layer_f32_const c.in-F32Const.field-0) tt (λ b a p. p)

pub check_instr-returns-in-F64Const-clause-effect : goal.check_instr-returns-in-F64Const-clause-effect
check_instr-returns-in-F64Const-clause-effect t c =
    untyped_stepped c.args.scope c.args.labels.now c.args.instr.now c.args.operands.now c.args.operands.now (Instr-F.F64Const c.in-F64Const.field-0) (ap layer c.in-F64Const.is ∙ layer_f64_const c.in-F64Const.field-0) tt (λ b a p. p)

pub check_instr-returns-in-FloatOp-clause-effect : goal.check_instr-returns-in-FloatOp-clause-effect
check_instr-returns-in-FloatOp-clause-effect t c =
    untyped_stepped c.args.scope c.args.labels.now c.args.instr.now c.args.operands.now c.args.operands.now (Instr-F.FloatOp c.in-FloatOp.field-0) (ap layer c.in-FloatOp.is ∙ layer_float_op c.in-FloatOp.field-0) tt (λ b a p. p)

pub check_instr-returns-then-not-branch-clause-effect : goal.check_instr-returns-then-not-branch-clause-effect
check_instr-returns-then-not-branch-clause-effect t c =
    block_refused c.args.scope c.args.labels.now c.args.instr.now c.args.operands.now c.args.operands.now c.in-Block.block_type c.in-Block.body (ap layer c.in-Block.is ∙ layer_block c.in-Block.block_type c.in-Block.body)
    (no_ c.in_ok-check_block-in-Block.field-0 (Types (context_in c.args.scope) ((results c.in-Block.block_type) ∷ labels_of c.args.labels.now) c.in-Block.body.items [] (results c.in-Block.block_type)) (subst (λ k. IsTrue c.in_ok-check_block-in-Block.field-0 ↔ Types (context_in c.args.scope) ((results c.in-Block.block_type) ∷ labels_of c.args.labels.now) k [] (results c.in-Block.block_type)) c.items.ensures c.in_ok-check_block-in-Block.ensures.typed) c.if-not-branch.true)

pub check_instr-returns-in_ok-leave_block-in-Block-clause-effect : goal.check_instr-returns-in_ok-leave_block-in-Block-clause-effect
check_instr-returns-in_ok-leave_block-in-Block-clause-effect t c =
    block_stepped c.args.scope c.args.labels.now c.args.instr.now c.args.operands.now c.leave_block.new.self c.in-Block.block_type c.in-Block.body (ap layer c.in-Block.is ∙ layer_block c.in-Block.block_type c.in-Block.body)
    (yes c.in_ok-check_block-in-Block.field-0 (Types (context_in c.args.scope) ((results c.in-Block.block_type) ∷ labels_of c.args.labels.now) c.in-Block.body.items [] (results c.in-Block.block_type)) (subst (λ k. IsTrue c.in_ok-check_block-in-Block.field-0 ↔ Types (context_in c.args.scope) ((results c.in-Block.block_type) ∷ labels_of c.args.labels.now) k [] (results c.in-Block.block_type)) c.items.ensures c.in_ok-check_block-in-Block.ensures.typed) c.if-not-branch.false)
    c.in_ok-leave_block-in-Block.ensures

pub check_instr-returns-then-not-branch-2-clause-effect : goal.check_instr-returns-then-not-branch-2-clause-effect
check_instr-returns-then-not-branch-2-clause-effect t c =
    loop_refused c.args.scope c.args.labels.now c.args.instr.now c.args.operands.now c.args.operands.now c.in-Loop.block_type c.in-Loop.body (ap layer c.in-Loop.is ∙ layer_loop c.in-Loop.block_type c.in-Loop.body)
    (no_ c.in_ok-check_block-in-Loop.field-0 (Types (context_in c.args.scope) ([] ∷ labels_of c.args.labels.now) c.in-Loop.body.items [] (results c.in-Loop.block_type)) (subst (λ k. IsTrue c.in_ok-check_block-in-Loop.field-0 ↔ Types (context_in c.args.scope) ([] ∷ labels_of c.args.labels.now) k [] (results c.in-Loop.block_type)) c.items-in-Loop.ensures c.in_ok-check_block-in-Loop.ensures.typed) c.if-not-branch-2.true)

pub check_instr-returns-in_ok-leave_block-in-Loop-clause-effect : goal.check_instr-returns-in_ok-leave_block-in-Loop-clause-effect
check_instr-returns-in_ok-leave_block-in-Loop-clause-effect t c =
    loop_stepped c.args.scope c.args.labels.now c.args.instr.now c.args.operands.now c.leave_block-in-Loop.new.self c.in-Loop.block_type c.in-Loop.body (ap layer c.in-Loop.is ∙ layer_loop c.in-Loop.block_type c.in-Loop.body)
    (yes c.in_ok-check_block-in-Loop.field-0 (Types (context_in c.args.scope) ([] ∷ labels_of c.args.labels.now) c.in-Loop.body.items [] (results c.in-Loop.block_type)) (subst (λ k. IsTrue c.in_ok-check_block-in-Loop.field-0 ↔ Types (context_in c.args.scope) ([] ∷ labels_of c.args.labels.now) k [] (results c.in-Loop.block_type)) c.items-in-Loop.ensures c.in_ok-check_block-in-Loop.ensures.typed) c.if-not-branch-2.false)
    c.in_ok-leave_block-in-Loop.ensures

pub check_instr-returns-then-not-branch-3-clause-effect : goal.check_instr-returns-then-not-branch-3-clause-effect
check_instr-returns-then-not-branch-3-clause-effect t c =
    first_refused c.args.scope c.args.labels.now c.args.instr.now c.args.operands.now c.args.operands.now c.in-If.block_type c.in-If.first c.in-If.second (ap layer c.in-If.is ∙ layer_if c.in-If.block_type c.in-If.first c.in-If.second)
    (no_ c.in_ok-check_block-in-If.field-0 (Types (context_in c.args.scope) ((results c.in-If.block_type) ∷ labels_of c.args.labels.now) c.in-If.first.items [] (results c.in-If.block_type)) (subst (λ k. IsTrue c.in_ok-check_block-in-If.field-0 ↔ Types (context_in c.args.scope) ((results c.in-If.block_type) ∷ labels_of c.args.labels.now) k [] (results c.in-If.block_type)) c.items-in-If.ensures c.in_ok-check_block-in-If.ensures.typed) c.if-not-branch-3.true)

pub check_instr-returns-then-not-branch-4-clause-effect : goal.check_instr-returns-then-not-branch-4-clause-effect
check_instr-returns-then-not-branch-4-clause-effect t c =
    second_refused c.args.scope c.args.labels.now c.args.instr.now c.args.operands.now c.args.operands.now c.in-If.block_type c.in-If.first c.in-If.second (ap layer c.in-If.is ∙ layer_if c.in-If.block_type c.in-If.first c.in-If.second)
    (no_ c.in_ok-check_block-in-If-2.field-0 (Types (context_in c.args.scope) ((results c.in-If.block_type) ∷ labels_of c.args.labels.now) c.in-If.second.items [] (results c.in-If.block_type)) (subst (λ k. IsTrue c.in_ok-check_block-in-If-2.field-0 ↔ Types (context_in c.args.scope) ((results c.in-If.block_type) ∷ labels_of c.args.labels.now) k [] (results c.in-If.block_type)) c.items-in-If-2.ensures (subst (λ k. IsTrue c.in_ok-check_block-in-If-2.field-0 ↔ Types (context_in c.args.scope) ((results c.in-If.block_type) ∷ labels_of k) c.items-in-If-2.result.now [] (results c.in-If.block_type)) c.in_ok-check_block-in-If.ensures.same c.in_ok-check_block-in-If-2.ensures.typed)) c.if-not-branch-4.true)

pub check_instr-returns-else-not-branch-4-clause-effect : goal.check_instr-returns-else-not-branch-4-clause-effect
check_instr-returns-else-not-branch-4-clause-effect t c =
    if_ok c.exchange.result (λ ok. Image (Changes (I32 ∷ []) (results c.in-If.block_type)) (Stand c.args.operands.now) (Stand c.exchange.new.self) ok) (λ ok. Stepped c.args.scope c.args.labels.now c.args.instr.now c.args.operands.now c.exchange.new.self ok)
    (λ ok h. if_stepped c.args.scope c.args.labels.now c.args.instr.now c.args.operands.now c.exchange.new.self c.in-If.block_type c.in-If.first c.in-If.second ok (ap layer c.in-If.is ∙ layer_if c.in-If.block_type c.in-If.first c.in-If.second)
    (yes c.in_ok-check_block-in-If.field-0 (Types (context_in c.args.scope) ((results c.in-If.block_type) ∷ labels_of c.args.labels.now) c.in-If.first.items [] (results c.in-If.block_type)) (subst (λ k. IsTrue c.in_ok-check_block-in-If.field-0 ↔ Types (context_in c.args.scope) ((results c.in-If.block_type) ∷ labels_of c.args.labels.now) k [] (results c.in-If.block_type)) c.items-in-If.ensures c.in_ok-check_block-in-If.ensures.typed) c.if-not-branch-3.false)
    (yes c.in_ok-check_block-in-If-2.field-0 (Types (context_in c.args.scope) ((results c.in-If.block_type) ∷ labels_of c.args.labels.now) c.in-If.second.items [] (results c.in-If.block_type)) (subst (λ k. IsTrue c.in_ok-check_block-in-If-2.field-0 ↔ Types (context_in c.args.scope) ((results c.in-If.block_type) ∷ labels_of c.args.labels.now) k [] (results c.in-If.block_type)) c.items-in-If-2.ensures (subst (λ k. IsTrue c.in_ok-check_block-in-If-2.field-0 ↔ Types (context_in c.args.scope) ((results c.in-If.block_type) ∷ labels_of k) c.items-in-If-2.result.now [] (results c.in-If.block_type)) c.in_ok-check_block-in-If.ensures.same c.in_ok-check_block-in-If-2.ensures.typed)) c.if-not-branch-4.false) h)
    c.exchange.ensures

pub check_code-loop-instr-init : goal.check_code-loop-instr-init
check_code-loop-instr-init t c =
    (begins (context_in c.args.scope) (labels_of c.args.labels.now) c.new-operands.result (ap (λ (o : Operands). o.kept) c.new-operands.ensures) (ap (λ (o : Operands). o.anything) c.new-operands.ensures), refl)

pub check_code-returns-then-not-branch-clause-typed : goal.check_code-returns-then-not-branch-clause-typed
check_code-returns-then-not-branch-clause-typed t c =
    let x = c.loop-instr.invariant in
    let s = c.args.scope in
    let i = c.instr-item.result in
    let o = c.loop-instr.operands in
    let n = c.check_instr.new.operands in
    let step : Stepped s c.args.labels.now i o n false = subst (λ ok. Stepped s c.args.labels.now i o n ok) c.if-not-branch.true (subst (λ ls. Stepped s ls i o n c.in_ok-check_instr.field-0) x.1 c.in_ok-check_instr.ensures.effect) in (
      (λ h. let f : false ≡ true = h in cc),
      (λ d. ends_here (context_in s) (labels_of c.args.labels.now) c.args.code.now c.loop-instr.instr-index i o n (results c.args.leaves) c.loop-instr-test.true c.instr-item.is x.0 step d),
    )

pub check_code-loop-instr-preserved : goal.check_code-loop-instr-preserved
check_code-loop-instr-preserved t c =
    let x = c.loop-instr.invariant in
    let s = c.args.scope in
    let i = c.instr-item.result in
    let o = c.loop-instr.operands in
    let n = c.check_instr.new.operands in
    let step : Stepped s c.args.labels.now i o n true = subst (λ ok. Stepped s c.args.labels.now i o n ok) c.if-not-branch.false (subst (λ ls. Stepped s ls i o n c.in_ok-check_instr.field-0) x.1 c.in_ok-check_instr.ensures.effect) in (
      goes_on (context_in s) (labels_of c.args.labels.now) c.args.code.now c.loop-instr.instr-index i o n c.loop-instr-test.true c.instr-item.is x.0 step,
      c.in_ok-check_instr.ensures.same ∙ x.1,
    )
