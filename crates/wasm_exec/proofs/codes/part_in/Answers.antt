use Rattle.std.proofs.Common.{◌∙◌, ap, sym}
use Rattle.std.specs.Prelude.{if◌then◌else◌}
use Rattle.wasm_ast.specs.Trees.{layer, layer_unreachable, layer_nop, layer_br, layer_br_if, layer_br_table, layer_return, layer_call, layer_call_indirect, layer_drop, layer_select, layer_local_get, layer_local_set, layer_local_tee, layer_global_get, layer_global_set, layer_load, layer_store, layer_memory_size, layer_memory_grow, layer_memory_copy, layer_memory_fill, layer_num, layer_float_memory, layer_f32_const, layer_f64_const, layer_float_op, layer_i32_const, layer_i64_const, layer_block, layer_loop, layer_if}
use Rattle.wasm_blocks.specs.Rest.{part_of}
use Rattle.wasm_exec.proofs.codes.part_in.Goals as goal

pub returns-in-Block : goal.returns-in-Block
returns-in-Block c = c.items.ensures ∙ sym (ap (part_of c.args.second) (ap layer c.in-Block.is ∙ layer_block c.in-Block.field-0 c.in-Block.body))

pub returns-in-Loop : goal.returns-in-Loop
returns-in-Loop c = c.items-in-Loop.ensures ∙ sym (ap (part_of c.args.second) (ap layer c.in-Loop.is ∙ layer_loop c.in-Loop.field-0 c.in-Loop.body))

pub returns-then-second : goal.returns-then-second
returns-then-second c =
    c.items-then-second.ensures ∙ sym (ap (part_of c.args.second) (ap layer c.in-If.is ∙ layer_if c.in-If.field-0 c.in-If.one c.in-If.two)
    ∙ ap (λ b. if b then c.in-If.two.items else c.in-If.one.items) c.if-second.true)

pub returns-else-second : goal.returns-else-second
returns-else-second c =
    c.items-else-second.ensures ∙ sym (ap (part_of c.args.second) (ap layer c.in-If.is ∙ layer_if c.in-If.field-0 c.in-If.one c.in-If.two)
    ∙ ap (λ b. if b then c.in-If.two.items else c.in-If.one.items) c.if-second.false)

pub returns-in-Unreachable : goal.returns-in-Unreachable
returns-in-Unreachable c = sym (ap (part_of c.args.second) (ap layer c.in-Unreachable.is ∙ layer_unreachable))

pub returns-in-Nop : goal.returns-in-Nop
returns-in-Nop c = sym (ap (part_of c.args.second) (ap layer c.in-Nop.is ∙ layer_nop))

pub returns-in-Br : goal.returns-in-Br
returns-in-Br c = sym (ap (part_of c.args.second) (ap layer c.in-Br.is ∙ layer_br c.in-Br.field-0))

pub returns-in-BrIf : goal.returns-in-BrIf
returns-in-BrIf c = sym (ap (part_of c.args.second) (ap layer c.in-BrIf.is ∙ layer_br_if c.in-BrIf.field-0))

pub returns-in-BrTable : goal.returns-in-BrTable
returns-in-BrTable c = sym (ap (part_of c.args.second) (ap layer c.in-BrTable.is ∙ layer_br_table c.in-BrTable.field-0 c.in-BrTable.field-1))

pub returns-in-Return : goal.returns-in-Return
returns-in-Return c = sym (ap (part_of c.args.second) (ap layer c.in-Return.is ∙ layer_return))

pub returns-in-Call : goal.returns-in-Call
returns-in-Call c = sym (ap (part_of c.args.second) (ap layer c.in-Call.is ∙ layer_call c.in-Call.field-0))

pub returns-in-CallIndirect : goal.returns-in-CallIndirect
returns-in-CallIndirect c = sym (ap (part_of c.args.second) (ap layer c.in-CallIndirect.is ∙ layer_call_indirect c.in-CallIndirect.field-0))

pub returns-in-Drop : goal.returns-in-Drop
returns-in-Drop c = sym (ap (part_of c.args.second) (ap layer c.in-Drop.is ∙ layer_drop))

pub returns-in-Select : goal.returns-in-Select
returns-in-Select c = sym (ap (part_of c.args.second) (ap layer c.in-Select.is ∙ layer_select))

pub returns-in-LocalGet : goal.returns-in-LocalGet
returns-in-LocalGet c = sym (ap (part_of c.args.second) (ap layer c.in-LocalGet.is ∙ layer_local_get c.in-LocalGet.field-0))

pub returns-in-LocalSet : goal.returns-in-LocalSet
returns-in-LocalSet c = sym (ap (part_of c.args.second) (ap layer c.in-LocalSet.is ∙ layer_local_set c.in-LocalSet.field-0))

pub returns-in-LocalTee : goal.returns-in-LocalTee
returns-in-LocalTee c = sym (ap (part_of c.args.second) (ap layer c.in-LocalTee.is ∙ layer_local_tee c.in-LocalTee.field-0))

pub returns-in-GlobalGet : goal.returns-in-GlobalGet
returns-in-GlobalGet c = sym (ap (part_of c.args.second) (ap layer c.in-GlobalGet.is ∙ layer_global_get c.in-GlobalGet.field-0))

pub returns-in-GlobalSet : goal.returns-in-GlobalSet
returns-in-GlobalSet c = sym (ap (part_of c.args.second) (ap layer c.in-GlobalSet.is ∙ layer_global_set c.in-GlobalSet.field-0))

pub returns-in-Load : goal.returns-in-Load
returns-in-Load c = sym (ap (part_of c.args.second) (ap layer c.in-Load.is ∙ layer_load c.in-Load.field-0 c.in-Load.field-1 c.in-Load.field-2))

pub returns-in-Store : goal.returns-in-Store
returns-in-Store c = sym (ap (part_of c.args.second) (ap layer c.in-Store.is ∙ layer_store c.in-Store.field-0 c.in-Store.field-1 c.in-Store.field-2))

pub returns-in-MemorySize : goal.returns-in-MemorySize
returns-in-MemorySize c = sym (ap (part_of c.args.second) (ap layer c.in-MemorySize.is ∙ layer_memory_size))

pub returns-in-MemoryGrow : goal.returns-in-MemoryGrow
returns-in-MemoryGrow c = sym (ap (part_of c.args.second) (ap layer c.in-MemoryGrow.is ∙ layer_memory_grow))

pub returns-in-MemoryCopy : goal.returns-in-MemoryCopy
returns-in-MemoryCopy c = sym (ap (part_of c.args.second) (ap layer c.in-MemoryCopy.is ∙ layer_memory_copy))

pub returns-in-MemoryFill : goal.returns-in-MemoryFill
returns-in-MemoryFill c = sym (ap (part_of c.args.second) (ap layer c.in-MemoryFill.is ∙ layer_memory_fill))

pub returns-in-Num : goal.returns-in-Num
returns-in-Num c = sym (ap (part_of c.args.second) (ap layer c.in-Num.is ∙ layer_num c.in-Num.field-0))

pub returns-in-FloatMemory : goal.returns-in-FloatMemory
returns-in-FloatMemory c = sym (ap (part_of c.args.second) (ap layer c.in-FloatMemory.is ∙ layer_float_memory c.in-FloatMemory.field-0 c.in-FloatMemory.field-1 c.in-FloatMemory.field-2))

pub returns-in-F32Const : goal.returns-in-F32Const
returns-in-F32Const c = sym (ap (part_of c.args.second) (ap layer c.in-F32Const.is ∙ layer_f32_const c.in-F32Const.field-0))

pub returns-in-F64Const : goal.returns-in-F64Const
returns-in-F64Const c = sym (ap (part_of c.args.second) (ap layer c.in-F64Const.is ∙ layer_f64_const c.in-F64Const.field-0))

pub returns-in-FloatOp : goal.returns-in-FloatOp
returns-in-FloatOp c = sym (ap (part_of c.args.second) (ap layer c.in-FloatOp.is ∙ layer_float_op c.in-FloatOp.field-0))

pub returns-in-I32Const : goal.returns-in-I32Const
returns-in-I32Const c = sym (ap (part_of c.args.second) (ap layer c.in-I32Const.is ∙ layer_i32_const c.in-I32Const.field-0))

pub returns-in-I64Const : goal.returns-in-I64Const
returns-in-I64Const c = sym (ap (part_of c.args.second) (ap layer c.in-I64Const.is ∙ layer_i64_const c.in-I64Const.field-0))
