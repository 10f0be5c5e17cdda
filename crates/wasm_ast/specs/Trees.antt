-- Instructions, one level at a time: an instruction's kind, its numbers and its sequences.
use Rattle.std.specs.Prelude.{ℕ, ◌≡◌, List, Option}
use Rattle.std.proofs.Common.{ap, ◌∙◌, sym}
use Rattle.wasm_ast.specs.declared.val_types.ValType.{ValType}
use Rattle.wasm_ast.specs.declared.trees.Seq.{Seq}
use Rattle.wasm_ast.specs.declared.trees.Instr.{Instr, out-Instr}
use Rattle.wasm_ast.specs.declared.trees.Instr.TheOpen.{Instr-F}
use Rattle.wasm_ast.specs.declared.trees.Instr.TheVariants as V
use Rattle.wasm_ast.specs.declared.trees.Instr.TheVariants.{rolls-Unreachable, rolls-Nop, rolls-Block, rolls-Loop, rolls-If}
use Rattle.wasm_ast.specs.declared.trees.Instr.TheVariants.{rolls-Br, rolls-BrIf, rolls-BrTable, rolls-Return, rolls-Call}
use Rattle.wasm_ast.specs.declared.trees.Instr.TheVariants.{rolls-CallIndirect, rolls-Drop, rolls-Select, rolls-LocalGet, rolls-LocalSet}
use Rattle.wasm_ast.specs.declared.trees.Instr.TheVariants.{rolls-LocalTee, rolls-GlobalGet, rolls-GlobalSet, rolls-Load, rolls-Store}
use Rattle.wasm_ast.specs.declared.trees.Instr.TheVariants.{rolls-MemorySize, rolls-MemoryGrow, rolls-MemoryCopy, rolls-MemoryFill}
use Rattle.wasm_ast.specs.declared.trees.Instr.TheVariants.{rolls-I32Const, rolls-I64Const, rolls-Num, rolls-FloatMemory, rolls-F32Const}
use Rattle.wasm_ast.specs.declared.trees.Instr.TheVariants.{rolls-F64Const, rolls-FloatOp}
use Rattle.wasm_ast.specs.declared.trees.Instr.TheViews.{out-roll-Instr}

-- one level of an instruction
abbrev pub Layer : Type 0
Layer = Instr-F Instr Seq

-- the outer level of an instruction
unfoldable pub layer : Instr → Layer
layer i = out-Instr i

pub layer_unreachable : layer V.Unreachable ≡ Instr-F.Unreachable
unfolding layer
layer_unreachable = ap out-Instr (sym rolls-Unreachable) ∙ out-roll-Instr _

pub layer_nop : layer V.Nop ≡ Instr-F.Nop
unfolding layer
layer_nop = ap out-Instr (sym rolls-Nop) ∙ out-roll-Instr _

pub layer_block : (bt : Option ValType) (body : Seq) → layer (V.Block bt body) ≡ Instr-F.Block bt body
unfolding layer
layer_block bt body = ap out-Instr (sym (rolls-Block bt body)) ∙ out-roll-Instr _

pub layer_loop : (bt : Option ValType) (body : Seq) → layer (V.Loop bt body) ≡ Instr-F.Loop bt body
unfolding layer
layer_loop bt body = ap out-Instr (sym (rolls-Loop bt body)) ∙ out-roll-Instr _

pub layer_if : (bt : Option ValType) (first second : Seq) → layer (V.If bt first second) ≡ Instr-F.If bt first second
unfolding layer
layer_if bt first second = ap out-Instr (sym (rolls-If bt first second)) ∙ out-roll-Instr _

pub layer_br : (n : ℕ) → layer (V.Br n) ≡ Instr-F.Br n
unfolding layer
layer_br n = ap out-Instr (sym (rolls-Br n)) ∙ out-roll-Instr _

pub layer_br_if : (n : ℕ) → layer (V.BrIf n) ≡ Instr-F.BrIf n
unfolding layer
layer_br_if n = ap out-Instr (sym (rolls-BrIf n)) ∙ out-roll-Instr _

pub layer_br_table : (ns : List ℕ) (n : ℕ) → layer (V.BrTable ns n) ≡ Instr-F.BrTable ns n
unfolding layer
layer_br_table ns n = ap out-Instr (sym (rolls-BrTable ns n)) ∙ out-roll-Instr _

pub layer_return : layer V.Return ≡ Instr-F.Return
unfolding layer
layer_return = ap out-Instr (sym rolls-Return) ∙ out-roll-Instr _

pub layer_call : (n : ℕ) → layer (V.Call n) ≡ Instr-F.Call n
unfolding layer
layer_call n = ap out-Instr (sym (rolls-Call n)) ∙ out-roll-Instr _

pub layer_call_indirect : (n : ℕ) → layer (V.CallIndirect n) ≡ Instr-F.CallIndirect n
unfolding layer
layer_call_indirect n = ap out-Instr (sym (rolls-CallIndirect n)) ∙ out-roll-Instr _

pub layer_drop : layer V.Drop ≡ Instr-F.Drop
unfolding layer
layer_drop = ap out-Instr (sym rolls-Drop) ∙ out-roll-Instr _

pub layer_select : layer V.Select ≡ Instr-F.Select
unfolding layer
layer_select = ap out-Instr (sym rolls-Select) ∙ out-roll-Instr _

pub layer_local_get : (n : ℕ) → layer (V.LocalGet n) ≡ Instr-F.LocalGet n
unfolding layer
layer_local_get n = ap out-Instr (sym (rolls-LocalGet n)) ∙ out-roll-Instr _

pub layer_local_set : (n : ℕ) → layer (V.LocalSet n) ≡ Instr-F.LocalSet n
unfolding layer
layer_local_set n = ap out-Instr (sym (rolls-LocalSet n)) ∙ out-roll-Instr _

pub layer_local_tee : (n : ℕ) → layer (V.LocalTee n) ≡ Instr-F.LocalTee n
unfolding layer
layer_local_tee n = ap out-Instr (sym (rolls-LocalTee n)) ∙ out-roll-Instr _

pub layer_global_get : (n : ℕ) → layer (V.GlobalGet n) ≡ Instr-F.GlobalGet n
unfolding layer
layer_global_get n = ap out-Instr (sym (rolls-GlobalGet n)) ∙ out-roll-Instr _

pub layer_global_set : (n : ℕ) → layer (V.GlobalSet n) ≡ Instr-F.GlobalSet n
unfolding layer
layer_global_set n = ap out-Instr (sym (rolls-GlobalSet n)) ∙ out-roll-Instr _

pub layer_load : (op align offset : ℕ) → layer (V.Load op align offset) ≡ Instr-F.Load op align offset
unfolding layer
layer_load op align offset = ap out-Instr (sym (rolls-Load op align offset)) ∙ out-roll-Instr _

pub layer_store : (op align offset : ℕ) → layer (V.Store op align offset) ≡ Instr-F.Store op align offset
unfolding layer
layer_store op align offset = ap out-Instr (sym (rolls-Store op align offset)) ∙ out-roll-Instr _

pub layer_memory_size : layer V.MemorySize ≡ Instr-F.MemorySize
unfolding layer
layer_memory_size = ap out-Instr (sym rolls-MemorySize) ∙ out-roll-Instr _

pub layer_memory_grow : layer V.MemoryGrow ≡ Instr-F.MemoryGrow
unfolding layer
layer_memory_grow = ap out-Instr (sym rolls-MemoryGrow) ∙ out-roll-Instr _

pub layer_memory_copy : layer V.MemoryCopy ≡ Instr-F.MemoryCopy
unfolding layer
layer_memory_copy = ap out-Instr (sym rolls-MemoryCopy) ∙ out-roll-Instr _

pub layer_memory_fill : layer V.MemoryFill ≡ Instr-F.MemoryFill
unfolding layer
layer_memory_fill = ap out-Instr (sym rolls-MemoryFill) ∙ out-roll-Instr _

pub layer_i32_const : (n : ℕ) → layer (V.I32Const n) ≡ Instr-F.I32Const n
unfolding layer
layer_i32_const n = ap out-Instr (sym (rolls-I32Const n)) ∙ out-roll-Instr _

pub layer_i64_const : (n : ℕ) → layer (V.I64Const n) ≡ Instr-F.I64Const n
unfolding layer
layer_i64_const n = ap out-Instr (sym (rolls-I64Const n)) ∙ out-roll-Instr _

pub layer_num : (n : ℕ) → layer (V.Num n) ≡ Instr-F.Num n
unfolding layer
layer_num n = ap out-Instr (sym (rolls-Num n)) ∙ out-roll-Instr _

pub layer_float_memory : (op align offset : ℕ) → layer (V.FloatMemory op align offset) ≡ Instr-F.FloatMemory op align offset
unfolding layer
layer_float_memory op align offset = ap out-Instr (sym (rolls-FloatMemory op align offset)) ∙ out-roll-Instr _

pub layer_f32_const : (n : ℕ) → layer (V.F32Const n) ≡ Instr-F.F32Const n
unfolding layer
layer_f32_const n = ap out-Instr (sym (rolls-F32Const n)) ∙ out-roll-Instr _

pub layer_f64_const : (n : ℕ) → layer (V.F64Const n) ≡ Instr-F.F64Const n
unfolding layer
layer_f64_const n = ap out-Instr (sym (rolls-F64Const n)) ∙ out-roll-Instr _

pub layer_float_op : (n : ℕ) → layer (V.FloatOp n) ≡ Instr-F.FloatOp n
unfolding layer
layer_float_op n = ap out-Instr (sym (rolls-FloatOp n)) ∙ out-roll-Instr _
