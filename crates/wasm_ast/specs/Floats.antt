-- Where a module speaks of floats.
use Rattle.std.specs.Prelude.{List, Bool, true, false, ◌||◌, Option, Some, None}
use Rattle.std.specs.List.{list_any}
use Rattle.wasm_ast.specs.declared.val_types.ValType.{ValType}
use Rattle.wasm_ast.specs.declared.val_types.ValType.TheVariants.{I32, I64, F32, F64}
use Rattle.wasm_ast.specs.declared.trees.Instr.{Instr}
use Rattle.wasm_ast.specs.declared.trees.Instr.TheOpen.{Instr-F, Seq-F}
use Rattle.wasm_ast.specs.declared.trees.Instr.TheFolds.{fold-Instr}
use Rattle.wasm_ast.specs.declared.func_types.FuncType.{FuncType}
use Rattle.wasm_ast.specs.declared.global_vars.GlobalVar.{GlobalVar}
use Rattle.wasm_ast.specs.declared.bodies.Body.{Body}

-- a float type
abbrev pub is_float : ValType → Bool
is_float I32 = false
is_float I64 = false
is_float F32 = true
is_float F64 = true

-- a block that leaves a float
abbrev pub is_float_block : Option ValType → Bool
is_float_block None = false
is_float_block (Some t) = is_float t

-- one instruction is of floats, or has a part that is
abbrev pub float_step : Instr-F Bool Bool → Bool
float_step (Instr-F.Block bt body) = is_float_block bt || body
float_step (Instr-F.Loop bt body) = is_float_block bt || body
float_step (Instr-F.If bt first second) = is_float_block bt || (first || second)
float_step (Instr-F.FloatMemory op align offset) = true
float_step (Instr-F.F32Const n) = true
float_step (Instr-F.F64Const n) = true
float_step (Instr-F.FloatOp op) = true
float_step _ = false

-- an instruction of a list is so
abbrev pub float_among : Seq-F Bool Bool → Bool
float_among s = list_any (λ found. found) s.items

-- an instruction, or one within it, is of floats or leaves one
abbrev pub is_float_instr : Instr → Bool
is_float_instr = fold-Instr Bool Bool float_step float_among

-- an instruction of a list, or one within it, is of floats
abbrev pub has_float_code : List Instr → Bool
has_float_code code = list_any is_float_instr code

-- a function takes or gives a float
abbrev pub has_float_type : FuncType → Bool
has_float_type t = list_any is_float t.params || list_any is_float t.results

-- a global is of a float type, or its expression is of floats
abbrev pub has_float_global : GlobalVar → Bool
has_float_global g = is_float g.val_type || has_float_code g.initial.items

-- a body declares a float local, or its code is of floats
abbrev pub has_float_body : Body → Bool
has_float_body b = list_any is_float b.locals || has_float_code b.code.items
