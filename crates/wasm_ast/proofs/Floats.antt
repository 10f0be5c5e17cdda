-- Floats in an instruction, one level at a time.
use Rattle.std.proofs.Common.{◌∙◌, ap, refl}
use Rattle.std.specs.Prelude.{◌≡◌, List, Bool, true, false, ◌||◌, [], ◌∷◌, map}
use Rattle.std.specs.List.{list_any}
use Rattle.wasm_ast.specs.declared.trees.Seq.{Seq}
use Rattle.wasm_ast.specs.declared.trees.Instr.{Instr}
use Rattle.wasm_ast.specs.declared.trees.Instr.TheOpen.{Instr-F}
use Rattle.wasm_ast.specs.declared.trees.Instr.TheFolds.{fold-Seq, map-Instr, fold_out-Instr, fold_out-Seq}
use Rattle.wasm_ast.specs.Trees.{Layer, layer}
use Rattle.wasm_ast.specs.Floats.{is_float_block, float_step, float_among, is_float_instr, has_float_code}

-- the outer level of an instruction is of floats, or a part of it
abbrev pub is_float_layer : Layer → Bool
is_float_layer (Instr-F.Block bt body) = is_float_block bt || has_float_code body.items
is_float_layer (Instr-F.Loop bt body) = is_float_block bt || has_float_code body.items
is_float_layer (Instr-F.If bt first second) = is_float_block bt || (has_float_code first.items || has_float_code second.items)
is_float_layer (Instr-F.FloatMemory op align offset) = true
is_float_layer (Instr-F.F32Const n) = true
is_float_layer (Instr-F.F64Const n) = true
is_float_layer (Instr-F.FloatOp op) = true
is_float_layer _ = false

any_mapped : (code : List Instr) → list_any (λ found. found) (map is_float_instr code) ≡ has_float_code code
any_mapped [] = refl
any_mapped (i ∷ code) = ap (λ b. is_float_instr i || b) (any_mapped code)

float_seq : (s : Seq) → fold-Seq Bool Bool float_step float_among s ≡ has_float_code s.items
float_seq s = fold_out-Seq Bool Bool float_step float_among s ∙ any_mapped s.items

float_layer : (y : Layer) → float_step (map-Instr Instr Seq Bool Bool is_float_instr (fold-Seq Bool Bool float_step float_among) y) ≡ is_float_layer y
float_layer (Instr-F.Block bt body) = ap (λ b. is_float_block bt || b) (float_seq body)
float_layer (Instr-F.Loop bt body) = ap (λ b. is_float_block bt || b) (float_seq body)
float_layer (Instr-F.If bt first second) = ap (λ b. is_float_block bt || (b || fold-Seq Bool Bool float_step float_among second)) (float_seq first) ∙ ap (λ b. is_float_block bt || (has_float_code first.items || b)) (float_seq second)
float_layer _ = refl

pub is_float_by_layer : (i : Instr) → is_float_instr i ≡ is_float_layer (layer i)
unfolding layer
is_float_by_layer i = fold_out-Instr Bool Bool float_step float_among i ∙ float_layer (layer i)
