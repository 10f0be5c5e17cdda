-- The endless loop.
use Rattle.std.proofs.Common.{◌≡◌, ◌<◌, ℕ, false, List, [], ◌∷◌, refl, ap, ◌∙◌, arith}
use Rattle.std.specs.Prelude.{None, zero, suc}
use Rattle.wasm_ast.specs.declared.val_types.ValType.{ValType}
use Rattle.wasm_ast.specs.declared.trees.Instr.{Instr}
use Rattle.wasm_ast.specs.declared.trees.Instr.TheOpen.{Instr-F}
use Rattle.wasm_ast.specs.declared.trees.Instr.TheVariants as V
use Rattle.wasm_ast.specs.Trees.{layer_loop, layer_br}
use Rattle.wasm_ast.specs.Spaces.{own, type_of}
use Rattle.wasm_ast.specs.Typing.{IsTyped, Types, Context, context_of, empty, loops}
use Rattle.wasm_ast.specs.Floats.{is_float_instr}
use Rattle.wasm_ast.proofs.Floats.{is_float_layer, is_float_by_layer}
use Rattle.wasm_ast.specs.Validity.{early_fault, handle_of, IsBodyTyped, Valid}
use Rattle.wasm_ast.specs.Spaces.{Function}
use Rattle.wasm_semantics.specs.Threads.{Thread, Goes}
use Rattle.wasm_semantics.specs.Units.{unit, units, units_from}
use Rattle.wasm_semantics.specs.Begin.{begin}
use Rattle.wasm_semantics.specs.Examples.{spin_store, spin_inside, level, frame, lone}
use Rattle.wasm_ast.specs.TestModules.{spin, spin_code, sequence}
use Rattle.wasm_ast.proofs.Derivations.{plainly, followed}
use Rattle.wasm_semantics.proofs.Written.{taken, one_more}

abbrev turn : Instr
turn = V.Loop None (sequence (V.Br 0 ∷ []))

branch_no_float : is_float_instr (V.Br 0) ≡ false
branch_no_float = is_float_by_layer (V.Br 0) ∙ ap is_float_layer (layer_br 0)

spin_no_float : is_float_instr turn ≡ false
spin_no_float = is_float_by_layer turn ∙ (ap is_float_layer (layer_loop None (sequence (V.Br 0 ∷ []))) ∙ rw (branch_no_float) refl)

spin_early : early_fault spin ≡ None
unfolding early_fault handle_of type_of
spin_early = rw (spin_no_float) refl

abbrev spinning : Function
spinning = record { signature = record { params = []; results = [] }; declared = []; code = spin_code }

turn_typed : (c : Context) (labels : List (List ValType)) → Types c ([] ∷ labels) (V.Br 0 ∷ []) [] []
turn_typed c labels = followed (empty c ([] ∷ labels) []) (plainly (Instr-F.Br 0) (layer_br 0) ([], refl, ([], refl)))

spin_typed : IsTyped spin spinning
spin_typed =
    followed (empty (context_of spin spinning) ([] ∷ []) [])
    (loops (context_of spin spinning) ([] ∷ []) turn None (sequence (V.Br 0 ∷ [])) [] [] (layer_loop None (sequence (V.Br 0 ∷ []))) (turn_typed (context_of spin spinning) ([] ∷ [])) refl)

body_typed : (k : ℕ) → k < 1 → IsBodyTyped spin k
body_typed zero h = (spinning, refl, spin_typed)
body_typed (suc k) h = absurd (omega arith)

pub spin_valid : Valid spin
spin_valid = record { early = spin_early; counts = refl; typed = body_typed }

abbrev outside : Thread
outside = lone spin_store (level [] spin_code ∷ [])

spin_begins : begin spin ≡ outside
unfolding begin own handle_of type_of
spin_begins = refl

enters : (pages : ℕ) → unit spin pages outside ≡ Goes spin_inside
enters pages =
    taken spin pages spin_store (frame (level [] spin_code ∷ [])) [] (level [] spin_code) [] turn [] (Instr-F.Loop None (sequence (V.Br 0 ∷ []))) refl refl (layer_loop None (sequence (V.Br 0 ∷ [])))

pub turns : (pages : ℕ) → unit spin pages spin_inside ≡ Goes outside
turns pages =
    taken spin pages spin_store (frame (record { values = []; code = V.Br 0 ∷ []; keeps = 0; target = spin_code } ∷ level [] [] ∷ [])) []
    (record { values = []; code = V.Br 0 ∷ []; keeps = 0; target = spin_code }) (level [] [] ∷ []) (V.Br 0) [] (Instr-F.Br 0) refl refl (layer_br 0)

pub spin_three : (pages : ℕ) → units spin pages (begin spin) 3 ≡ record { used = 3; stop = Goes spin_inside }
unfolding units
spin_three pages =
    ap (units_from spin pages 0 3) spin_begins
    ∙ (one_more spin pages 0 2 outside spin_inside (enters pages) ∙ (one_more spin pages 1 1 spin_inside outside (turns pages) ∙ one_more spin pages 2 0 outside spin_inside (enters pages)))

pub spin_four : (pages : ℕ) → units spin pages spin_inside 4 ≡ record { used = 4; stop = Goes spin_inside }
unfolding units
spin_four pages =
    one_more spin pages 0 3 spin_inside outside (turns pages)
    ∙ (one_more spin pages 1 2 outside spin_inside (enters pages)
    ∙ (one_more spin pages 2 1 spin_inside outside (turns pages) ∙ one_more spin pages 3 0 outside spin_inside (enters pages)))
