-- The modules of the exercise are valid.
use Rattle.std.proofs.Common.{◌≡◌, ◌<◌, ◌^◌, ℕ, false, List, [], ◌∷◌, ◌++◌, length, refl, ap, ◌∙◌, arith, lit<}
use Rattle.std.specs.Prelude.{Some, None, suc, zero, reverse, slice_get}
use Rattle.wasm_ast.specs.declared.val_types.ValType.{ValType}
use Rattle.wasm_ast.specs.declared.val_types.ValType.TheVariants.{I32}
use Rattle.wasm_ast.specs.declared.func_types.FuncType.{FuncType}
use Rattle.wasm_ast.specs.declared.trees.Instr.{Instr}
use Rattle.wasm_ast.specs.declared.trees.Instr.TheOpen.{Instr-F}
use Rattle.wasm_ast.specs.declared.trees.Instr.TheVariants as V
use Rattle.wasm_ast.specs.declared.modules.Module.{Module}
use Rattle.wasm_ast.specs.Trees.{layer_call, layer_drop, layer_i32_const, layer_local_get, layer_local_set}
use Rattle.wasm_ast.specs.Spaces.{Function, function_at, type_of, import_of}
use Rattle.wasm_ast.specs.Typing.{Context, Step, IsTyped, empty}
use Rattle.wasm_ast.specs.Hosts.{host_named}
use Rattle.wasm_ast.specs.Floats.{is_float_instr}
use Rattle.wasm_ast.specs.Validity.{Valid, IsBodyTyped, early_fault, handle_of}
use Rattle.wasm_ast.specs.TestModules.{two_to_one, two_to_none, four_to_one, four_to_none, entry_type, lift, lift_code, look, look_code, store, store_code, twin, twin_code}
use Rattle.wasm_ast.proofs.Floats.{is_float_layer, is_float_by_layer}
use Rattle.wasm_ast.proofs.Derivations.{plainly, followed}
use Rattle.wasm_ast.proofs.Refused.{const_no_float}

call_no_float : (n : ℕ) → is_float_instr (V.Call n) ≡ false
call_no_float n = is_float_by_layer (V.Call n) ∙ ap is_float_layer (layer_call n)

get_no_float : (n : ℕ) → is_float_instr (V.LocalGet n) ≡ false
get_no_float n = is_float_by_layer (V.LocalGet n) ∙ ap is_float_layer (layer_local_get n)

set_no_float : (n : ℕ) → is_float_instr (V.LocalSet n) ≡ false
set_no_float n = is_float_by_layer (V.LocalSet n) ∙ ap is_float_layer (layer_local_set n)

drop_no_float : is_float_instr V.Drop ≡ false
drop_no_float = is_float_by_layer V.Drop ∙ ap is_float_layer layer_drop

-- single instructions
number : {c : Context} {labels : List (List ValType)} {b : List ValType} (n : ℕ) → n < 2 ^ 32 → Step c labels (V.I32Const n) b (I32 ∷ b)
number n h = plainly (Instr-F.I32Const n) (layer_i32_const n) (h, refl)

calls : {c : Context} {labels : List (List ValType)} (below : List ValType) (x : ℕ) (ft : FuncType) → type_of c.program x ≡ Some ft → Step c labels (V.Call x) (reverse ft.params ++ below) (ft.results ++ below)
calls below x ft e = plainly (Instr-F.Call x) (layer_call x) (ft, e, (below, refl, refl))

gets : {c : Context} {labels : List (List ValType)} {b : List ValType} (x : ℕ) → slice_get c.locals x ≡ Some I32 → Step c labels (V.LocalGet x) b (I32 ∷ b)
gets x e = plainly (Instr-F.LocalGet x) (layer_local_get x) (I32, e, refl)

sets : {c : Context} {labels : List (List ValType)} (a : List ValType) (x : ℕ) → slice_get c.locals x ≡ Some I32 → Step c labels (V.LocalSet x) (I32 ∷ a) a
sets a x e = plainly (Instr-F.LocalSet x) (layer_local_set x) (I32, e, refl)

drops : {c : Context} {labels : List (List ValType)} (a : List ValType) → Step c labels V.Drop (I32 ∷ a) a
drops a = plainly Instr-F.Drop layer_drop (I32, refl)

-- the one body of a module
one_body : (m : Module) (fn : Function) → length m.bodies ≡ 1 → function_at m 0 ≡ Some fn → IsTyped m fn → (k : ℕ) → k < length m.bodies → IsBodyTyped m k
one_body m fn e f t zero h = (fn, f, t)
one_body m fn e f t (suc k) h = absurd (omega arith)

abbrev handler : List ValType → List Instr → Function
handler locals code = record { signature = entry_type; declared = locals; code = code }

lift_early : early_fault lift ≡ None
unfolding early_fault handle_of type_of import_of host_named
lift_early = rw (const_no_float 0, const_no_float 5, call_no_float 1, const_no_float 16, const_no_float 1024, call_no_float 0, call_no_float 2, layer_i32_const 0) refl

lift_typed : IsTyped lift (handler [] lift_code)
unfolding type_of import_of
lift_typed =
    followed (followed (followed (followed (followed (followed (followed (followed (empty _ _ []) (number 0 (lit< tt))) (number 5 (lit< tt))) (calls [] 1 two_to_none refl))
    (number 16 (lit< tt))) (number 16 (lit< tt))) (number 1024 (lit< tt))) (calls (I32 ∷ []) 0 two_to_one refl)) (calls [] 2 two_to_none refl)

pub lift_valid : Valid lift
lift_valid = record { early = lift_early; counts = refl; typed = one_body lift (handler [] lift_code) refl refl lift_typed }

look_early : early_fault look ≡ None
unfolding early_fault handle_of type_of import_of host_named
look_early = rw (const_no_float 16, const_no_float 0, const_no_float 1, const_no_float 1024, call_no_float 0, call_no_float 1, layer_i32_const 0) refl

look_typed : IsTyped look (handler [] look_code)
unfolding type_of import_of
look_typed =
    followed (followed (followed (followed (followed (followed (followed (empty _ _ []) (number 16 (lit< tt))) (number 0 (lit< tt))) (number 1 (lit< tt))) (number 16 (lit< tt))) (number 1024 (lit< tt)))
    (calls (I32 ∷ []) 0 four_to_one refl)) (calls [] 1 two_to_none refl)

pub look_valid : Valid look
look_valid = record { early = look_early; counts = refl; typed = one_body look (handler [] look_code) refl refl look_typed }

store_early : early_fault store ≡ None
unfolding early_fault handle_of type_of import_of host_named
store_early = rw (const_no_float 0, const_no_float 1, const_no_float 16, const_no_float 1024, call_no_float 0, call_no_float 1, drop_no_float, layer_i32_const 0) refl

store_typed : IsTyped store (handler [] store_code)
unfolding type_of import_of
store_typed =
    followed (followed (followed (followed (followed (followed (followed (followed (empty _ _ []) (number 0 (lit< tt))) (number 1 (lit< tt))) (number 16 (lit< tt))) (number 16 (lit< tt))) (number 1024 (lit< tt)))
    (calls (I32 ∷ I32 ∷ I32 ∷ []) 0 two_to_one refl)) (calls [] 1 four_to_one refl)) (drops [])

pub store_valid : Valid store
store_valid = record { early = store_early; counts = refl; typed = one_body store (handler [] store_code) refl refl store_typed }

twin_early : early_fault twin ≡ None
unfolding early_fault handle_of type_of import_of host_named
twin_early = rw (const_no_float 16, const_no_float 1024, call_no_float 0, set_no_float 0, const_no_float 0, const_no_float 4, get_no_float 0, call_no_float 1, layer_i32_const 0) refl

twin_typed : IsTyped twin (handler (I32 ∷ []) twin_code)
unfolding type_of import_of
twin_typed =
    followed (followed (followed (followed (followed (followed (followed (followed (followed (followed (followed (followed (followed (followed (empty _ _ [])
    (number 16 (lit< tt))) (number 1024 (lit< tt))) (calls [] 0 two_to_one refl)) (sets [] 0 refl))
    (number 0 (lit< tt))) (number 4 (lit< tt))) (number 16 (lit< tt))) (gets 0 refl)) (calls [] 1 four_to_none refl))
    (number 0 (lit< tt))) (number 4 (lit< tt))) (number 16 (lit< tt))) (gets 0 refl)) (calls [] 1 four_to_none refl)

pub twin_valid : Valid twin
twin_valid = record { early = twin_early; counts = refl; typed = one_body twin (handler (I32 ∷ []) twin_code) refl refl twin_typed }
