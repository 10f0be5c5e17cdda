-- Modules that are valid, and what typing accepts and refuses.
use Rattle.std.proofs.Common.{◌≡◌, ◌<◌, ◌^◌, ℕ, false, List, [], ◌∷◌, ◌++◌, length, refl, sym, ap, ◌∙◌, arith, lit<, lit≤}
use Rattle.std.proofs.lemmas.List.{append-nil}
use Rattle.std.specs.Prelude.{Some, None, suc, zero, reverse}
use Rattle.wasm_ast.specs.declared.val_types.ValType.{ValType}
use Rattle.wasm_ast.specs.declared.val_types.ValType.TheVariants.{I32}
use Rattle.wasm_ast.specs.declared.func_types.FuncType.{FuncType}
use Rattle.wasm_ast.specs.declared.trees.Instr.{Instr}
use Rattle.wasm_ast.specs.declared.trees.Instr.TheOpen.{Instr-F}
use Rattle.wasm_ast.specs.declared.trees.Instr.TheVariants as V
use Rattle.wasm_ast.specs.declared.modules.Module.{Module}
use Rattle.wasm_ast.specs.Trees.{layer_unreachable, layer_br_table, layer_call, layer_drop, layer_store, layer_memory_copy, layer_memory_fill, layer_i32_const, layer_num}
use Rattle.wasm_ast.specs.Spaces.{Function, function_at, type_of, import_of}
use Rattle.wasm_ast.specs.Operators.{Access, operator_type, unary_type, store_of}
use Rattle.wasm_ast.specs.Typing.{Context, Step, Types, IsTyped, empty}
use Rattle.wasm_ast.specs.Hosts.{host_named}
use Rattle.wasm_ast.specs.Floats.{is_float_instr}
use Rattle.wasm_ast.specs.Validity.{Valid, IsBodyTyped, early_fault, handle_of}
use Rattle.wasm_ast.specs.TestModules.{two_to_one, two_to_none, four_to_none, entry_type, one_page, echo, echo_code, built, fill, fill_code, give, give_code}
use Rattle.wasm_ast.specs.Refusals.{unreached_code, table_branch}
use Rattle.wasm_ast.proofs.Lists.{same_some}
use Rattle.wasm_ast.proofs.Floats.{is_float_layer, is_float_by_layer}
use Rattle.wasm_ast.proofs.Typings.{plain_of, uncons}
use Rattle.wasm_ast.proofs.Derivations.{plainly, followed}
use Rattle.wasm_ast.proofs.Refused.{const_no_float}

call_no_float : (n : ℕ) → is_float_instr (V.Call n) ≡ false
call_no_float n = is_float_by_layer (V.Call n) ∙ ap is_float_layer (layer_call n)

num_no_float : (n : ℕ) → is_float_instr (V.Num n) ≡ false
num_no_float n = is_float_by_layer (V.Num n) ∙ ap is_float_layer (layer_num n)

store_no_float : (op align offset : ℕ) → is_float_instr (V.Store op align offset) ≡ false
store_no_float op align offset = is_float_by_layer (V.Store op align offset) ∙ ap is_float_layer (layer_store op align offset)

copy_no_float : is_float_instr V.MemoryCopy ≡ false
copy_no_float = is_float_by_layer V.MemoryCopy ∙ ap is_float_layer layer_memory_copy

fill_no_float : is_float_instr V.MemoryFill ≡ false
fill_no_float = is_float_by_layer V.MemoryFill ∙ ap is_float_layer layer_memory_fill

-- single instructions
number : {c : Context} {labels : List (List ValType)} {b : List ValType} (n : ℕ) → n < 2 ^ 32 → Step c labels (V.I32Const n) b (I32 ∷ b)
number n h = plainly (Instr-F.I32Const n) (layer_i32_const n) (h, refl)

calls : {c : Context} {labels : List (List ValType)} (below : List ValType) (x : ℕ) (ft : FuncType) → type_of c.program x ≡ Some ft → Step c labels (V.Call x) (reverse ft.params ++ below) (ft.results ++ below)
calls below x ft e = plainly (Instr-F.Call x) (layer_call x) (ft, e, (below, refl, refl))

-- the one body of a module
one_body : (m : Module) (fn : Function) → length m.bodies ≡ 1 → function_at m 0 ≡ Some fn → IsTyped m fn → (k : ℕ) → k < length m.bodies → IsBodyTyped m k
one_body m fn e f t zero h = (fn, f, t)
one_body m fn e f t (suc k) h = absurd (omega arith)

abbrev handler : List Instr → Function
handler code = record { signature = entry_type; declared = []; code = code }

echo_early : early_fault echo ≡ None
unfolding early_fault handle_of type_of import_of host_named
echo_early = rw (const_no_float 0, const_no_float 65536, call_no_float 0, call_no_float 1) refl

echo_typed : IsTyped echo (handler echo_code)
unfolding type_of import_of
echo_typed =
    followed (followed (followed (followed (followed (empty _ _ []) (number 0 (lit< tt))) (number 0 (lit< tt))) (number 65536 (lit< tt))) (calls (I32 ∷ []) 0 two_to_one refl)) (calls [] 1 two_to_none refl)

pub echo_valid : Valid echo
echo_valid = record { early = echo_early; counts = refl; typed = one_body echo (handler echo_code) refl refl echo_typed }

built_early : early_fault built ≡ None
unfolding early_fault handle_of type_of import_of host_named
built_early = rw (const_no_float 1048576, const_no_float 0, const_no_float 65536, call_no_float 0, call_no_float 1, layer_i32_const 1048576) refl

built_typed : IsTyped built (handler echo_code)
unfolding type_of import_of
built_typed =
    followed (followed (followed (followed (followed (empty _ _ []) (number 0 (lit< tt))) (number 0 (lit< tt))) (number 65536 (lit< tt))) (calls (I32 ∷ []) 0 two_to_one refl)) (calls [] 1 two_to_none refl)

pub built_valid : Valid built
built_valid = record { early = built_early; counts = refl; typed = one_body built (handler echo_code) refl refl built_typed }

give_early : early_fault give ≡ None
unfolding early_fault handle_of type_of import_of host_named
give_early = rw (const_no_float 0, const_no_float 1, const_no_float 16, const_no_float 1024, call_no_float 0, call_no_float 1, layer_i32_const 0) refl

give_typed : IsTyped give (handler give_code)
unfolding type_of import_of
give_typed =
    followed (followed (followed (followed (followed (followed (followed (empty _ _ []) (number 0 (lit< tt))) (number 1 (lit< tt))) (number 16 (lit< tt))) (number 16 (lit< tt))) (number 1024 (lit< tt)))
    (calls (I32 ∷ I32 ∷ I32 ∷ []) 0 two_to_one refl)) (calls [] 1 four_to_none refl)

pub give_valid : Valid give
give_valid = record { early = give_early; counts = refl; typed = one_body give (handler give_code) refl refl give_typed }

fill_early : early_fault fill ≡ None
unfolding early_fault handle_of type_of import_of host_named
fill_early = rw (const_no_float 0, const_no_float 7, const_no_float 2, fill_no_float, const_no_float 1, copy_no_float, const_no_float 4, const_no_float 128, num_no_float 192, store_no_float 54 2 0, const_no_float 8, call_no_float 0) refl

word : Access
word = record { val_type = I32; width = 4; signed = false }

fill_typed : IsTyped fill (handler fill_code)
unfolding type_of import_of operator_type store_of
fill_typed =
    followed (followed (followed (followed (followed (followed (followed (followed (followed (followed (followed (followed (followed (followed (followed (empty _ _ [])
    (number 0 (lit< tt))) (number 7 (lit< tt))) (number 2 (lit< tt))) (plainly {a = []} Instr-F.MemoryFill layer_memory_fill (one_page, refl, refl)))
    (number 1 (lit< tt))) (number 0 (lit< tt))) (number 2 (lit< tt))) (plainly {a = []} Instr-F.MemoryCopy layer_memory_copy (one_page, refl, refl)))
    (number 4 (lit< tt))) (number 128 (lit< tt))) (plainly {a = I32 ∷ I32 ∷ []} (Instr-F.Num 192) (layer_num 192) (unary_type I32, refl, (I32 ∷ [], refl, refl))))
    (plainly {a = []} (Instr-F.Store 54 2 0) (layer_store 54 2 0) (record { val_type = I32; width = 4; signed = false }, refl, lit≤ tt, (one_page, refl), refl)))
    (number 0 (lit< tt))) (number 8 (lit< tt))) (calls [] 0 two_to_none refl)

pub fill_valid : Valid fill
fill_valid = record { early = fill_early; counts = refl; typed = one_body fill (handler fill_code) refl refl fill_typed }

-- code after an unconditional branch, and code that lacks an operand
pub unreached : (c : Context) (labels : List (List ValType)) → Types c labels unreached_code [] (I32 ∷ [])
unreached c labels =
    followed (followed (followed (empty c labels []) (plainly {a = I32 ∷ []} Instr-F.Unreachable layer_unreachable tt)) (plainly {a = []} Instr-F.Drop layer_drop (I32, refl))) (number 1 (lit< tt))

pub no_operand : (c : Context) (labels : List (List ValType)) (rest : List Instr) (after : List ValType) → Types c labels (V.Drop ∷ rest) [] after → ⊥
no_operand c labels rest after t =
    let u = uncons c labels (V.Drop ∷ rest) V.Drop rest [] after t refl in
    let p = plain_of c labels V.Drop [] u.0 Instr-F.Drop u.1 layer_drop tt in
    let clash = p.1 in
    cc

-- targets of one type, and of different types
pub targets_same : (c : Context) (labels : List (List ValType)) (ts : List ValType) (after : List ValType) → Types c (ts ∷ (ts ∷ labels)) table_branch (I32 ∷ ts) after
targets_same c labels ts after =
    followed (empty c (ts ∷ (ts ∷ labels)) (I32 ∷ ts)) (plainly (Instr-F.BrTable (0 ∷ []) 1) (layer_br_table (0 ∷ []) 1) (ts, (refl, tt), refl, ([], ap (λ us. I32 ∷ us) (sym (append-nil ts)))))

pub targets_differ : (c : Context) (labels : List (List ValType)) (ts us before after : List ValType) → (ts ≡ us → ⊥) → Types c (ts ∷ (us ∷ labels)) table_branch before after → ⊥
targets_differ c labels ts us before after n t =
    let u = uncons c (ts ∷ (us ∷ labels)) table_branch (V.BrTable (0 ∷ []) 1) [] before after t refl in
    let p = plain_of c (ts ∷ (us ∷ labels)) (V.BrTable (0 ∷ []) 1) before u.0 (Instr-F.BrTable (0 ∷ []) 1) u.1 (layer_br_table (0 ∷ []) 1) tt in
    n (same_some ts p.0 p.1.0 ∙ sym (same_some us p.0 p.2))
