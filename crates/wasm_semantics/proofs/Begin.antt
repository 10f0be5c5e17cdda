-- The thread that a valid module begins with is of the module.
use Rattle.std.proofs.Common.{◌≡◌, ◌≤◌, ◌<◌, ◌+◌, ◌*◌, ◌^◌, min, ℕ, Bool, true, false, List, [], ◌∷◌, ◌++◌, length, map, replicate, refl, sym, ap, subst, ◌∙◌, arith}
use Rattle.std.specs.Prelude.{Option, Some, None, IsTrue, slice_get, suc, nat_lt, nat_le, if◌then◌else◌, find, option_map, bytes_eq, ◌&&◌}
use Rattle.std.specs.List.{list_all}
use Rattle.std.proofs.lemmas.List.{length-replicate}
use Rattle.std.proofs.lemmas.Bool.Decides.{nat_tests}
use lib.Chars.{codes}
use Rattle.wasm_ast.specs.declared.val_types.ValType.{ValType}
use Rattle.wasm_ast.specs.declared.val_types.ValType.TheVariants.{I32, I64}
use Rattle.wasm_ast.specs.declared.func_types.FuncType.{FuncType}
use Rattle.wasm_ast.specs.declared.memory_types.MemoryType.{MemoryType}
use Rattle.wasm_ast.specs.declared.global_vars.GlobalVar.{GlobalVar}
use Rattle.wasm_ast.specs.declared.imports.Import.{Import}
use Rattle.wasm_ast.specs.declared.exports.Export.{Export}
use Rattle.wasm_ast.specs.declared.elements.Element.{Element}
use Rattle.wasm_ast.specs.declared.trees.Instr.{Instr}
use Rattle.wasm_ast.specs.declared.trees.Instr.TheOpen.{Instr-F}
use Rattle.wasm_ast.specs.declared.modules.Module.{Module}
use Rattle.wasm_ast.specs.Trees.{Layer, layer}
use Rattle.wasm_ast.specs.Spaces.{Function, own, type_of, imported_type, memory_of, least_pages, table_size, upto}
use Rattle.wasm_ast.specs.Bytes.{placed, first_memory}
use Rattle.wasm_ast.specs.declared.hosts.HostName.{HostName}
use Rattle.wasm_ast.specs.declared.hosts.HostName.TheVariants.{Input, Read, Write, Delete, Send, Raise, Reply, OwnLabel, Release}
use Rattle.wasm_ast.specs.Hosts.{host_params}
use Rattle.wasm_ast.specs.Structure.{constant, constant_at, constant_value, value_of, is_constant_of, is_at_most, has_most_pages, is_memory, is_global, is_entry_type, is_start, is_handle, is_function}
use Rattle.wasm_ast.specs.Validity.{Valid, handle_of, handle_fault}
use Rattle.wasm_semantics.specs.Threads.{Frame}
use Rattle.wasm_semantics.specs.Control.{first_frame, zeros}
use Rattle.wasm_semantics.specs.Begin.{set_entries, with_elements, frame_of, entry_frame, begin}
use Rattle.wasm_semantics.specs.OfModule.{Fits, Holds, IsMemory, IsFrame, Frames, Running, IsOf}
use Rattle.wasm_ast.proofs.Lists.{same_some, both_true, find_passes}
use Rattle.wasm_semantics.proofs.Values.{holds_zeros}
use Rattle.wasm_semantics.proofs.Combinators.{at_most}
use Rattle.wasm_ast.proofs.Lengths.{length_placed}
use Rattle.wasm_ast.proofs.Segments.{ElementsFit, elements_fit, length_first, is_memory_of}
use Rattle.wasm_semantics.proofs.Tables.{first_table_is}
use Rattle.wasm_ast.proofs.Valids.{kept, rule, type_is, kind_is, host_at, type_of_import, Lent, lent, Owned, owned, own_typed}

-- the table
length_entries : (xs : List ℕ) → length (set_entries xs) ≡ length xs
length_entries [] = refl
length_entries (x ∷ xs) = ap (λ n. suc n) (length_entries xs)

length_elements : (n : ℕ) (table : List (Option ℕ)) (es : List Element) → length table ≡ n → ElementsFit n es → length (with_elements table es) ≡ n
length_elements n table [] e h = e
length_elements n table (s ∷ es) e h =
    let fits = h 0 s refl in
    let long : constant_value s.offset.items + length (set_entries s.members) ≤ length table = omega (arith, length_entries s.members) in
    length_elements n (placed table (constant_value s.offset.items) (set_entries s.members)) es (length_placed table (constant_value s.offset.items) (set_entries s.members) long ∙ e) (λ k q f. h (suc k) q f)

-- the memory
no_length : {A : Type 0} (xs : List A) → length xs ≡ 0 → xs ≡ []
no_length [] e = refl
no_length (x ∷ xs) e = absurd (omega arith)

within_upto : (n : ℕ) (o : Option ℕ) → IsTrue (is_at_most n o) → n ≤ 65536 → n ≤ min 65536 (upto o)
within_upto n None h l = omega arith
within_upto n (Some k) h l = let e = at_most n k h in omega arith

memory_begins : (o : Option MemoryType) (bytes : List ℕ) → ((t : MemoryType) → o ≡ Some t → IsTrue (is_memory t)) → length bytes ≡ least_pages o * 65536 → IsMemory o bytes
memory_begins None bytes h e = no_length bytes (omega (arith, e))
memory_begins (Some t) bytes h e =
    let test = both_true (is_at_most t.minimum t.maximum) (nat_le t.minimum 65536 && has_most_pages t.maximum) (h t refl) in
    let small = at_most t.minimum 65536 (both_true (nat_le t.minimum 65536) (has_most_pages t.maximum) test.1).0 in
    (t.minimum, e, omega arith, within_upto t.minimum t.maximum test.0 small)

first_memory_is : (m : Module) → Valid m → IsMemory (memory_of m) (first_memory m)
first_memory_is m valid = memory_begins (memory_of m) (first_memory m) (is_memory_of m valid) (length_first m valid)

-- the globals
bounded : (n k : ℕ) (t : ValType) (c : ValType × ℕ) → (if nat_lt n k then Some (t, n) else None) ≡ Some c → (n < k) × (c ≡ (t, n))
bounded n k t c e = by_test (nat_lt n k) refl e where
  by_test : (b : Bool) → nat_lt n k ≡ b → (if b then Some (t, n) else None) ≡ Some c → (n < k) × (c ≡ (t, n))
  by_test true q f = (grind (arith, nat_tests), sym (same_some (t, n) c f))
  by_test false q f = cc

constant_fits : (y : Layer) (c : ValType × ℕ) → constant_at y ≡ Some c → Fits c.0 c.1
constant_fits (Instr-F.I32Const n) c e = let b = bounded n (2 ^ 32) I32 c e in subst (λ (k : ValType × ℕ). Fits k.0 k.1) (sym b.1) b.0
constant_fits (Instr-F.I64Const n) c e = let b = bounded n (2 ^ 64) I64 c e in subst (λ (k : ValType × ℕ). Fits k.0 k.1) (sym b.1) b.0
constant_fits _ c e = cc

of_kind : (t : ValType) (o : Option (ValType × ℕ)) → IsTrue (is_constant_of t o) → ((c : ValType × ℕ) → o ≡ Some c → Fits c.0 c.1) → Fits t (value_of o)
of_kind t None h k = cc
of_kind t (Some c) h k = subst (λ u. Fits u c.1) (kind_is c.0 t h) (k c refl)

value_fits : (t : ValType) (code : List Instr) → IsTrue (is_constant_of t (constant code)) → Fits t (constant_value code)
value_fits t [] h = cc
value_fits t (i ∷ []) h = of_kind t (constant_at (layer i)) h (λ c e. constant_fits (layer i) c e)
value_fits t (i ∷ j ∷ code) h = cc

globals_begin : (gs : List GlobalVar) → IsTrue (list_all is_global gs) → Holds (map (λ (g : GlobalVar). g.val_type) gs) (map (λ (g : GlobalVar). constant_value g.initial.items) gs)
globals_begin [] h = tt
globals_begin (g ∷ gs) h = let b = both_true (is_global g) (list_all is_global gs) h in (value_fits g.val_type g.initial.items b.0, globals_begin gs b.1)

-- frames of functions of type [] to []
pub record Entry (m : Module) (x : ℕ) : Type 0 where
  pub function : Function
  pub member : own m x ≡ Some function
  pub params : function.signature.params ≡ []
  pub results : function.signature.results ≡ []

takes_some : (call : HostName) → [] ≡ host_params call → ⊥
takes_some Input e = cc
takes_some Read e = cc
takes_some Write e = cc
takes_some Delete e = cc
takes_some Send e = cc
takes_some Raise e = cc
takes_some Reply e = cc
takes_some OwnLabel e = cc
takes_some Release e = cc

entry_by : (m : Module) (x : ℕ) (ft : FuncType) (o : Option Import) → Valid m → slice_get m.imports x ≡ o → type_of m x ≡ Some ft → ft.params ≡ [] → ft.results ≡ [] → Entry m x
entry_by m x ft (Some i) valid e t p r =
    let l : Lent i ft = lent i ft (imported_type m i.kind) (sym (type_of_import m x i e) ∙ t) (host_at m x i valid e) in absurd (takes_some l.call (sym p ∙ l.params))
entry_by m x ft None valid e t p r =
    let o : Owned m x ft = owned m x ft valid e t in
    record { function = o.function; member = o.member; params = ap (λ (k : FuncType). k.params) o.signature ∙ p; results = ap (λ (k : FuncType). k.results) o.signature ∙ r }

entry_of : (m : Module) (x : ℕ) (o : Option FuncType) → Valid m → type_of m x ≡ o → IsTrue (is_entry_type o) → Entry m x
entry_of m x None valid e h = cc
entry_of m x (Some ft) valid e h = let s = type_is ft (record { params = []; results = [] }) h in entry_by m x ft (slice_get m.imports x) valid refl e s.0 s.1

abbrev frame_begins : (m : Module) (x : ℕ) (e : Entry m x) → Valid m → IsFrame m (first_frame e.function (zeros e.function.declared)) []
frame_begins m x e valid = record {
  index = x;
  function = e.function;
  member = e.member;
  locals = subst (λ ps. Holds (ps ++ e.function.declared) (zeros e.function.declared)) (sym e.params) (holds_zeros e.function.declared);
  gives = refl;
  first = record { stands = []; leaves = e.function.signature.results; takes = e.function.signature.results };
  others = [];
  levels = (record { values = tt; code = own_typed m x e.function valid e.member; target = refl }, refl);
}

alone : (m : Module) (x : ℕ) → Entry m x → Valid m → Running m (frame_of (own m x)) []
alone m x e valid = subst (λ o. Running m (frame_of o) []) (sym e.member) (frame_begins m x e valid, tt)

over : (m : Module) (f : Frame) (fs : List Frame) (r : IsFrame m f []) → r.function.signature.results ≡ [] → Running m fs [] → Running m (f ∷ fs) []
over m f [] r none h = absurd h
over m f (g ∷ gs) r none h = (r, subst (λ ts. Frames m (g ∷ gs) ts) (sym none) h)

start_begins : (m : Module) (o : Option ℕ) (fs : List Frame) → Valid m → IsTrue (is_start m o) → Running m fs [] → Running m (entry_frame m o ++ fs) []
start_begins m None fs valid h r = r
start_begins m (Some x) fs valid h r =
    let e = entry_of m x (type_of m x) valid refl h in
    subst (λ o. Running m (frame_of o ++ fs) []) (sym e.member) (over m (first_frame e.function (zeros e.function.declared)) fs (frame_begins m x e valid) e.results r)

handle_entry : (m : Module) (o : Option Export) → Valid m → find (is_handle m) m.exports ≡ o → handle_fault (option_map (λ (e : Export). e.index) o) ≡ None
    → Running m (entry_frame m (option_map (λ (e : Export). e.index) o)) []
handle_entry m None valid e h = cc
handle_entry m (Some x) valid e h =
    let a = both_true (is_function x.kind) (bytes_eq x.name (codes "handle") && is_entry_type (type_of m x.index)) (find_passes (is_handle m) m.exports x e) in
    let b = both_true (bytes_eq x.name (codes "handle")) (is_entry_type (type_of m x.index)) a.1 in
    alone m x.index (entry_of m x.index (type_of m x.index) valid refl b.1) valid

handle_begins : (m : Module) → Valid m → Running m (entry_frame m (handle_of m)) []
unfolding handle_of
handle_begins m valid = handle_entry m (find (is_handle m) m.exports) valid refl (kept m valid).handle

pub begin_is_of : (m : Module) → Valid m → IsOf m (begin m)
unfolding begin
begin_is_of m valid = record {
  store = record {
    memory = first_memory_is m valid;
    globals = globals_begin m.globals (rule m 4 (list_all is_global m.globals) valid refl);
    length = length_elements (table_size m) (replicate (table_size m) None) m.elements (length-replicate {A = Option ℕ} (table_size m) None) (elements_fit m valid);
    table = first_table_is m valid;
  };
  running = start_begins m m.start (entry_frame m (handle_of m)) valid (rule m 7 (is_start m m.start) valid refl) (handle_begins m valid);
}
