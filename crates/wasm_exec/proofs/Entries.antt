-- Functions of type [] to [] with which a thread begins.
use Rattle.std.proofs.Common.{◌≡◌, ◌<◌, ◌≤◌, ◌+◌, ◌-◌, ℕ, List, [], ◌∷◌, ◌++◌, length, take, drop, replicate, refl, sym, ap, subst, ◌∙◌, arith, zero-add}
use Rattle.std.specs.Prelude.{Option, Some, None, IsTrue, ◌&&◌, slice_get, option_map, find, bytes_eq}
use Rattle.std.proofs.lemmas.List.{take-replicate, drop-replicate, length-replicate}
use lib.Chars.{codes}
use Rattle.wasm_ast.specs.declared.val_types.ValType.{ValType}
use Rattle.wasm_ast.specs.declared.bodies.Body.{Body}
use Rattle.wasm_ast.specs.declared.func_types.FuncType.{FuncType}
use Rattle.wasm_ast.specs.declared.imports.Import.{Import}
use Rattle.wasm_ast.specs.declared.exports.Export.{Export}
use Rattle.wasm_ast.specs.declared.trees.Instr.{Instr}
use Rattle.wasm_ast.specs.declared.modules.Module.{Module}
use Rattle.wasm_ast.specs.declared.hosts.HostName.{HostName}
use Rattle.wasm_ast.specs.declared.hosts.HostName.TheVariants.{Input, Read, Write, Delete, Send, Raise, Reply, OwnLabel, Release}
use Rattle.wasm_ast.specs.Spaces.{Function, own, own_type, joined, type_of, imported_type, function_count}
use Rattle.wasm_ast.specs.Hosts.{host_named, host_params}
use Rattle.wasm_ast.specs.Structure.{is_entry_type, is_start, is_handle, is_function}
use Rattle.wasm_ast.specs.Validity.{Valid, handle_of}
use Rattle.wasm_ast.proofs.Lists.{both_true, find_passes, then_some, within}
use Rattle.wasm_ast.proofs.Valids.{rule, type_is, host_at, type_of_import, Lent, lent, Owned, owned}
use Rattle.wasm_semantics.specs.Operators.{truth}
use Rattle.wasm_semantics.specs.Threads.{Frame}
use Rattle.wasm_semantics.specs.Control.{first_frame, zeros}
use Rattle.wasm_semantics.specs.Begin.{frame_of, entry_frame}
use Rattle.wasm_data.specs.Cuts.{above, under}
use Rattle.wasm_data.specs.Marked.{locals_in, operands_in}
use Rattle.wasm_data.proofs.Opened.{none_above}
use Rattle.wasm_blocks.specs.declared.open.Open.{Open}
use Rattle.wasm_blocks.specs.Levels.{level_in, levels_in, IsTower}
use Rattle.wasm_blocks.specs.Rest.{last, code_in, nexts_in}
use Rattle.wasm_blocks.proofs.Cuts.{above_all, under_all}
use Rattle.wasm_frames.specs.declared.active.Place.{Place}
use Rattle.wasm_frames.specs.declared.callees.Entry.{Entry}
use Rattle.wasm_frames.specs.Callees.{IsEntry, IsHost}
use Rattle.wasm_frames.specs.Resting.{body_of, code_of, frame_at_rest, frames_at_rest, BeginsAt, IsResting, AreResting}
use Rattle.wasm_frames.proofs.Calling.{found, body_found}
use Rattle.wasm_exec.specs.Starting.{AreFirst}

takes_some : (call : HostName) → [] ≡ host_params call → ⊥
takes_some Input e = cc
takes_some Read e = cc
takes_some Write e = cc
takes_some Delete e = cc
takes_some Send e = cc
takes_some Raise e = cc
takes_some Reply e = cc
takes_some OwnLabel e = cc
takes_some Release e = cc

owned_by : (m : Module) (x : ℕ) (ft : FuncType) (o : Option Import) → Valid m → slice_get m.imports x ≡ o → type_of m x ≡ Some ft → ft.params ≡ [] → (fn : Function) × (own m x ≡ Some fn)
owned_by m x ft (Some i) valid e t p =
    let l : Lent i ft = lent i ft (imported_type m i.kind) (sym (type_of_import m x i e) ∙ t) (host_at m x i valid e) in absurd (takes_some l.call (sym p ∙ l.params))
owned_by m x ft None valid e t p = let o : Owned m x ft = owned m x ft valid e t in (o.function, o.member)

owned_of : (m : Module) (x : ℕ) (o : Option FuncType) → Valid m → type_of m x ≡ o → IsTrue (is_entry_type o) → (fn : Function) × (own m x ≡ Some fn)
owned_of m x None valid e h = cc
owned_of m x (Some ft) valid e h = owned_by m x ft (slice_get m.imports x) valid refl e (type_is ft (record { params = []; results = [] }) h).0

-- the module defines it
pub entry_owned : (m : Module) (x : ℕ) → Valid m → IsTrue (is_entry_type (type_of m x)) → (fn : Function) × (own m x ≡ Some fn)
entry_owned m x valid h = owned_of m x (type_of m x) valid refl h

joined_body : (t : Option FuncType) (b : Option Body) (fn : Function) → joined t b ≡ Some fn → (body : Body) × (b ≡ Some body)
joined_body None b fn e = cc
joined_body (Some t) None fn e = cc
joined_body (Some t) (Some body) fn e = (body, refl)

-- it has a row
pub entry_within : (m : Module) (x : ℕ) → Valid m → IsTrue (is_entry_type (type_of m x)) → x < function_count m
entry_within m x valid h =
    let o = entry_owned m x valid h in
    let f = found m x o.0 o.1 in
    let k = x - length m.imports in
    let b = joined_body (own_type m k) (slice_get m.bodies k) o.0 f.1 in
    omega (arith, f.0, within m.bodies k b.0 b.1, valid.counts)

-- and is no import
pub never_host : (m : Module) (x params : ℕ) (h : HostName) → Valid m → IsTrue (is_entry_type (type_of m x)) → IsHost m x params h → ⊥
never_host m x params h valid entry is =
    let o = entry_owned m x valid entry in
    let f = found m x o.0 o.1 in
    let i = then_some (λ (i : Import). host_named i.name) (slice_get m.imports x) h is.named in
    absurd (omega (arith, f.0, within m.imports x i.0 i.1))

-- the entry point and the start function are such functions
handle_by : (m : Module) (x : ℕ) (o : Option Export) → find (is_handle m) m.exports ≡ o → option_map (λ (e : Export). e.index) o ≡ Some x → IsTrue (is_entry_type (type_of m x))
handle_by m x None e h = cc
handle_by m x (Some export) e h =
    let a = both_true (is_function export.kind) (bytes_eq export.name (codes "handle") && is_entry_type (type_of m export.index)) (find_passes (is_handle m) m.exports export e) in
    let b = both_true (bytes_eq export.name (codes "handle")) (is_entry_type (type_of m export.index)) a.1 in
    let same : export.index ≡ x = cc in
    subst (λ k. IsTrue (is_entry_type (type_of m k))) same b.1

pub handle_enters : (m : Module) (x : ℕ) → handle_of m ≡ Some x → IsTrue (is_entry_type (type_of m x))
unfolding handle_of
handle_enters m x e = handle_by m x (find (is_handle m) m.exports) refl e

pub start_enters : (m : Module) (x : ℕ) → Valid m → Some x ≡ m.start → IsTrue (is_entry_type (type_of m x))
start_enters m x valid e = subst (λ o. IsTrue (is_start m o)) (sym e) (rule m 7 (is_start m m.start) valid refl)

-- a first frame, over zeros
zeros_are : (ts : List ValType) → zeros ts ≡ replicate {A = ℕ} (length ts) 0
zeros_are [] = refl
zeros_are (t ∷ ts) = ap (λ xs. 0 ∷ xs) (zeros_are ts)

zeros_in : (base declared n : ℕ) → base + declared ≤ n → locals_in base (base + declared) (replicate n 0) ≡ replicate declared 0
unfolding locals_in
zeros_in base declared n le =
    let size : base + declared - base ≡ declared = omega arith in
    ap (λ k. take k (drop base (replicate n 0))) size ∙ (ap (take declared) (drop-replicate base n 0) ∙ take-replicate declared (n - base) 0 (omega arith))

whole_code : (xs : List Instr) → last xs (length xs) ≡ xs
whole_code xs = let none : length xs - length xs ≡ 0 = omega arith in ap (λ k. drop k xs) none

abbrev pub placed_at : Entry → ℕ → ℕ → Place
placed_at e base left = let sp = base + e.declared in record { marks = record { base = base; floor = sp; sp = sp }; left = left; low = 0; function = e.function; gives = e.gives }

abbrev frame_by : List ℕ → List Instr → List (List Instr) → List Open → List ℕ → ℕ → Frame
frame_by locals code nexts own ops gives = record { locals = locals; levels = level_in code nexts own ops ∷ levels_in nexts own ops; gives = gives }

frame_is : (m : Module) (x params : ℕ) (e : Entry) (i : IsEntry m x params e) (base n : ℕ) → base + e.declared ≤ n
    → frame_at_rest m (placed_at e base (length (body_of m e.function))) (replicate n 0) [] ≡ first_frame i.function (zeros i.function.declared)
frame_is m x params e i base n le =
    let sp = base + e.declared in
    let vs = replicate {A = ℕ} n 0 in
    let body = body_of m e.function in
    let b = body_found m x params e i in
    let code : body ≡ i.function.code = ap code_of b.1 ∙ sym b.2 in
    let none : above {A = Open} 0 [] ≡ [] = above_all [] 0 refl in
    let g = truth e.gives in
    ap (λ own. frame_by (locals_in base sp vs) (last (code_in body own) (length body)) (nexts_in body own) own (operands_in sp sp vs) g) none
    ∙ (ap (λ c. frame_by (locals_in base sp vs) c [] [] (operands_in sp sp vs) g) (whole_code body ∙ code)
    ∙ (ap (λ ops. frame_by (locals_in base sp vs) i.function.code [] [] ops g) (none_above sp vs)
    ∙ (ap (λ ls. frame_by ls i.function.code [] [] [] g) (zeros_in base e.declared n le ∙ (ap (λ k. replicate {A = ℕ} k 0) i.zeros ∙ sym (zeros_are i.function.declared)))
    ∙ ap (frame_by (zeros i.function.declared) i.function.code [] [] []) i.results)))

entered : (m : Module) (x params : ℕ) (e : Entry) (i : IsEntry m x params e) → entry_frame m (Some x) ≡ first_frame i.function (zeros i.function.declared) ∷ []
entered m x params e i = ap frame_of i.member

rests_first : (e : Entry) (base left n : ℕ) (ps : List Place) → base + e.declared ≤ n → BeginsAt ps base → IsResting (placed_at e base left) (replicate n 0) [] ps
rests_first e base left n ps le begins =
    let none : above {A = Open} 0 [] ≡ [] = above_all [] 0 refl in
    let sp = base + e.declared in
    let P : List Open → Type 0 = λ os. IsTower os (sp - sp) in
    record {
      within = record { locals = omega arith; operands = omega arith; room = omega (arith, le, length-replicate {A = ℕ} n 0) };
      low = omega arith;
      tower = subst P (sym none) tt;
      begins = begins;
    }

nothing_under : under {A = Open} 0 [] ≡ []
nothing_under = under_all [] 0 refl

-- the frame of `handle` alone
pub one_first : (m : Module) (x params : ℕ) (e : Entry) (p : Place) → handle_of m ≡ Some x → None ≡ m.start → IsEntry m x params e → e.declared ≤ 65536 → p ≡ placed_at e 0 (length (body_of m e.function)) → AreFirst m p []
one_first m x params e p handle none i most is =
    let left = length (body_of m e.function) in
    let q = placed_at e 0 left in
    let le : 0 + e.declared ≤ 0 + e.declared = omega arith in
    let F : Place → Type 0 = λ p. AreFirst m p [] in
    subst F (sym is) (record {
      frames = ap (λ f. f ∷ []) (frame_is m x params e i 0 (0 + e.declared) le) ∙ (sym (entered m x params e i) ∙ (ap (entry_frame m) (sym handle) ∙ ap (λ o. entry_frame m o ++ entry_frame m (handle_of m)) none));
      resting = (rests_first e 0 left (0 + e.declared) [] le refl, subst (λ (os : List Open). length os ≡ 0) (sym nothing_under) refl);
      most = omega (arith, most);
      few = omega arith;
    })

-- with that of the start function over it
pub two_first : (m : Module) (x y params params' : ℕ) (e s : Entry) (p q : Place) → handle_of m ≡ Some x → Some y ≡ m.start → IsEntry m x params e → IsEntry m y params' s → e.declared + s.declared ≤ 65536
    → q ≡ placed_at e 0 (length (body_of m e.function)) → p ≡ placed_at s e.declared (length (body_of m s.function)) → AreFirst m p (q ∷ [])
two_first m x y params params' e s p q handle start i j most below above_it =
    let left = length (body_of m e.function) in
    let left' = length (body_of m s.function) in
    let n = e.declared + s.declared in
    let le : 0 + e.declared ≤ n = omega arith in
    let le' : e.declared + s.declared ≤ n = omega arith in
    let lower = placed_at e 0 left in
    let upper = placed_at s e.declared left' in
    let vs = replicate {A = ℕ} n 0 in
    let F : Place → Place → Type 0 = λ p q. AreFirst m p (q ∷ []) in
    let fs : frames_at_rest m (lower ∷ []) vs (under 0 []) ≡ entry_frame m (Some x) = ap (frames_at_rest m (lower ∷ []) vs) nothing_under ∙ (ap (λ f. f ∷ []) (frame_is m x params e i 0 n le) ∙ sym (entered m x params e i)) in
    let below_rests : AreResting (lower ∷ []) vs [] = (rests_first e 0 left n [] le refl, subst (λ (os : List Open). length os ≡ 0) (sym nothing_under) refl) in
    subst (λ p. F p q) (sym above_it) (subst (F upper) (sym below) (record {
      frames = ap (λ f. f ∷ frames_at_rest m (lower ∷ []) vs (under 0 [])) (frame_is m y params' s j e.declared n le')
          ∙ (ap (λ gs. first_frame j.function (zeros j.function.declared) ∷ gs) fs
          ∙ (ap (λ gs. gs ++ entry_frame m (Some x)) (sym (entered m y params' s j))
          ∙ (ap (λ o. entry_frame m o ++ entry_frame m (Some x)) start ∙ ap (λ o. entry_frame m m.start ++ entry_frame m o) (sym handle))));
      resting = (rests_first s e.declared left' n (lower ∷ []) le' (zero-add e.declared), subst (AreResting (lower ∷ []) vs) (sym nothing_under) below_rests);
      most = most;
      few = omega arith;
    }))
