-- A call.
use Rattle.std.proofs.Common.{◌≡◌, ℕ, ◌+◌, ◌-◌, ◌<◌, ◌≤◌, Bool, true, false, List, [], ◌∷◌, ◌++◌, length, take, drop, get_or, refl, sym, ap, subst, ◌∙◌, arith, Bor}
use Rattle.std.specs.Prelude.{reverse, replicate, map, slice_get, Option, Some, None, zero, suc, nat_lt, if◌then◌else◌, option_and_then}
use Rattle.std.proofs.lemmas.Bool.Decides.{nat_tests}
use Rattle.std.proofs.lemmas.Option.{slice_get-get_or}
use Rattle.wasm_ast.specs.declared.val_types.ValType.{ValType}
use Rattle.wasm_ast.specs.declared.func_types.FuncType.{FuncType}
use Rattle.wasm_ast.specs.declared.bodies.Body.{Body}
use Rattle.wasm_ast.specs.declared.imports.Import.{Import}
use Rattle.wasm_ast.specs.declared.hosts.HostName.{HostName}
use Rattle.wasm_ast.specs.declared.trees.Instr.{Instr}
use Rattle.wasm_ast.specs.declared.modules.Module.{Module}
use Rattle.wasm_ast.specs.Spaces.{Function, own, own_type, function_at, joined}
use Rattle.wasm_ast.specs.Hosts.{host_named, host_params}
use Rattle.wasm_semantics.specs.Operators.{truth}
use Rattle.wasm_semantics.specs.Data.{split, with_some}
use Rattle.wasm_semantics.specs.Threads.{Store, Frame, Goes, Calls, Stuck}
use Rattle.wasm_semantics.specs.Control.{thread_at, behind, zeros, opened, asked, call, call_of}
use Rattle.wasm_data.specs.declared.marks.Marks.{Marks}
use Rattle.wasm_data.specs.Cuts.{above, under}
use Rattle.wasm_data.specs.Marked.{locals_in, operands_in, raised}
use Rattle.wasm_data.proofs.Opened.{take_before, operands_before}
use Rattle.wasm_blocks.specs.declared.open.Open.{Open}
use Rattle.wasm_blocks.specs.Levels.{level_in, levels_in, values_in, IsTower}
use Rattle.wasm_blocks.specs.Rest.{Placed}
use Rattle.wasm_blocks.specs.Runs.{own_nexts}
use Rattle.wasm_blocks.proofs.Cuts.{above_all, under_all}
use Rattle.wasm_blocks.proofs.Levels.{split_goes, take_kept}
use Rattle.wasm_frames.specs.declared.active.Place.{Place}
use Rattle.wasm_frames.specs.declared.active.Active.{Active}
use Rattle.wasm_frames.specs.declared.callees.Entry.{Entry}
use Rattle.wasm_frames.specs.Resting.{body_of, code_of, frames_at_rest, AreResting}
use Rattle.wasm_frames.specs.Standing.{Surroundings, held, spot_at, nexts_under, AreWarm, IsStanding, ArePlaced, IsPlaced}
use Rattle.wasm_frames.specs.Callees.{IsEntry, IsHost}
use Rattle.wasm_frames.specs.Turns.{Went, AsksHost}
use Rattle.wasm_frames.proofs.Resting.{same_frames, frame_warm}
use Rattle.wasm_frames.proofs.FewerOperands.{own_operands, with_sp, sp_room, fewer_stands, fewer_placed, spot_lowered, args_behind}

at_least : (n k : ℕ) → nat_lt n k ≡ false → k ≤ n
at_least n k h = grind (arith, nat_tests)

none_past : {A : Type 0} (k : ℕ) (xs : List A) → length xs ≤ k → slice_get xs k ≡ None
none_past k [] h = refl
none_past zero (x ∷ xs) h = absurd (omega arith)
none_past (suc k) (x ∷ xs) h = none_past k xs (omega arith)

own_from : (x n : ℕ) (o : Option Function) (fn : Function) (b : Bool) → nat_lt x n ≡ b → (if b then None else o) ≡ Some fn → (n ≤ x) × (o ≡ Some fn)
own_from x n o fn true e h = cc
own_from x n o fn false e h = (at_least x n e, h)

-- a function that the module defines is there, and is no import
pub found : (m : Module) (x : ℕ) (fn : Function) → own m x ≡ Some fn → (length m.imports ≤ x) × (function_at m (x - length m.imports) ≡ Some fn)
unfolding own
found m x fn e = own_from x (length m.imports) (function_at m (x - length m.imports)) fn (nat_lt x (length m.imports)) refl e

no_import : (m : Module) (x : ℕ) (fn : Function) → own m x ≡ Some fn → slice_get m.imports x ≡ None
no_import m x fn e = none_past x m.imports (found m x fn e).0

joined_code : (t : Option FuncType) (b : Option Body) (fn : Function) → joined t b ≡ Some fn → (body : Body) × (b ≡ Some body) × (fn.code ≡ body.code.items)
joined_code None b fn e = cc
joined_code (Some t) None fn e = cc
joined_code (Some t) (Some body) fn e = let same : fn ≡ record { signature = t; declared = body.locals; code = body.code.items } = cc in (body, refl, ap (λ (f : Function). f.code) same)

-- its body
pub body_found : (m : Module) (x params : ℕ) (e : Entry) (i : IsEntry m x params e) → (body : Body) × (slice_get m.bodies e.function ≡ Some body) × (i.function.code ≡ body.code.items)
body_found m x params e i =
    let f = found m x i.function i.member in
    let at : x - length m.imports ≡ e.function = omega (arith, i.index) in
    let b = joined_code (own_type m (x - length m.imports)) (slice_get m.bodies (x - length m.imports)) i.function f.1 in
    (b.0, ap (λ k. slice_get m.bodies k) (sym at) ∙ b.1, b.2)

pub some_there : {A : Type 0} (xs : List A) (k : ℕ) (x : A) → slice_get xs k ≡ Some x → k < length xs
some_there [] k x e = cc
some_there (y ∷ ys) zero x e = omega arith
some_there (y ∷ ys) (suc k) x e = omega (arith, some_there ys k x e)

named : (o : Option Import) (h : HostName) → option_and_then (λ (i : Import). host_named i.name) o ≡ Some h → (i : Import) × (o ≡ Some i) × (host_named i.name ≡ Some h)
named None h e = cc
named (Some i) h e = (i, refl, e)

pub get_at : {A : Type 0} (xs ys : List A) (i j : ℕ) (v : A) → xs ≡ ys → i ≡ j → i < length xs → v ≡ get_or xs i v → slice_get ys j ≡ Some v
get_at xs ys i j v e e' lt h = ap (λ zs. slice_get zs j) (sym e) ∙ (ap (λ k. slice_get xs k) (sym e') ∙ (slice_get-get_or xs i v lt ∙ ap Some (sym h)))

pub not_there : (n k : ℕ) → false ≡ nat_lt k n → k < n → ⊥
not_there n k e lt = grind (arith, nat_tests)

-- the host is asked
pub call_asks : (m : Module) (st : Store) (a : Active) (h : Surroundings) (x n : ℕ) (name : HostName) → IsHost m x n name → IsStanding a h → IsPlaced m a h
    → n ≤ length (values_in (above a.hot.low h.opens) (own_operands a h))
    → (let p = spot_at m st a h in AsksHost m (call m x p p.level.values) st h name (with_sp a (a.hot.marks.sp - n)))
call_asks m st a h x n name i s pl le =
    let p = spot_at m st a h in
    let vs = p.level.values in
    let k = length (host_params name) in
    let own = above a.hot.low h.opens in
    let ops = own_operands a h in
    let mk = a.hot.marks in
    let o = named (slice_get m.imports x) name i.named in
    let many : k ≤ length vs = omega (arith, le, i.takes) in
    let room = sp_room a h n s le in
    let sp = mk.sp - n in
    let args : reverse (take k vs) ≡ locals_in sp (sp + k) h.values =
    ap reverse (take_kept k own ops many)
    ∙ (ap (λ j. reverse (take j ops)) (sym i.takes)
    ∙ (args_behind mk.floor mk.sp n h.values (omega (arith, room)) s.here.within.room
    ∙ ap (λ j. locals_in sp (sp + j) h.values) i.takes)) in
    record {
      is = ap (call_of m x p vs) o.1
          ∙ (ap (λ y. with_some Stuck y (λ h. split Stuck (length (host_params h)) vs (asked h p))) o.2
          ∙ (split_goes k vs (asked name p) many
          ∙ (ap (λ xs. Calls name xs (behind p (drop k vs))) args
          ∙ (ap (λ j. Calls name (locals_in sp (sp + k) h.values) (behind p (drop j vs))) (sym i.takes)
          ∙ ap (λ s. Calls name (locals_in sp (sp + k) h.values) (thread_at s)) (spot_lowered m st a h n s le)))));
      stands = fewer_stands a h n s le;
      placed = fewer_placed m a h sp pl;
      room = omega (arith, room, s.here.within.room, i.takes);
    }

zeros_are : (ts : List ValType) → zeros ts ≡ replicate {A = ℕ} (length ts) 0
zeros_are [] = refl
zeros_are (t ∷ ts) = ap (λ xs. 0 ∷ xs) (zeros_are ts)

-- the frame that is opened, over the one that called
pub record Opened (a : Active) (params declared : ℕ) (values values' : List ℕ) (marks : Marks) : Type 0 where
  pub base : marks.base ≡ a.hot.marks.sp - params
  pub floor : marks.floor ≡ a.hot.marks.sp + declared
  pub sp : marks.sp ≡ a.hot.marks.sp + declared
  pub locals : locals_in marks.base marks.floor values' ≡ reverse (take params (operands_in a.hot.marks.floor a.hot.marks.sp values)) ++ replicate declared 0
  pub operands : operands_in marks.floor marks.sp values' ≡ []
  pub callers_locals : locals_in a.hot.marks.base a.hot.marks.floor values' ≡ locals_in a.hot.marks.base a.hot.marks.floor values
  pub callers_operands : operands_in a.hot.marks.floor marks.base values' ≡ drop params (operands_in a.hot.marks.floor a.hot.marks.sp values)
  pub deep : take marks.base values' ≡ take marks.base values
  pub size : length values' ≡ length values
  pub room : a.hot.marks.sp + declared ≤ length values

-- the caller, as it waits
abbrev pub waiting : Active → ℕ → Place
waiting a n = record { marks = raised a.hot.marks (a.hot.marks.sp - n); left = length a.hot.code.now; low = a.hot.low; function = a.function; gives = a.gives }

-- the frame that begins
abbrev pub beginning : Entry → Bor (List Instr) → Marks → ℕ → Active
beginning e code marks low = record { hot = record { code = code; marks = marks; low = low }; function = e.function; gives = e.gives }

pub call_own : (m : Module) (st : Store) (a : Active) (h : Surroundings) (x n : ℕ) (e : Entry) (i : IsEntry m x n e) → n ≤ length (values_in (above a.hot.low h.opens) (own_operands a h))
    → (let p = spot_at m st a h in call m x p p.level.values ≡ opened i.function p (take n p.level.values) (drop n p.level.values))
call_own m st a h x n e i le =
    let p = spot_at m st a h in
    let vs = p.level.values in
    let k = length i.function.signature.params in
    ap (call_of m x p vs) (no_import m x i.function i.member)
    ∙ (ap (λ o. with_some Stuck o (λ fn. split Stuck (length fn.signature.params) vs (opened fn p))) i.member
    ∙ (split_goes k vs (opened i.function p) (omega (arith, le, i.takes))
    ∙ ap (λ j. opened i.function p (take j vs) (drop j vs)) (sym i.takes)))

abbrev frame_with : ℕ → List Instr → List (List Instr) → List Open → List ℕ → List ℕ → Frame
frame_with gives code nexts own locals operands = record { locals = locals; levels = level_in code nexts own operands ∷ levels_in nexts own operands; gives = gives }

no_own : (os : List Open) (ns : List (Bor (List Instr))) → own_nexts (length os) os ns ≡ []
no_own os ns = let none : length os - length os ≡ 0 = omega arith in ap (λ k. map (λ s. s.now) (take k ns)) none

no_nexts_over : (os : List Open) (ns : List (Bor (List Instr))) → nexts_under (length os) os ns ≡ ns
no_nexts_over os ns = let none : length os - length os ≡ 0 = omega arith in ap (λ k. drop k ns) none

-- the frame that called, as it waits
caller_waits : (m : Module) (st : Store) (a : Active) (h : Surroundings) (values' : List ℕ) (n declared : ℕ) (marks : Marks) → IsStanding a h → IsPlaced m a h → n ≤ length (values_in (above a.hot.low h.opens) (own_operands a h))
    → Opened a n declared h.values values' marks
    → (let p = spot_at m st a h in (behind p (drop n p.level.values)).frames ≡ frames_at_rest m (waiting a n ∷ h.places) values' h.opens)
    × AreResting (waiting a n ∷ h.places) values' h.opens
caller_waits m st a h values' n declared marks s pl le o =
    let mk = a.hot.marks in
    let low = a.hot.low in
    let w = s.here.within in
    let own = above low h.opens in
    let nexts = own_nexts low h.opens h.nexts in
    let q = waiting a n in
    let p = spot_at m st a h in
    let sp = mk.sp - n in
    let room = sp_room a h n s le in
    let deep : take mk.base values' ≡ take mk.base h.values = take_before mk.base marks.base values' h.values (omega (arith, o.base, room, w.locals)) o.deep in
    let below = same_frames m h.places mk.base h.values values' (under low h.opens) s.begins s.below deep (omega (arith, o.size)) in
    let lowered = fewer_stands a h n s le in
    let f = frame_with (truth a.gives) a.hot.code.now nexts own in
    let operands : operands_in mk.floor sp h.values ≡ operands_in mk.floor sp values' = operands_before mk.floor sp sp h.values values' (omega arith) (take_before sp marks.base h.values values' (omega (arith, o.base)) (sym o.deep)) in (
      ap (λ t. (thread_at t).frames) (spot_lowered m st a h n s le)
          ∙ (ap (λ vs. f (locals_in mk.base mk.floor h.values) vs ∷ frames_at_rest m h.places h.values (under low h.opens)) operands
          ∙ (ap (λ ls. f ls (operands_in mk.floor sp values') ∷ frames_at_rest m h.places h.values (under low h.opens)) (sym o.callers_locals)
          ∙ (ap (λ fs. f (locals_in mk.base mk.floor values') (operands_in mk.floor sp values') ∷ fs) (sym below.0)
          ∙ ap (λ g. g ∷ frames_at_rest m h.places values' (under low h.opens)) (sym (frame_warm m q a.hot.code values' h.opens h.nexts refl pl.here))))),
      (
        record {
          within = record { locals = w.locals; operands = lowered.here.within.operands; room = omega (arith, o.size, w.room) };
          low = s.here.low;
          tower = lowered.here.tower;
          begins = s.begins;
        },
        below.1,
      ),
    )

call_at : (m : Module) (st : Store) (a : Active) (h : Surroundings) (x n : ℕ) (e : Entry) (values' : List ℕ) (code : Bor (List Instr)) (marks : Marks) → IsEntry m x n e → IsStanding a h → IsPlaced m a h
    → n ≤ length (values_in (above a.hot.low h.opens) (own_operands a h)) → code.now ≡ body_of m e.function → Opened a n e.declared h.values values' marks
    → (let p = spot_at m st a h in
    Went m (call m x p p.level.values) st (held (waiting a n ∷ h.places) (a.hot.code ∷ h.codes) values' h.opens h.nexts) (beginning e code marks (length h.opens)))
call_at m st a h x n e values' code marks i s pl le c o =
    let os = h.opens in
    let ns = h.nexts in
    let fn = i.function in
    let p = spot_at m st a h in
    let vs = p.level.values in
    let mk = a.hot.marks in
    let own = above a.hot.low os in
    let ops = own_operands a h in
    let q = waiting a n in
    let full = length os in
    let room = sp_room a h n s le in
    let caller = caller_waits m st a h values' n e.declared marks s pl le o in
    let b = body_found m x n e i in
    let body : fn.code ≡ code.now = b.2 ∙ (sym (ap code_of b.1) ∙ sym c) in
    let none = above_all os full refl in
    let whole = under_all os full refl in
    let locals : reverse (take n vs) ++ zeros fn.declared ≡ locals_in marks.base marks.floor values' =
    ap (λ xs. reverse xs ++ zeros fn.declared) (take_kept n own ops le)
    ∙ (ap (λ zs. reverse (take n ops) ++ zs) (zeros_are fn.declared)
    ∙ (ap (λ k. reverse (take n ops) ++ replicate {A = ℕ} k 0) (sym i.zeros) ∙ sym o.locals)) in
    let to = λ (ls : List ℕ) (code : List Instr) (g : ℕ) (nx : List (List Instr)) (own : List Open) (ops : List ℕ) (fs : List Frame).
    Goes (record { store = st; frames = frame_with g code nx own ls ops ∷ fs }) in
    let ls = locals_in marks.base marks.floor values' in
    let vs' = operands_in marks.floor marks.sp values' in
    let nx = own_nexts full os ns in
    let fs = frames_at_rest m (q ∷ h.places) values' os in
    let W : List Open → Type 0 = λ xs. AreWarm (a.hot.code ∷ h.codes) (q ∷ h.places) xs ns in
    let W' : List (Bor (List Instr)) → Type 0 = λ ys. AreWarm (a.hot.code ∷ h.codes) (q ∷ h.places) (under full os) ys in
    let P : List Open → Type 0 = λ xs. ArePlaced m (a.hot.code ∷ h.codes) (q ∷ h.places) xs ns in
    let P' : List (Bor (List Instr)) → Type 0 = λ ys. ArePlaced m (a.hot.code ∷ h.codes) (q ∷ h.places) (under full os) ys in
    let N = sym (no_nexts_over os ns) in
    let at_rest : Placed (body_of m e.function) code.now [] [] = record { nexts_are = refl; code_ends = ([], sym c) } in
    record {
      is = call_own m st a h x n e i le
          ∙ (ap (λ y. to y fn.code (length fn.signature.results) [] [] [] ((behind p (drop n vs)).frames)) locals
          ∙ (ap (λ y. to ls y (length fn.signature.results) [] [] [] ((behind p (drop n vs)).frames)) body
          ∙ (ap (λ y. to ls code.now y [] [] [] ((behind p (drop n vs)).frames)) (sym i.results)
          ∙ (ap (λ y. to ls code.now (truth e.gives) [] [] [] y) caller.0
          ∙ (ap (λ y. to ls code.now (truth e.gives) [] [] y fs) (sym o.operands)
          ∙ (ap (λ y. to ls code.now (truth e.gives) y [] vs' fs) (sym (no_own os ns))
          ∙ (ap (λ y. to ls code.now (truth e.gives) nx y vs' fs) (sym none)
          ∙ ap (λ y. to ls code.now (truth e.gives) nx (above full os) vs' (frames_at_rest m (q ∷ h.places) values' y)) (sym whole))))))));
      stands = record {
        here = record {
          within = record { locals = omega (arith, o.base, o.floor); operands = omega (arith, o.floor, o.sp); room = omega (arith, o.sp, o.room, o.size) };
          low = omega arith;
          many = omega arith;
          tower = subst (λ xs. IsTower xs (marks.sp - marks.floor)) (sym none) tt;
        };
        begins = sym o.base;
        below = subst (AreResting (q ∷ h.places) values') (sym whole) caller.1;
        warm = subst W' N (subst W (sym whole) (record { left = refl; many = s.here.many }, s.warm));
      };
      placed = record {
        here = subst (λ xs. Placed (body_of m e.function) code.now nx xs) (sym none) (subst (λ ys. Placed (body_of m e.function) code.now ys []) (sym (no_own os ns)) at_rest);
        below = subst P' N (subst P (sym whole) (pl.here, pl.below));
      };
    }

pub call_goes : (m : Module) (st : Store) (a : Active) (h : Surroundings) (x n : ℕ) (e : Entry) (ps : List Place) (cs : List (Bor (List Instr))) (values' : List ℕ) (code : Bor (List Instr)) (marks k : Marks) (low : ℕ)
    → ps ≡ record { marks = k; left = length a.hot.code.now; low = a.hot.low; function = a.function; gives = a.gives } ∷ h.places → k ≡ raised a.hot.marks (a.hot.marks.sp - n)
    → cs ≡ a.hot.code ∷ h.codes → low ≡ length h.opens
    → IsEntry m x n e → IsStanding a h → IsPlaced m a h → n ≤ length (values_in (above a.hot.low h.opens) (own_operands a h)) → code.now ≡ body_of m e.function → Opened a n e.declared h.values values' marks
    → (let p = spot_at m st a h in Went m (call m x p p.level.values) st (held ps cs values' h.opens h.nexts) (beginning e code marks low))
call_goes m st a h x n e ps cs values' code marks k low e1 e2 e3 e4 i s pl le c o =
    let p = spot_at m st a h in
    let q : Marks → Place = λ k. record { marks = k; left = length a.hot.code.now; low = a.hot.low; function = a.function; gives = a.gives } in
    let G : List Place → List (Bor (List Instr)) → ℕ → Type 0 = λ xs ys l. Went m (call m x p p.level.values) st (held xs ys values' h.opens h.nexts) (beginning e code marks l) in
    let placed : ps ≡ waiting a n ∷ h.places = e1 ∙ ap (λ k. q k ∷ h.places) e2 in
    subst (λ xs. G xs cs low) (sym placed) (subst (λ ys. G (waiting a n ∷ h.places) ys low) (sym e3) (subst (λ l. G (waiting a n ∷ h.places) (a.hot.code ∷ h.codes) l) (sym e4)
    (call_at m st a h x n e values' code marks i s pl le c o)))
