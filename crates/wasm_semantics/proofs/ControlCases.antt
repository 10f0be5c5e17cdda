-- Branches, calls and limits that the worked examples name.
use Rattle.std.proofs.Common.{◌≡◌, ◌≤◌, ◌+◌, ◌-◌, ℕ, Bool, true, false, List, [], ◌∷◌, ◌++◌, length, refl, ap, ◌∙◌, arith}
use Rattle.std.specs.Prelude.{Option, Some, None, suc, nat_lt, if◌then◌else◌, ◌||◌, slice_get}
use Rattle.std.proofs.lemmas.Bool.Decides.{nat_tests}
use Rattle.std.proofs.lemmas.Option.{slice_get_past}
use Rattle.wasm_ast.specs.declared.trees.Seq.{Seq}
use Rattle.wasm_ast.specs.declared.trees.Instr.{Instr}
use Rattle.wasm_ast.specs.declared.trees.Instr.TheOpen.{Instr-F}
use Rattle.wasm_ast.specs.declared.trees.Instr.TheVariants as V
use Rattle.wasm_ast.specs.declared.func_types.FuncType.{FuncType}
use Rattle.wasm_ast.specs.declared.modules.Module.{Module}
use Rattle.wasm_ast.specs.Trees.{Layer, layer, layer_br, layer_br_table, layer_return, layer_call_indirect, layer_block, layer_i32_const}
use Rattle.wasm_ast.specs.Spaces.{Function, own, type_of}
use Rattle.wasm_ast.specs.Hosts.{same_type}
use Rattle.wasm_ast.specs.Validity.{handle_of}
use Rattle.wasm_semantics.specs.declared.traps.Trap.TheVariants as trap
use Rattle.wasm_semantics.specs.Data.{with_top, with_some}
use Rattle.wasm_semantics.specs.Threads.{Store, Level, Thread, Goes, Trapped, Stuck, values_in, values_of}
use Rattle.wasm_semantics.specs.Control.{Spot, first_frame, zeros, call, indirect}
use Rattle.wasm_semantics.specs.Units.{act, limited, unit}
use Rattle.wasm_semantics.specs.Begin.{begin, frame_of, entry_frame}
use Rattle.wasm_semantics.specs.Examples.{level, frame, lone, poised, passed, block, giving}
use Rattle.wasm_semantics.proofs.Written.{taken_at, taken}

-- where a thread with one instruction runs behind it
abbrev pub spot_passed : Store → List ℕ → Spot
spot_passed st values = taken_at st (frame (level values [] ∷ [])) [] (level values []) [] []

pub steps : (m : Module) (pages : ℕ) (st : Store) (values : List ℕ) (i : Instr) (y : Layer) → layer i ≡ y → unit m pages (poised st values i) ≡ limited (act m pages i y (spot_passed st values))
steps m pages st values i y e = taken m pages st (frame (level values (i ∷ []) ∷ [])) [] (level values (i ∷ [])) [] i [] y refl refl e

-- an indirect call up to its look-up in the table
looks_up : (m : Module) (pages : ℕ) (st : Store) (k v : ℕ) (ft : FuncType) (o : Option (Option ℕ)) → slice_get m.types k ≡ Some ft → slice_get st.table v ≡ o
    → unit m pages (poised st (v ∷ []) (V.CallIndirect k)) ≡ limited (indirect m ft (spot_passed st (v ∷ [])) [] o)
looks_up m pages st k v ft o e f =
    steps m pages st (v ∷ []) (V.CallIndirect k) (Instr-F.CallIndirect k) (layer_call_indirect k)
    ∙ (ap (λ x. limited (with_some Stuck x (λ ft. with_top Stuck (v ∷ []) (λ v vs. indirect m ft (spot_passed st (v ∷ [])) vs (slice_get st.table v))))) e
    ∙ ap (λ x. limited (indirect m ft (spot_passed st (v ∷ [])) [] x)) f)

pub traps_past : (m : Module) (pages : ℕ) (st : Store) (k v : ℕ) (ft : FuncType) → slice_get m.types k ≡ Some ft → length st.table ≤ v
    → unit m pages (poised st (v ∷ []) (V.CallIndirect k)) ≡ Trapped trap.Table
traps_past m pages st k v ft e h = looks_up m pages st k v ft None e (slice_get_past st.table v h)

pub traps_unset : (m : Module) (pages : ℕ) (st : Store) (k v : ℕ) (ft : FuncType) → slice_get m.types k ≡ Some ft → slice_get st.table v ≡ Some None
    → unit m pages (poised st (v ∷ []) (V.CallIndirect k)) ≡ Trapped trap.Empty
traps_unset m pages st k v ft e f = looks_up m pages st k v ft (Some None) e f

pub traps_differing : (m : Module) (pages : ℕ) (st : Store) (k v x : ℕ) (ft found : FuncType) → slice_get m.types k ≡ Some ft → slice_get st.table v ≡ Some (Some x) → type_of m x ≡ Some found
    → same_type found ft ≡ false → unit m pages (poised st (v ∷ []) (V.CallIndirect k)) ≡ Trapped trap.TypeDiffers
traps_differing m pages st k v x ft found e f g h =
    let p = spot_passed st (v ∷ []) in
    looks_up m pages st k v ft (Some (Some x)) e f
    ∙ (ap (λ o. limited (with_some Stuck o (λ found. if same_type found ft then call m x p [] else Trapped trap.TypeDiffers))) g
    ∙ ap (λ b. limited (if b then call m x p [] else Trapped trap.TypeDiffers)) h)

-- branches
pub closes_two : (m : Module) (pages : ℕ) (st : Store) (inner outer rest onward : List Instr)
    → unit m pages (lone st (block (5 ∷ 6 ∷ []) (V.Br 1 ∷ inner) 0 outer ∷ block (8 ∷ []) outer 1 onward ∷ level (9 ∷ []) rest ∷ [])) ≡ Goes (lone st (level (5 ∷ 9 ∷ []) onward ∷ []))
closes_two m pages st inner outer rest onward =
    let first = block (5 ∷ 6 ∷ []) (V.Br 1 ∷ inner) 0 outer in
    let around = block (8 ∷ []) outer 1 onward ∷ level (9 ∷ []) rest ∷ [] in
    taken m pages st (frame (first ∷ around)) [] first around (V.Br 1) inner (Instr-F.Br 1) refl refl (layer_br 1)

by_table : (m : Module) (pages v : ℕ) (st : Store) (inner outer rest onward : List Instr)
    → (let around = block (8 ∷ []) rest 1 onward ∷ level [] [] ∷ [] in let first = block (v ∷ 5 ∷ []) (V.BrTable (0 ∷ []) 1 ∷ inner) 1 outer in
    unit m pages (lone st (first ∷ around)) ≡ limited (act m pages (V.BrTable (0 ∷ []) 1) (Instr-F.BrTable (0 ∷ []) 1) (taken_at st (frame (first ∷ around)) [] first around inner)))
by_table m pages v st inner outer rest onward =
    let around = block (8 ∷ []) rest 1 onward ∷ level [] [] ∷ [] in
    let first = block (v ∷ 5 ∷ []) (V.BrTable (0 ∷ []) 1 ∷ inner) 1 outer in
    taken m pages st (frame (first ∷ around)) [] first around (V.BrTable (0 ∷ []) 1) inner (Instr-F.BrTable (0 ∷ []) 1) refl refl (layer_br_table (0 ∷ []) 1)

pub by_first : (m : Module) (pages : ℕ) (st : Store) (inner outer rest onward : List Instr)
    → unit m pages (lone st (block (0 ∷ 5 ∷ []) (V.BrTable (0 ∷ []) 1 ∷ inner) 1 outer ∷ block (8 ∷ []) rest 1 onward ∷ level [] [] ∷ []))
    ≡ Goes (lone st (block (5 ∷ 8 ∷ []) outer 1 onward ∷ level [] [] ∷ []))
by_first m pages st inner outer rest onward = by_table m pages 0 st inner outer rest onward

pub by_last : (m : Module) (pages : ℕ) (st : Store) (inner outer rest onward : List Instr)
    → unit m pages (lone st (block (1 ∷ 5 ∷ []) (V.BrTable (0 ∷ []) 1 ∷ inner) 1 outer ∷ block (8 ∷ []) rest 1 onward ∷ level [] [] ∷ [])) ≡ Goes (lone st (level (5 ∷ []) onward ∷ []))
by_last m pages st inner outer rest onward = by_table m pages 1 st inner outer rest onward

pub returns_one : (m : Module) (pages : ℕ) (st : Store) (inner outer rest onward : List Instr)
    → unit m pages (record {
      store = st;
      frames = giving (block (5 ∷ 6 ∷ []) (V.Return ∷ inner) 0 outer ∷ block (7 ∷ []) outer 0 rest ∷ level (8 ∷ []) rest ∷ []) ∷ frame (level (9 ∷ []) onward ∷ []) ∷ [];
    }) ≡ Goes (lone st (level (5 ∷ 9 ∷ []) onward ∷ []))
returns_one m pages st inner outer rest onward =
    let first = block (5 ∷ 6 ∷ []) (V.Return ∷ inner) 0 outer in
    let around = block (7 ∷ []) outer 0 rest ∷ level (8 ∷ []) rest ∷ [] in
    taken m pages st (giving (first ∷ around)) (frame (level (9 ∷ []) onward ∷ []) ∷ []) first around V.Return inner Instr-F.Return refl refl layer_return

-- the beginning
pub starts_over : (m : Module) (x y : ℕ) (start handle : Function) → m.start ≡ Some x → own m x ≡ Some start → handle_of m ≡ Some y → own m y ≡ Some handle
    → (begin m).frames ≡ first_frame start (zeros start.declared) ∷ first_frame handle (zeros handle.declared) ∷ []
unfolding begin
starts_over m x y start handle e f g h =
    ap (λ o. entry_frame m o ++ entry_frame m (handle_of m)) e
    ∙ (ap (λ o. frame_of o ++ entry_frame m (handle_of m)) f
    ∙ (ap (λ o. frame_of (Some start) ++ entry_frame m o) g ∙ ap (λ o. frame_of (Some start) ++ frame_of o) h))

-- limits
few_values : (n : ℕ) → n ≡ 65535 → nat_lt 65536 (0 + (suc n + 0) + 0) ≡ false
few_values n e = grind (arith, nat_tests)

many_values : (n : ℕ) → n ≡ 65536 → nat_lt 65536 (0 + (suc n + 0) + 0) ≡ true
many_values n e = grind (arith, nat_tests)

pub values_within : (m : Module) (pages : ℕ) (st : Store) (values : List ℕ) → length values ≡ 65535 → unit m pages (poised st values (V.I32Const 1)) ≡ Goes (passed st (1 ∷ values))
values_within m pages st values e =
    steps m pages st values (V.I32Const 1) (Instr-F.I32Const 1) (layer_i32_const 1)
    ∙ ap (λ b. if b || false then Trapped trap.Stack else Goes (passed st (1 ∷ values))) (few_values (length values) e)

pub values_past : (m : Module) (pages : ℕ) (st : Store) (values : List ℕ) → length values ≡ 65536 → unit m pages (poised st values (V.I32Const 1)) ≡ Trapped trap.Stack
values_past m pages st values e =
    steps m pages st values (V.I32Const 1) (Instr-F.I32Const 1) (layer_i32_const 1)
    ∙ ap (λ b. if b || false then Trapped trap.Stack else Goes (passed st (1 ∷ values))) (many_values (length values) e)

opens : (m : Module) (pages : ℕ) (st : Store) (body : Seq) (around : List Level)
    → unit m pages (lone st (level [] (V.Block None body ∷ []) ∷ around)) ≡ limited (Goes (lone st (block [] body.items 0 [] ∷ level [] [] ∷ around)))
opens m pages st body around =
    taken m pages st (frame (level [] (V.Block None body ∷ []) ∷ around)) [] (level [] (V.Block None body ∷ [])) around (V.Block None body) [] (Instr-F.Block None body) refl refl (layer_block None body)

no_values : (n : ℕ) → n ≡ 0 → nat_lt 65536 (0 + (0 + (0 + n)) + 0) ≡ false
no_values n e = grind (arith, nat_tests)

few_blocks : (n : ℕ) → n ≡ 16383 → nat_lt 16384 ((suc (suc n) - 1) + 0) ≡ false
few_blocks n e = grind (arith, nat_tests)

many_blocks : (n : ℕ) → n ≡ 16384 → nat_lt 16384 ((suc (suc n) - 1) + 0) ≡ true
many_blocks n e = grind (arith, nat_tests)

either : (a : Bool) (t : Thread) → (if a || (false || true) then Trapped trap.Stack else Goes t) ≡ Trapped trap.Stack
either true t = refl
either false t = refl

abbrev entered : Store → Seq → List Level → Thread
entered st body around = lone st (block [] body.items 0 [] ∷ level [] [] ∷ around)

pub blocks_within : (m : Module) (pages : ℕ) (st : Store) (body : Seq) (around : List Level) → length around ≡ 16383 → values_in around ≡ 0
    → unit m pages (lone st (level [] (V.Block None body ∷ []) ∷ around)) ≡ Goes (entered st body around)
blocks_within m pages st body around e f =
    opens m pages st body around
    ∙ (ap (λ b. if b || (false || nat_lt 16384 ((suc (suc (length around)) - 1) + 0)) then Trapped trap.Stack else Goes (entered st body around)) (no_values (values_in around) f)
    ∙ ap (λ b. if false || (false || b) then Trapped trap.Stack else Goes (entered st body around)) (few_blocks (length around) e))

pub blocks_past : (m : Module) (pages : ℕ) (st : Store) (body : Seq) (around : List Level) → length around ≡ 16384 → unit m pages (lone st (level [] (V.Block None body ∷ []) ∷ around)) ≡ Trapped trap.Stack
blocks_past m pages st body around e =
    opens m pages st body around
    ∙ (ap (λ b. if nat_lt 65536 (values_of (entered st body around).frames) || (false || b) then Trapped trap.Stack else Goes (entered st body around)) (many_blocks (length around) e)
    ∙ either (nat_lt 65536 (values_of (entered st body around).frames)) (entered st body around))
