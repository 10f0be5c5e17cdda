-- Single units and typings that the worked examples name.
use Rattle.std.proofs.Common.{◌≡◌, ◌+◌, ◌%◌, ◌^◌, min, ℕ, Bool, true, false, List, [], ◌∷◌, length, refl, ap, subst, ◌∙◌, arith}
use Rattle.std.specs.Prelude.{Some, None, suc, nat_lt, nat_le, if◌then◌else◌, ◌||◌, slice_get}
use Rattle.std.proofs.lemmas.Bool.Decides.{nat_tests}
use Rattle.wasm_ast.specs.declared.val_types.ValType.{ValType}
use Rattle.wasm_ast.specs.declared.val_types.ValType.TheVariants.{I32}
use Rattle.wasm_ast.specs.declared.trees.Seq.{Seq}
use Rattle.wasm_ast.specs.declared.trees.Instr.{Instr}
use Rattle.wasm_ast.specs.declared.trees.Instr.TheOpen.{Instr-F}
use Rattle.wasm_ast.specs.declared.trees.Instr.TheVariants as V
use Rattle.wasm_ast.specs.declared.modules.Module.{Module}
use Rattle.wasm_ast.specs.Trees.{layer_if, layer_load, layer_memory_grow, layer_call}
use Rattle.wasm_ast.specs.Spaces.{Function, own, page_limit}
use Rattle.wasm_ast.specs.Operators.{Access, load_of}
use Rattle.wasm_ast.specs.Bytes.{loaded, in_pages, grown}
use Rattle.wasm_ast.specs.Typing.{context_of, Types}
use Rattle.wasm_semantics.specs.declared.traps.Trap.TheVariants as trap
use Rattle.wasm_semantics.specs.Data.{DataEffect, with_some, split, fetched, sized}
use Rattle.wasm_semantics.specs.Threads.{Store, Frame, Thread, Goes, Trapped, Stuck, values_of, blocks_of}
use Rattle.wasm_semantics.specs.Control.{Spot, first_frame, zeros, opened, call_of}
use Rattle.wasm_semantics.specs.Units.{unit, limited, data_of, applied}
use Rattle.wasm_semantics.specs.OfModule.{Holds, labels_of, IsFrame, IsOf}
use Rattle.wasm_semantics.specs.Examples.{level, frame, lone, opened_block, ended_block, memory_alone}
use Rattle.wasm_semantics.proofs.Written.{taken_at, taken}
use Rattle.wasm_ast.proofs.Worked.{no_operand}

pub chooses_first : (m : Module) (pages : ℕ) (st : Store) (part other : Seq) (rest : List Instr)
    → unit m pages (lone st (level (1 ∷ []) (V.If (Some I32) part other ∷ rest) ∷ [])) ≡ Goes (lone st (opened_block part.items rest))
chooses_first m pages st part other rest =
    taken m pages st (frame (level (1 ∷ []) (V.If (Some I32) part other ∷ rest) ∷ [])) [] (level (1 ∷ []) (V.If (Some I32) part other ∷ rest)) [] (V.If (Some I32) part other) rest
    (Instr-F.If (Some I32) part other) refl refl (layer_if (Some I32) part other)

pub chooses_second : (m : Module) (pages : ℕ) (st : Store) (part other : Seq) (rest : List Instr)
    → unit m pages (lone st (level (0 ∷ []) (V.If (Some I32) part other ∷ rest) ∷ [])) ≡ Goes (lone st (opened_block other.items rest))
chooses_second m pages st part other rest =
    taken m pages st (frame (level (0 ∷ []) (V.If (Some I32) part other ∷ rest) ∷ [])) [] (level (0 ∷ []) (V.If (Some I32) part other ∷ rest)) [] (V.If (Some I32) part other) rest
    (Instr-F.If (Some I32) part other) refl refl (layer_if (Some I32) part other)

pub falls_off : (m : Module) (pages : ℕ) (st : Store) (rest : List Instr) → unit m pages (lone st (ended_block 7 rest)) ≡ Goes (lone st (level (7 ∷ []) rest ∷ []))
unfolding unit
falls_off m pages st rest = refl

-- a load of four bytes at this address
abbrev load_code : List Instr
load_code = V.Load 40 2 0 ∷ []

abbrev at_load : List ℕ → ℕ → Spot
at_load bytes at = taken_at (memory_alone bytes) (frame (level (at ∷ []) load_code ∷ [])) [] (level (at ∷ []) load_code) [] []

abbrev word : Access
word = record { val_type = I32; width = 4; signed = false }

abbrev load_effect : List ℕ → ℕ → Bool → DataEffect
load_effect bytes at past = fetched (data_of (at_load bytes at)) word (if past then None else Some (loaded bytes (at + 0) 4)) []

loads : (m : Module) (pages at : ℕ) (bytes : List ℕ) → length bytes ≡ 65536
    → unit m pages (lone (memory_alone bytes) (level (at ∷ []) load_code ∷ [])) ≡ limited (applied (at_load bytes at) (load_effect bytes at (nat_lt 65536 (at + 0 + 4))))
unfolding load_of
loads m pages at bytes e =
    taken m pages (memory_alone bytes) (frame (level (at ∷ []) load_code ∷ [])) [] (level (at ∷ []) load_code) [] (V.Load 40 2 0) [] (Instr-F.Load 40 2 0) refl refl (layer_load 40 2 0)
    ∙ ap (λ n. limited (applied (at_load bytes at) (load_effect bytes at (nat_lt n (at + 0 + 4))))) e

pub loads_last : (m : Module) (pages : ℕ) (bytes : List ℕ) → length bytes ≡ 65536
    → unit m pages (lone (memory_alone bytes) (level (65532 ∷ []) load_code ∷ [])) ≡ Goes (lone (memory_alone bytes) (level (loaded bytes 65532 4 % 2 ^ 32 ∷ []) [] ∷ []))
loads_last m pages bytes e = loads m pages 65532 bytes e

pub loads_past : (m : Module) (pages : ℕ) (bytes : List ℕ) → length bytes ≡ 65536 → unit m pages (lone (memory_alone bytes) (level (65533 ∷ []) load_code ∷ [])) ≡ Trapped trap.Memory
loads_past m pages bytes e = loads m pages 65533 bytes e

-- growing by 0
abbrev grow_code : List Instr
grow_code = V.MemoryGrow ∷ []

abbrev at_grow : List ℕ → Spot
at_grow bytes = taken_at (memory_alone bytes) (frame (level (0 ∷ []) grow_code ∷ [])) [] (level (0 ∷ []) grow_code) [] []

too_many : (bytes : List ℕ) (most : ℕ) → length bytes ≡ 131072 → nat_le (0 + in_pages bytes) (min 1 most) ≡ false
too_many bytes most e = grind (arith, nat_tests)

pub grows_by_nothing : (m : Module) (bytes : List ℕ) → length bytes ≡ 131072
    → unit m 1 (lone (memory_alone bytes) (level (0 ∷ []) grow_code ∷ [])) ≡ Goes (lone (memory_alone bytes) (level (4294967295 ∷ []) [] ∷ []))
grows_by_nothing m bytes long =
    taken m 1 (memory_alone bytes) (frame (level (0 ∷ []) grow_code ∷ [])) [] (level (0 ∷ []) grow_code) [] V.MemoryGrow [] Instr-F.MemoryGrow refl refl layer_memory_grow
    ∙ ap (λ b. limited (applied (at_grow bytes) (sized (data_of (at_grow bytes)) (if b then Some (grown bytes 0) else None) []))) (too_many bytes (page_limit m) long)

-- a call that opens one frame too many
abbrev call_code : ℕ → List Instr
call_code x = V.Call x ∷ []

abbrev at_call : Store → List Frame → ℕ → Spot
at_call st fs x = taken_at st (frame (level [] (call_code x) ∷ [])) fs (level [] (call_code x)) [] []

-- the frames after it
abbrev over_frames : Function → List Frame → List Frame
over_frames fn fs = first_frame fn (zeros fn.declared) ∷ (frame (level [] [] ∷ []) ∷ fs)

either : (a c : Bool) (t : Thread) → (if a || (true || c) then Trapped trap.Stack else Goes t) ≡ Trapped trap.Stack
either true c t = refl
either false c t = refl

many : (n : ℕ) → n ≡ 1023 → nat_lt 1024 (suc (suc n)) ≡ true
many n e = grind (arith, nat_tests)

stopped : (st : Store) (fn : Function) (fs : List Frame) → length fs ≡ 1023 → limited (Goes (record { store = st; frames = over_frames fn fs })) ≡ Trapped trap.Stack
stopped st fn fs e =
    ap (λ b. if nat_lt 65536 (values_of (over_frames fn fs)) || (b || nat_lt 16384 (blocks_of (over_frames fn fs))) then Trapped trap.Stack else Goes (record { store = st; frames = over_frames fn fs })) (many (length fs) e)
    ∙ either (nat_lt 65536 (values_of (over_frames fn fs))) (nat_lt 16384 (blocks_of (over_frames fn fs))) (record { store = st; frames = over_frames fn fs })

called : (st : Store) (fs : List Frame) (x : ℕ) (fn : Function) → fn.signature.params ≡ []
    → split Stuck (length fn.signature.params) [] (opened fn (at_call st fs x)) ≡ Goes (record { store = st; frames = over_frames fn fs })
called st fs x fn e = ap (λ (ps : List ValType). split Stuck (length ps) [] (opened fn (at_call st fs x))) e

pub frame_too_many : (m : Module) (pages : ℕ) (st : Store) (fs : List Frame) (x : ℕ) (fn : Function) → length fs ≡ 1023 → slice_get m.imports x ≡ None → own m x ≡ Some fn → fn.signature.params ≡ []
    → unit m pages (record { store = st; frames = frame (level [] (call_code x) ∷ []) ∷ fs }) ≡ Trapped trap.Stack
frame_too_many m pages st fs x fn long none member params =
    taken m pages st (frame (level [] (call_code x) ∷ [])) fs (level [] (call_code x)) [] (V.Call x) [] (Instr-F.Call x) refl refl (layer_call x)
    ∙ (ap (λ o. limited (call_of m x (at_call st fs x) [] o)) none
    ∙ (ap (λ o. limited (with_some Stuck o (λ g. split Stuck (length g.signature.params) [] (opened g (at_call st fs x))))) member
    ∙ (ap limited (called st fs x fn params) ∙ stopped st fn fs long)))

-- a thread whose next instruction misses its operand
none_stand : (ts : List ValType) → Holds ts [] → ts ≡ []
none_stand [] h = refl
none_stand (t ∷ ts) h = absurd h

lacks : (m : Module) (r : IsFrame m (frame (level [] (V.Drop ∷ []) ∷ [])) []) → ⊥
lacks m r =
    let l = r.levels.0 in
    no_operand (context_of m r.function) (labels_of (r.first ∷ r.others)) [] r.first.leaves
    (subst (λ ts. Types (context_of m r.function) (labels_of (r.first ∷ r.others)) (V.Drop ∷ []) ts r.first.leaves) (none_stand r.first.stands l.values) l.code)

pub of_no_module : (m : Module) (st : Store) → IsOf m (lone st (level [] (V.Drop ∷ []) ∷ [])) → ⊥
of_no_module m st h = lacks m (h.running.0)
