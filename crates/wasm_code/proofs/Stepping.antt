-- What follows an opcode, and instruction after instruction.
use Rattle.std.proofs.Common.{◌≡◌, ℕ, zero, suc, ◌+◌, ◌<◌, ◌≤◌, Bool, true, false, List, [], ◌∷◌, ◌++◌, length, Result, Ok, Err, refl, sym, ap, ◌∙◌, subst, arith, inl, inr}
use Rattle.std.specs.Prelude.{Option, Some, None, nat_eq, if◌then◌else◌}
use Rattle.wasm_ast.specs.declared.val_types.ValType.{ValType}
use Rattle.wasm_ast.specs.declared.trees.Instr.{Instr}
use Rattle.wasm_ast.specs.declared.trees.Instr.TheVariants as V
use Rattle.wasm_code.specs.declared.error.DecodeError.TheVariants.{Malformed}
use Rattle.wasm_code.specs.declared.error.DecodeError.{DecodeError}
use Rattle.wasm_code.specs.declared.frames.Opened.{Opened}
use Rattle.wasm_code.specs.declared.frames.Opened.TheVariants as opened
use Rattle.wasm_code.specs.declared.frames.Frame.{Frame}
use Rattle.wasm_code.specs.Places.{Place, Reading, ◌>>=◌, byte}
use Rattle.wasm_code.specs.Fields.{tag, u32, s32, s64, bits32, bits64, vector}
use Rattle.wasm_code.specs.Opcodes.{Kind, Bare, Zero, Index, IndexZero, Labels, Memory, Signed32, Signed64, Float32, Float64, Bulk, kind_of}
use Rattle.wasm_code.specs.Spelling.{Then, Byte, U32, S32, S64, Bits32, Bits64, Vector}
use Rattle.wasm_code.specs.Reading.{block_type, zero_byte, bulk, immediates, Next, More, Whole, end, otherwise, otherwise_at, room, enter, plain, act, step, go_on, steps, go}
use Rattle.wasm_code.specs.Grammar.{Follows}
use Rattle.wasm_code.proofs.Agreements.{bind, bind_ok, ok_is, here, Was, Reads, byte_shorter, tag_sound, tag_complete, tagged, split, map1, map2}
use Rattle.wasm_code.proofs.FieldsBothWays.{u32_reads, s32_reads, s64_reads, bits32_reads, bits64_reads, vector_reads, block_type_reads}

zero_reads : (made : Instr) → Reads (Follows (Zero made)) (immediates (Zero made))
zero_reads made = record {
  sound = λ p y e. (
      let q = bind_ok (tag 0x00 p) (λ q. Ok (made, q)) y e in
      let t = tag_sound 0x00 p q.0 q.1 in
      subst (Was (Follows (Zero made)) p) (ok_is (made, q.0) y q.2) (record { spells = (refl, t.0); shorter = t.1 }));
  complete = λ i p rest d. (
    p.at + 1,
    bind (tag 0x00 p) (λ q. Ok (made, q)) (here rest (p.at + 1)) (tag_complete 0x00 p rest d.1) ∙ ap (λ i. Ok (i, here rest (p.at + 1))) (sym d.0),
  );
}

index_zero_reads : (made : ℕ → Instr) → Reads (Follows (IndexZero made)) (immediates (IndexZero made))
index_zero_reads made = record {
  sound = λ p y e. (
      let n = bind_ok (u32 p) (λ n. tag 0x00 n.1 >>= λ q. Ok (made n.0, q)) y e in
      let q = bind_ok (tag 0x00 n.0.1) (λ q. Ok (made n.0.0, q)) y n.2 in
      let w = u32_reads.sound p n.0 n.1 in
      let t = tag_sound 0x00 n.0.1 q.0 q.1 in
      subst (Was (Follows (IndexZero made)) p) (ok_is (made n.0.0, q.0) y q.2)
      (record { spells = (n.0.0, refl, (n.0.1.rest, w.spells, t.0)); shorter = omega (arith, w.shorter, t.1) }));
  complete = λ i p rest d. (
      let c = u32_reads.complete d.0 p d.2.0 d.2.1 in
      let q = here d.2.0 c.0 in (
        c.0 + 1,
        bind (u32 p) (λ n. tag 0x00 n.1 >>= λ q. Ok (made n.0, q)) (d.0, q) c.1
            ∙ (bind (tag 0x00 q) (λ q. Ok (made d.0, q)) (here rest (c.0 + 1)) (tag_complete 0x00 q rest d.2.2) ∙ ap (λ i. Ok (i, here rest (c.0 + 1))) (sym d.1)),
      ));
}

-- memory.copy and memory.fill
copies : Reads (λ i. Then (Byte 0x00) (Follows (Zero V.MemoryCopy) i)) (λ p. tag 0x00 p >>= λ q. zero_byte V.MemoryCopy q)
copies = tagged 0x00 (Follows (Zero V.MemoryCopy)) (zero_byte V.MemoryCopy) (zero_reads V.MemoryCopy)

bulk_by : (n : ℕ) (p q : Place) (y : Instr × Place) → Was U32 p (n, q) → bulk n p.at q ≡ Ok y → Was (Follows Bulk) p y
bulk_by n p q y w e =
    let P : Type 0 = Was (Follows Bulk) p y in
    let fault : Reading Instr = Err (Malformed p.at) in
    let fills : Reading Instr = if nat_eq n 11 then zero_byte V.MemoryFill q else fault in
    let is : (m : ℕ) → n ≡ m → U32 m p.rest q.rest = λ m e. subst (λ m. U32 m p.rest q.rest) e w.spells in
    split {P = P} n 10 (tag 0x00 q >>= λ r. zero_byte V.MemoryCopy r) fills y (λ h k. (
    let v = copies.sound q y k in let d = v.spells in
    record { spells = inl (d.2.0, (q.rest, is 10 h, (d.0, d.1, d.2.1))); shorter = omega (arith, w.shorter, v.shorter) }))
    (split {P = P} n 11 (zero_byte V.MemoryFill q) fault y (λ h k. (
    let v = (zero_reads V.MemoryFill).sound q y k in let d = v.spells in
    record { spells = inr (d.0, (q.rest, is 11 h, d.1)); shorter = omega (arith, w.shorter, v.shorter) }))
    (λ k. absurd cc)) e

bulk_sound : (p : Place) (y : Instr × Place) → immediates Bulk p ≡ Ok y → Was (Follows Bulk) p y
bulk_sound p y e =
    let n = bind_ok (u32 p) (λ n. bulk n.0 p.at n.1) y e in
    bulk_by n.0.0 p n.0.1 y (u32_reads.sound p n.0 n.1) n.2

bulk_complete : (i : Instr) (p : Place) (rest : List ℕ) → Follows Bulk i p.rest rest → (at : ℕ) × (immediates Bulk p ≡ Ok (i, here rest at))
bulk_complete i p rest (inl d) =
    let n = u32_reads.complete 10 p d.1.0 d.1.1 in
    let q = here d.1.0 n.0 in
    let c = copies.complete i q rest (d.1.2.0, d.1.2.1, (d.0, d.1.2.2)) in
    (c.0, bind (u32 p) (λ n. bulk n.0 p.at n.1) (10, q) n.1 ∙ c.1)
bulk_complete i p rest (inr d) =
    let n = u32_reads.complete 11 p d.1.0 d.1.1 in
    let q = here d.1.0 n.0 in
    let c = (zero_reads V.MemoryFill).complete i q rest (d.0, d.1.2) in
    (c.0, bind (u32 p) (λ n. bulk n.0 p.at n.1) (11, q) n.1 ∙ c.1)

pub kind_reads : (kind : Kind) → Reads (Follows kind) (immediates kind)
kind_reads (Bare made) = record {
  sound = λ p y e. subst (Was (Follows (Bare made)) p) (ok_is (made, p) y e) (record { spells = (refl, refl); shorter = omega arith });
  complete = λ i p rest d. (p.at, ap (λ i. Ok (i, p)) (sym d.0) ∙ ap (λ r. Ok (i, here r p.at)) d.1);
}
kind_reads (Zero made) = zero_reads made
kind_reads (Index made) = map1 made U32 u32 u32_reads
kind_reads (IndexZero made) = index_zero_reads made
kind_reads (Labels made) = map2 made (Vector U32) U32 (vector u32) u32 (vector_reads U32 u32 u32_reads) u32_reads
kind_reads (Memory made) = map2 made U32 U32 u32 u32 u32_reads u32_reads
kind_reads (Signed32 made) = map1 made S32 s32 s32_reads
kind_reads (Signed64 made) = map1 made S64 s64 s64_reads
kind_reads (Float32 made) = map1 made Bits32 bits32 bits32_reads
kind_reads (Float64 made) = map1 made Bits64 bits64 bits64_reads
kind_reads Bulk = record { sound = bulk_sound; complete = bulk_complete }

-- at most k bytes are left after a step
abbrev at_most : ℕ → Result Next DecodeError → Type 0
at_most k (Ok (More fs items q)) = length q.rest ≤ k
at_most k (Ok (Whole items q)) = length q.rest ≤ k
at_most k (Err e) = Unit {0}

record Leaves (k : ℕ) (next : Result Next DecodeError) : Type 0 where
  is : at_most k next

binds : {A : Type 0} {k : ℕ} {r : Result A DecodeError} {f : A → Result Next DecodeError} → ((x : A) → r ≡ Ok x → Leaves k (f x)) → Leaves k (r >>= f)
binds {r = Ok x} h = h x refl
binds {r = Err e} h = record { is = tt }

end_leaves : (fs : List Frame) (items : List Instr) (q : Place) → Leaves (length q.rest) (Ok (end fs items q))
end_leaves [] items q = record { is = omega arith }
end_leaves (f ∷ fs) items q = record { is = omega arith }

else_leaves : (o : Opened) (fs : List Frame) (outer items : List Instr) (p q : Place) → Leaves (length q.rest) (otherwise_at o fs outer items p q)
else_leaves (opened.If bt) fs outer items p q = record { is = omega arith }
else_leaves (opened.Block bt) fs outer items p q = record { is = tt }
else_leaves (opened.Loop bt) fs outer items p q = record { is = tt }
else_leaves (opened.Else bt s) fs outer items p q = record { is = tt }

otherwise_leaves : (fs : List Frame) (items : List Instr) (p q : Place) → Leaves (length q.rest) (otherwise fs items p q)
otherwise_leaves [] items p q = record { is = tt }
otherwise_leaves (f ∷ fs) items p q = else_leaves f.opened fs f.items items p q

enter_leaves : (opens : Option ValType → Opened) (fs : List Frame) (items : List Instr) (p q : Place) → Leaves (length q.rest) (enter opens fs items p q)
enter_leaves opens fs items p q =
    let f : Option ValType × Place → Result Next DecodeError = λ bt. Ok (More (record { opened = opens bt.0; items = items } ∷ fs) [] bt.1) in
    binds {r = room fs p} {f = λ t. block_type q >>= f} (λ t _. binds {r = block_type q} {f = f} (λ bt e. record { is = (block_type_reads.sound q bt e).shorter }))

plain_leaves : (o : Option Kind) (fs : List Frame) (items : List Instr) (p q : Place) → Leaves (length q.rest) (plain o fs items p q)
plain_leaves None fs items p q = record { is = tt }
plain_leaves (Some kind) fs items p q =
    binds {r = immediates kind q} {f = λ i. Ok (More fs (items ++ i.0 ∷ []) i.1)} (λ i e. record { is = ((kind_reads kind).sound q i e).shorter })

-- both ways of a test
either : {k : ℕ} (t : Bool) (a b : Result Next DecodeError) → Leaves k a → Leaves k b → Leaves k (if t then a else b)
either true a b h h' = h
either false a b h h' = h'

act_leaves : (op : ℕ) (fs : List Frame) (items : List Instr) (p q : Place) → Leaves (length q.rest) (act op fs items p q)
act_leaves op fs items p q =
    let e : Result Next DecodeError = plain (kind_of op) fs items p q in
    let d : Result Next DecodeError = if nat_eq op 0x0b then Ok (end fs items q) else e in
    let c : Result Next DecodeError = if nat_eq op 0x05 then otherwise fs items p q else d in
    let b : Result Next DecodeError = if nat_eq op 0x04 then enter opened.If fs items p q else c in
    let a : Result Next DecodeError = if nat_eq op 0x03 then enter opened.Loop fs items p q else b in
    either (nat_eq op 0x02) (enter opened.Block fs items p q) a (enter_leaves opened.Block fs items p q)
    (either (nat_eq op 0x03) (enter opened.Loop fs items p q) b (enter_leaves opened.Loop fs items p q)
    (either (nat_eq op 0x04) (enter opened.If fs items p q) c (enter_leaves opened.If fs items p q)
    (either (nat_eq op 0x05) (otherwise fs items p q) d (otherwise_leaves fs items p q)
    (either (nat_eq op 0x0b) (Ok (end fs items q)) e (end_leaves fs items q) (plain_leaves (kind_of op) fs items p q)))))

lower_by : (k n : ℕ) (r : Result Next DecodeError) → k ≤ n → at_most k r → at_most n r
lower_by k n (Ok (More fs items q)) l h = omega arith
lower_by k n (Ok (Whole items q)) l h = omega arith
lower_by k n (Err e) l h = tt

lower : (k n : ℕ) (r : Result Next DecodeError) → k ≤ n → Leaves k r → Leaves n r
lower k n r l h = record { is = lower_by k n r l h.is }

-- a step takes a byte at least
step_shorter : (n : ℕ) (fs : List Frame) (items : List Instr) (p : Place) → length p.rest ≤ suc n → Leaves n (step fs items p)
unfolding step
step_shorter n fs items p l =
    binds {r = byte p} {f = λ op. act op.0 fs items p op.1} (λ op e. lower (length op.1.rest) n (act op.0 fs items p op.1) (omega (arith, byte_shorter p op e)) (act_leaves op.0 fs items p op.1))

on_by : (n m : ℕ) (f g : List Frame → List Instr → Place → Reading (List Instr)) (r : Result Next DecodeError) → at_most n r → at_most m r
    → ((fs : List Frame) (items : List Instr) (q : Place) → length q.rest ≤ n → length q.rest ≤ m → f fs items q ≡ g fs items q) → (r >>= go_on f) ≡ (r >>= go_on g)
on_by n m f g (Ok (More fs items q)) h h' ih = ih fs items q h h'
on_by n m f g (Ok (Whole items q)) h h' ih = refl
on_by n m f g (Err e) h h' ih = refl

none_by : (n m : ℕ) (fs : List Frame) (items : List Instr) (bytes : List ℕ) (at : ℕ) → length bytes ≤ 0 → (step fs items (here bytes at) >>= go_on (steps n)) ≡ (step fs items (here bytes at) >>= go_on (steps m))
unfolding step
none_by n m fs items [] at l = refl
none_by n m fs items (b ∷ bytes) at l = absurd (omega arith)

nothing_left : (n m : ℕ) (fs : List Frame) (items : List Instr) (p : Place) → length p.rest ≤ 0 → (step fs items p >>= go_on (steps n)) ≡ (step fs items p >>= go_on (steps m))
unfolding step
nothing_left n m fs items p l = none_by n m fs items p.rest p.at l

-- more steps than bytes are as good as any more
pub enough : (n m : ℕ) (fs : List Frame) (items : List Instr) (p : Place) → length p.rest ≤ n → length p.rest ≤ m → steps (suc n) fs items p ≡ steps (suc m) fs items p
unfolding steps
enough zero m fs items p l l' = nothing_left zero m fs items p l
enough (suc n) zero fs items p l l' = nothing_left (suc n) zero fs items p l'
enough (suc n) (suc m) fs items p l l' =
    on_by n m (steps (suc n)) (steps (suc m)) (step fs items p) (step_shorter n fs items p l).is (step_shorter m fs items p l').is (λ gs js q k k'. enough n m gs js q k k')

pub smaller : (fs : List Frame) (items : List Instr) (p : Place) (gs : List Frame) (js : List Instr) (q : Place) → step fs items p ≡ Ok (More gs js q) → length q.rest < length p.rest
unfolding step
smaller fs items p gs js q e =
    let b = bind_ok (byte p) (λ op. act op.0 fs items p op.1) (More gs js q) e in
    let l = subst (at_most (length b.0.1.rest)) b.2 (act_leaves b.0.0 fs items p b.0.1).is in
    omega (arith, byte_shorter p b.0 b.1)

-- a step that goes on, and one that ends the expression
below : (k : ℕ) (fs : List Frame) (items : List Instr) (q : Place) → length q.rest < k → steps k fs items q ≡ go fs items q
below zero fs items q l = absurd (omega arith)
below (suc k) fs items q l = enough k (length q.rest) fs items q (omega arith) (omega arith)

pub goes : (fs : List Frame) (items : List Instr) (p : Place) (gs : List Frame) (js : List Instr) (q : Place) → step fs items p ≡ Ok (More gs js q) → go fs items p ≡ go gs js q
unfolding steps
goes fs items p gs js q e = ap (λ x. x >>= go_on (steps (length p.rest))) e ∙ below (length p.rest) gs js q (smaller fs items p gs js q e)

pub ends : (fs : List Frame) (items : List Instr) (p : Place) (js : List Instr) (q : Place) → step fs items p ≡ Ok (Whole js q) → go fs items p ≡ Ok (js, q)
unfolding steps
ends fs items p js q e = ap (λ x. x >>= go_on (steps (length p.rest))) e

left_by : (n k : ℕ) (next : Next) (y : List Instr × Place) → at_most k (Ok next) → ((fs : List Frame) (items : List Instr) (q : Place) → steps n fs items q ≡ Ok y → length y.1.rest ≤ length q.rest)
    → go_on (steps n) next ≡ Ok y → length y.1.rest ≤ k
left_by n k (More gs js q) y h ih e = omega (arith, ih gs js q e)
left_by n k (Whole js q) y h ih e = subst (λ (y : List Instr × Place). length y.1.rest ≤ k) (ok_is (js, q) y e) h

pub steps_shorter : (n : ℕ) (fs : List Frame) (items : List Instr) (p : Place) (y : List Instr × Place) → steps n fs items p ≡ Ok y → length y.1.rest ≤ length p.rest
unfolding steps
steps_shorter zero fs items p y e = absurd cc
steps_shorter (suc n) fs items p y e =
    let next = bind_ok (step fs items p) (go_on (steps n)) y e in
    let h = subst (at_most (length p.rest)) next.1 (step_shorter (length p.rest) fs items p (omega arith)).is in
    left_by n (length p.rest) next.0 y h (λ gs js q k. steps_shorter n gs js q y k) next.2
