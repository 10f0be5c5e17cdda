-- An expression that is spelled is read.
use Rattle.std.proofs.Common.{◌≡◌, ℕ, suc, ◌+◌, ◌<◌, Bool, true, false, List, [], ◌∷◌, ◌++◌, length, Ok, Err, refl, sym, ap, ◌∙◌, arith, append_assoc}
use Rattle.std.proofs.lemmas.List.{append-nil}
use Rattle.std.proofs.lemmas.Bool.{lt-ltb, eqb-true}
use Rattle.std.specs.Prelude.{Option, Some, None, nat_eq, if◌then◌else◌, Result}
use Rattle.wasm_ast.specs.declared.val_types.ValType.{ValType}
use Rattle.wasm_ast.specs.declared.trees.Instr.{Instr}
use Rattle.wasm_ast.specs.declared.trees.Instr.TheVariants as V
use Rattle.wasm_code.specs.declared.error.DecodeError.{DecodeError}
use Rattle.wasm_code.specs.declared.error.DecodeError.TheVariants.{TooDeep}
use Rattle.wasm_code.specs.declared.frames.Opened.{Opened}
use Rattle.wasm_code.specs.declared.frames.Opened.TheVariants as opened
use Rattle.wasm_code.specs.declared.frames.Frame.{Frame}
use Rattle.wasm_code.specs.Places.{Place, ◌>>=◌}
use Rattle.wasm_code.specs.Opcodes.{Kind, kind_of}
use Rattle.wasm_code.specs.Reading as reading
use Rattle.wasm_code.specs.Reading.{block_type, immediates, Next, More, Whole, end, otherwise, room, enter, act, step, go, expr}
use Rattle.wasm_code.specs.Grammar.{Follows, block_byte, Spells, none, plain, block, loop, if_then, if_else, Expr}
use Rattle.wasm_code.proofs.Agreements.{bind, here}
use Rattle.wasm_code.proofs.FieldsBothWays.{block_type_reads}
use Rattle.wasm_code.proofs.Stepping.{kind_reads, goes, ends}

-- an opcode of a kind opens, parts and ends no block
none_some : {X : Type 0} (x : X) → ◌≡◌ {A = Option X} None (Some x) → ⊥
none_some x e = absurd cc

is_not_by : (op b : ℕ) (kind : Kind) (t : Bool) → nat_eq op b ≡ t → kind_of b ≡ None → kind_of op ≡ Some kind → nat_eq op b ≡ false
is_not_by op b kind false h n e = h
is_not_by op b kind true h n e = absurd (none_some kind (sym n ∙ (ap kind_of (sym (eqb-true op b h)) ∙ e)))

is_not : (op b : ℕ) (kind : Kind) → kind_of b ≡ None → kind_of op ≡ Some kind → nat_eq op b ≡ false
is_not op b kind n e = is_not_by op b kind (nat_eq op b) refl n e

skip : (t : Bool) (a b : Result Next DecodeError) → t ≡ false → (if t then a else b) ≡ b
skip t a b e = ap (λ t. if t then a else b) e

act_plain : (op : ℕ) (kind : Kind) (fs : List Frame) (items : List Instr) (p q : Place) → kind_of op ≡ Some kind → act op fs items p q ≡ reading.plain (Some kind) fs items p q
act_plain op kind fs items p q e =
    let z : Result Next DecodeError = reading.plain (kind_of op) fs items p q in
    let d : Result Next DecodeError = if nat_eq op 0x0b then Ok (end fs items q) else z in
    let c : Result Next DecodeError = if nat_eq op 0x05 then otherwise fs items p q else d in
    let b : Result Next DecodeError = if nat_eq op 0x04 then enter opened.If fs items p q else c in
    let a : Result Next DecodeError = if nat_eq op 0x03 then enter opened.Loop fs items p q else b in
    skip (nat_eq op 0x02) (enter opened.Block fs items p q) a (is_not op 0x02 kind refl e)
    ∙ (skip (nat_eq op 0x03) (enter opened.Loop fs items p q) b (is_not op 0x03 kind refl e)
    ∙ (skip (nat_eq op 0x04) (enter opened.If fs items p q) c (is_not op 0x04 kind refl e)
    ∙ (skip (nat_eq op 0x05) (otherwise fs items p q) d (is_not op 0x05 kind refl e)
    ∙ (skip (nat_eq op 0x0b) (Ok (end fs items q)) z (is_not op 0x0b kind refl e)
    ∙ ap (λ o. reading.plain o fs items p q) e))))

plain_step : (op : ℕ) (kind : Kind) (i : Instr) (fs : List Frame) (acc : List Instr) (bytes after : List ℕ) (at : ℕ) → kind_of op ≡ Some kind → Follows kind i bytes after
    → (q : ℕ) × (step fs acc (here (op ∷ bytes) at) ≡ Ok (More fs (acc ++ i ∷ []) (here after q)))
unfolding step
plain_step op kind i fs acc bytes after at e d =
    let q = here bytes (at + 1) in
    let c = (kind_reads kind).complete i q after d in
    (c.0, act_plain op kind fs acc (here (op ∷ bytes) at) q e ∙ bind (immediates kind q) (λ i. Ok (More fs (acc ++ i.0 ∷ []) i.1)) (i, here after c.0) c.1)

enter_step : (opens : Option ValType → Opened) (bt : Option ValType) (fs : List Frame) (acc : List Instr) (bytes : List ℕ) (p : Place) (at : ℕ) → length fs < 512
    → (q : ℕ) × (enter opens fs acc p (here (block_byte bt ∷ bytes) at) ≡ Ok (More (record { opened = opens bt; items = acc } ∷ fs) [] (here bytes q)))
enter_step opens bt fs acc bytes p at l =
    let q = here (block_byte bt ∷ bytes) at in
    let c = block_type_reads.complete bt q bytes refl in
    let f : Option ValType × Place → Result Next DecodeError = λ bt. Ok (More (record { opened = opens bt.0; items = acc } ∷ fs) [] bt.1) in
    (c.0, ap (λ t. (if t then Ok tt else Err (TooDeep p.at)) >>= λ u. block_type q >>= f) (lt-ltb (length fs) 512 l) ∙ bind (block_type q) f (bt, here bytes c.0) c.1)

block_step : (bt : Option ValType) (fs : List Frame) (acc : List Instr) (bytes : List ℕ) (at : ℕ) → length fs < 512
    → (q : ℕ) × (step fs acc (here (0x02 ∷ block_byte bt ∷ bytes) at) ≡ Ok (More (record { opened = opened.Block bt; items = acc } ∷ fs) [] (here bytes q)))
unfolding step
block_step bt fs acc bytes at l = enter_step opened.Block bt fs acc bytes (here (0x02 ∷ block_byte bt ∷ bytes) at) (at + 1) l

loop_step : (bt : Option ValType) (fs : List Frame) (acc : List Instr) (bytes : List ℕ) (at : ℕ) → length fs < 512
    → (q : ℕ) × (step fs acc (here (0x03 ∷ block_byte bt ∷ bytes) at) ≡ Ok (More (record { opened = opened.Loop bt; items = acc } ∷ fs) [] (here bytes q)))
unfolding step
loop_step bt fs acc bytes at l = enter_step opened.Loop bt fs acc bytes (here (0x03 ∷ block_byte bt ∷ bytes) at) (at + 1) l

if_step : (bt : Option ValType) (fs : List Frame) (acc : List Instr) (bytes : List ℕ) (at : ℕ) → length fs < 512
    → (q : ℕ) × (step fs acc (here (0x04 ∷ block_byte bt ∷ bytes) at) ≡ Ok (More (record { opened = opened.If bt; items = acc } ∷ fs) [] (here bytes q)))
unfolding step
if_step bt fs acc bytes at l = enter_step opened.If bt fs acc bytes (here (0x04 ∷ block_byte bt ∷ bytes) at) (at + 1) l

else_step : (bt : Option ValType) (outer : List Instr) (fs : List Frame) (acc : List Instr) (bytes : List ℕ) (at : ℕ)
    → step (record { opened = opened.If bt; items = outer } ∷ fs) acc (here (0x05 ∷ bytes) at)
    ≡ Ok (More (record { opened = opened.Else bt (record { items = acc }); items = outer } ∷ fs) [] (here bytes (at + 1)))
unfolding step
else_step bt outer fs acc bytes at = refl

end_step : (f : Frame) (fs : List Frame) (acc : List Instr) (bytes : List ℕ) (at : ℕ)
    → step (f ∷ fs) acc (here (0x0b ∷ bytes) at) ≡ Ok (More fs (f.items ++ reading.close f.opened acc ∷ []) (here bytes (at + 1)))
unfolding step
end_step f fs acc bytes at = refl

last_step : (acc : List Instr) (bytes : List ℕ) (at : ℕ) → step [] acc (here (0x0b ∷ bytes) at) ≡ Ok (Whole acc (here bytes (at + 1)))
unfolding step
last_step acc bytes at = refl

-- one instruction, and the others
next : (fs : List Frame) (acc : List Instr) (i : Instr) (c : List Instr) (p q : Place) (rest : List ℕ) → go fs acc p ≡ go fs (acc ++ i ∷ []) q
    → (at : ℕ) × (go fs (acc ++ i ∷ []) q ≡ go fs ((acc ++ i ∷ []) ++ c) (here rest at)) → (at : ℕ) × (go fs acc p ≡ go fs (acc ++ i ∷ c) (here rest at))
next fs acc i c p q rest e h = (h.0, e ∙ (h.1 ∙ ap (λ x. go fs x (here rest h.0)) (append_assoc acc (i ∷ []) c)))

pub drive : (room : ℕ) (code : List Instr) (bytes rest : List ℕ) → Spells room code bytes rest → (fs : List Frame) → length fs + room ≡ 512 → (acc : List Instr) (at : ℕ)
    → (q : ℕ) × (go fs acc (here bytes at) ≡ go fs (acc ++ code) (here rest q))
drive room code bytes rest (none r b) fs e acc at = (at, ap (λ x. go fs x (here bytes at)) (sym (append-nil acc)))
drive room code bytes rest (plain r op kind i c b after s k f d) fs e acc at =
    let one = plain_step op kind i fs acc b after at k f in
    next fs acc i c (here (op ∷ b) at) (here after one.0) s (goes fs acc (here (op ∷ b) at) fs (acc ++ i ∷ []) (here after one.0) one.1) (drive r c after s d fs e (acc ++ i ∷ []) one.0)
drive room code bytes rest (block r bt body c b after s d d') fs e acc at =
    let f : Frame = record { opened = opened.Block bt; items = acc } in
    let p = here (0x02 ∷ block_byte bt ∷ b) at in
    let one = block_step bt fs acc b at (omega arith) in
    let inner = drive r body.items b (0x0b ∷ after) d (f ∷ fs) (omega arith) [] one.0 in
    let enters = goes fs acc p (f ∷ fs) [] (here b one.0) one.1 in
    let leaves = goes (f ∷ fs) body.items (here (0x0b ∷ after) inner.0) fs (acc ++ V.Block bt body ∷ []) (here after (inner.0 + 1)) (end_step f fs body.items after inner.0) in
    next fs acc (V.Block bt body) c p (here after (inner.0 + 1)) s (enters ∙ (inner.1 ∙ leaves)) (drive (suc r) c after s d' fs e (acc ++ V.Block bt body ∷ []) (inner.0 + 1))
drive room code bytes rest (loop r bt body c b after s d d') fs e acc at =
    let f : Frame = record { opened = opened.Loop bt; items = acc } in
    let p = here (0x03 ∷ block_byte bt ∷ b) at in
    let one = loop_step bt fs acc b at (omega arith) in
    let inner = drive r body.items b (0x0b ∷ after) d (f ∷ fs) (omega arith) [] one.0 in
    let enters = goes fs acc p (f ∷ fs) [] (here b one.0) one.1 in
    let leaves = goes (f ∷ fs) body.items (here (0x0b ∷ after) inner.0) fs (acc ++ V.Loop bt body ∷ []) (here after (inner.0 + 1)) (end_step f fs body.items after inner.0) in
    next fs acc (V.Loop bt body) c p (here after (inner.0 + 1)) s (enters ∙ (inner.1 ∙ leaves)) (drive (suc r) c after s d' fs e (acc ++ V.Loop bt body ∷ []) (inner.0 + 1))
drive room code bytes rest (if_then r bt first c b after s d d') fs e acc at =
    let f : Frame = record { opened = opened.If bt; items = acc } in
    let i : Instr = V.If bt first (record { items = [] }) in
    let p = here (0x04 ∷ block_byte bt ∷ b) at in
    let one = if_step bt fs acc b at (omega arith) in
    let inner = drive r first.items b (0x0b ∷ after) d (f ∷ fs) (omega arith) [] one.0 in
    let enters = goes fs acc p (f ∷ fs) [] (here b one.0) one.1 in
    let leaves = goes (f ∷ fs) first.items (here (0x0b ∷ after) inner.0) fs (acc ++ i ∷ []) (here after (inner.0 + 1)) (end_step f fs first.items after inner.0) in
    next fs acc i c p (here after (inner.0 + 1)) s (enters ∙ (inner.1 ∙ leaves)) (drive (suc r) c after s d' fs e (acc ++ i ∷ []) (inner.0 + 1))
drive room code bytes rest (if_else r bt first second c b between after s d k d') fs e acc at =
    let f : Frame = record { opened = opened.If bt; items = acc } in
    let g : Frame = record { opened = opened.Else bt first; items = acc } in
    let i : Instr = V.If bt first second in
    let p = here (0x04 ∷ block_byte bt ∷ b) at in
    let one = if_step bt fs acc b at (omega arith) in
    let inner = drive r first.items b (0x05 ∷ between) d (f ∷ fs) (omega arith) [] one.0 in
    let enters = goes fs acc p (f ∷ fs) [] (here b one.0) one.1 in
    let parts = goes (f ∷ fs) first.items (here (0x05 ∷ between) inner.0) (g ∷ fs) [] (here between (inner.0 + 1)) (else_step bt acc fs first.items between inner.0) in
    let inner' = drive r second.items between (0x0b ∷ after) k (g ∷ fs) (omega arith) [] (inner.0 + 1) in
    let leaves = goes (g ∷ fs) second.items (here (0x0b ∷ after) inner'.0) fs (acc ++ i ∷ []) (here after (inner'.0 + 1)) (end_step g fs second.items after inner'.0) in
    next fs acc i c p (here after (inner'.0 + 1)) s (enters ∙ (inner.1 ∙ (parts ∙ (inner'.1 ∙ leaves)))) (drive (suc r) c after s d' fs e (acc ++ i ∷ []) (inner'.0 + 1))

pub complete : (code : List Instr) (p : Place) (rest : List ℕ) → Expr code p.rest rest → (q : ℕ) × (expr p ≡ Ok (code, here rest q))
complete code p rest d =
    let h = drive 512 code p.rest (0x0b ∷ rest) d [] refl [] p.at in
    (h.0 + 1, h.1 ∙ ends [] code (here (0x0b ∷ rest) h.0) code (here rest (h.0 + 1)) (last_step code rest h.0))
