-- An expression that is read is spelled.
use Rattle.std.proofs.Common.{◌≡◌, ℕ, zero, suc, ◌+◌, ◌<◌, Bool, true, false, List, [], ◌∷◌, ◌++◌, length, Ok, Err, refl, sym, ap, subst, ◌∙◌, arith, append_assoc, inl, inr}
use Rattle.std.proofs.lemmas.List.{append-nil}
use Rattle.std.proofs.lemmas.Bool.{ltb-true}
use Rattle.std.specs.Prelude.{◌⊎◌, Option, Some, None, nat_lt, nat_eq, if◌then◌else◌, Result}
use Rattle.wasm_ast.specs.declared.val_types.ValType.{ValType}
use Rattle.wasm_ast.specs.declared.trees.Instr.{Instr}
use Rattle.wasm_ast.specs.declared.trees.Instr.TheVariants as V
use Rattle.wasm_code.specs.declared.error.DecodeError.{DecodeError}
use Rattle.wasm_code.specs.declared.error.DecodeError.TheVariants.{TooDeep}
use Rattle.wasm_code.specs.declared.frames.Opened.{Opened}
use Rattle.wasm_code.specs.declared.frames.Opened.TheVariants as opened
use Rattle.wasm_code.specs.declared.frames.Frame.{Frame}
use Rattle.wasm_code.specs.Places.{Place, ◌>>=◌, byte}
use Rattle.wasm_code.specs.Opcodes.{Kind, kind_of}
use Rattle.wasm_code.specs.Reading as reading
use Rattle.wasm_code.specs.Reading.{block_type, immediates, Next, More, Whole, close, end, otherwise, otherwise_at, enter, act, step, steps, go_on, expr}
use Rattle.wasm_code.specs.Grammar.{block_byte, Spells, none, plain, block, loop, if_then, if_else, Expr}
use Rattle.wasm_code.proofs.Agreements.{bind_ok, ok_is, byte_sound, split}
use Rattle.wasm_code.proofs.FieldsBothWays.{block_type_reads}
use Rattle.wasm_code.proofs.Stepping.{kind_reads}

-- how the innermost block ends: by 0B, or by 05, more instructions and 0B
abbrev Ends : ℕ → Opened → List Instr → List ℕ → Instr → List ℕ → Type 0
Ends room o items bytes i after =
    ((more : List Instr) × (i ≡ close o (items ++ more)) × Spells room more bytes (0x0b ∷ after))
    ⊎ ((bt : Option ValType) × (more : List Instr) × (second : List Instr) × (between : List ℕ) × (o ≡ opened.If bt)
    × (i ≡ V.If bt (record { items = items ++ more }) (record { items = second })) × Spells room more bytes (0x05 ∷ between) × Spells room second between (0x0b ∷ after))

-- these bytes go on with the open blocks up to the end of the expression
abbrev Closes : ℕ → List Frame → List Instr → List ℕ → List Instr → List ℕ → Type 0
Closes room [] items bytes code rest = (more : List Instr) × (code ≡ items ++ more) × Spells room more bytes (0x0b ∷ rest)
Closes room (f ∷ fs) items bytes code rest = (i : Instr) × (after : List ℕ) × Ends room f.opened items bytes i after × Closes (suc room) fs (f.items ++ i ∷ []) after code rest

-- these bytes spell x in front of what those spell
abbrev Fronts : ℕ → Instr → List ℕ → List ℕ → Type 0
Fronts room x bytes after = (more : List Instr) (rest : List ℕ) → Spells room more after rest → Spells room (x ∷ more) bytes rest

front_ends : (room : ℕ) (o : Opened) (items : List Instr) (x : Instr) (bytes next : List ℕ) (i : Instr) (after : List ℕ) → Fronts room x bytes next
    → Ends room o (items ++ x ∷ []) next i after → Ends room o items bytes i after
front_ends room o items x bytes next i after f (inl d) =
    inl (x ∷ d.0, d.1 ∙ ap (close o) (append_assoc items (x ∷ []) d.0), f d.0 (0x0b ∷ after) d.2)
front_ends room o items x bytes next i after f (inr d) =
    inr (d.0, x ∷ d.1, d.2, d.3, d.4, d.5 ∙ ap (λ js. V.If d.0 (record { items = js }) (record { items = d.2 })) (append_assoc items (x ∷ []) d.1), f d.1 (0x05 ∷ d.3) d.6, d.7)

front_closes : (room : ℕ) (fs : List Frame) (items : List Instr) (x : Instr) (bytes next : List ℕ) (code : List Instr) (rest : List ℕ) → Fronts room x bytes next
    → Closes room fs (items ++ x ∷ []) next code rest → Closes room fs items bytes code rest
front_closes room [] items x bytes next code rest f d = (x ∷ d.0, d.1 ∙ append_assoc items (x ∷ []) d.0, f d.0 (0x0b ∷ rest) d.2)
front_closes room (g ∷ fs) items x bytes next code rest f d = (d.0, d.1, front_ends room g.opened items x bytes next d.0 d.1 f d.2, d.3)

-- what is known of the step after
abbrev Done : List Instr × Place → Next → Type 0
Done y (More gs js q) = (room : ℕ) → room + length gs ≡ 512 → Closes room gs js q.rest y.0 y.1.rest
Done y (Whole js q) = (js ≡ y.0) × (q.rest ≡ y.1.rest)

-- a block that is opened, and ends
abbrev Opens : ℕ → (Option ValType → Opened) → Type 0
Opens op opens = (room : ℕ) (bt : Option ValType) (i : Instr) (bytes after : List ℕ) → Ends room (opens bt) [] bytes i after → Fronts (suc room) i (op ∷ block_byte bt ∷ bytes) after

block_opens : Opens 0x02 opened.Block
block_opens room bt i bytes after (inl d) more rest s =
    subst (λ i. Spells (suc room) (i ∷ more) (0x02 ∷ block_byte bt ∷ bytes) rest) (sym d.1) (block room bt (record { items = d.0 }) more bytes after rest d.2 s)
block_opens room bt i bytes after (inr d) more rest s = let h : opened.Block bt ≡ opened.If d.0 = d.4 in absurd cc

loop_opens : Opens 0x03 opened.Loop
loop_opens room bt i bytes after (inl d) more rest s =
    subst (λ i. Spells (suc room) (i ∷ more) (0x03 ∷ block_byte bt ∷ bytes) rest) (sym d.1) (loop room bt (record { items = d.0 }) more bytes after rest d.2 s)
loop_opens room bt i bytes after (inr d) more rest s = let h : opened.Loop bt ≡ opened.If d.0 = d.4 in absurd cc

if_same : (bt bt' : Option ValType) → opened.If bt ≡ opened.If bt' → bt ≡ bt'
if_same bt bt' e = cc

if_opens : Opens 0x04 opened.If
if_opens room bt i bytes after (inl d) more rest s =
    subst (λ i. Spells (suc room) (i ∷ more) (0x04 ∷ block_byte bt ∷ bytes) rest) (sym d.1) (if_then room bt (record { items = d.0 }) more bytes after rest d.2 s)
if_opens room bt i bytes after (inr d) more rest s =
    let same : V.If bt (record { items = d.1 }) (record { items = d.2 }) ≡ i =
    ap (λ bt. V.If bt (record { items = d.1 }) (record { items = d.2 })) (if_same bt d.0 d.4) ∙ sym d.5 in
    subst (λ i. Spells (suc room) (i ∷ more) (0x04 ∷ block_byte bt ∷ bytes) rest) same
    (if_else room bt (record { items = d.1 }) (record { items = d.2 }) more bytes d.3 after rest d.6 d.7 s)

enter_at : (op : ℕ) (opens : Option ValType → Opened) → Opens op opens → (room : ℕ) (fs : List Frame) (items : List Instr) (bytes : List ℕ) (y : List Instr × Place) (bt : Option ValType) (q : Place)
    → room + length fs ≡ 512 → length fs < 512 → bytes ≡ op ∷ block_byte bt ∷ q.rest → Done y (More (record { opened = opens bt; items = items } ∷ fs) [] q)
    → Closes room fs items bytes y.0 y.1.rest
enter_at op opens o zero fs items bytes y bt q e l b d = absurd (omega arith)
enter_at op opens o (suc room) fs items bytes y bt q e l b d =
    let c = d room (omega arith) in
    subst (λ bytes. Closes (suc room) fs items bytes y.0 y.1.rest) (sym b)
    (front_closes (suc room) fs items c.0 (op ∷ block_byte bt ∷ q.rest) c.1 y.0 y.1.rest (o room bt c.0 q.rest c.1 c.2) c.3)

room_by : (t : Bool) (p : Place) (u : Unit {0}) → (if t then Ok tt else Err (TooDeep p.at)) ≡ Ok u → t ≡ true
room_by true p u e = refl
room_by false p u e = absurd cc

room_ok : (fs : List Frame) (p : Place) (t : Unit {0}) → reading.room fs p ≡ Ok t → length fs < 512
room_ok fs p t e = ltb-true (length fs) 512 (room_by (nat_lt (length fs) 512) p t e)

enter_sound : (op : ℕ) (opens : Option ValType → Opened) → Opens op opens → (room : ℕ) (fs : List Frame) (items : List Instr) (p q : Place) (next : Next) (y : List Instr × Place)
    → room + length fs ≡ 512 → p.rest ≡ op ∷ q.rest → enter opens fs items p q ≡ Ok next → Done y next → Closes room fs items p.rest y.0 y.1.rest
enter_sound op opens o room fs items p q next y e b k d =
    let f : Option ValType × Place → Result Next DecodeError = λ bt. Ok (More (record { opened = opens bt.0; items = items } ∷ fs) [] bt.1) in
    let t = bind_ok (reading.room fs p) (λ t. block_type q >>= f) next k in
    let bt = bind_ok (block_type q) f next t.2 in
    let w = block_type_reads.sound q bt.0 bt.1 in
    let h = subst (Done y) (sym (ok_is (More (record { opened = opens bt.0.0; items = items } ∷ fs) [] bt.0.1) next bt.2)) d in
    enter_at op opens o room fs items p.rest y bt.0.0 bt.0.1 e (room_ok fs p t.0 t.1) (b ∙ ap (λ r. op ∷ r) w.spells) h

-- the byte 0B
end_sound : (room : ℕ) (fs : List Frame) (items : List Instr) (bytes : List ℕ) (q : Place) (y : List Instr × Place)
    → room + length fs ≡ 512 → bytes ≡ 0x0b ∷ q.rest → Done y (end fs items q) → Closes room fs items bytes y.0 y.1.rest
end_sound room [] items bytes q y e b d =
    ([], sym d.0 ∙ sym (append-nil items), subst (λ r. Spells room [] bytes (0x0b ∷ r)) d.1 (subst (λ r. Spells room [] bytes r) b (none room bytes)))
end_sound room (f ∷ fs) items bytes q y e b d =
    (close f.opened items, q.rest, inl ([], ap (close f.opened) (sym (append-nil items)), subst (λ r. Spells room [] bytes r) b (none room bytes)), d (suc room) (omega arith))

-- the byte 05
second_of : (room : ℕ) (bt : Option ValType) (items : List Instr) (bytes : List ℕ) (q : Place) (i : Instr) (after : List ℕ) → bytes ≡ 0x05 ∷ q.rest
    → Ends room (opened.Else bt (record { items = items })) [] q.rest i after → Ends room (opened.If bt) items bytes i after
second_of room bt items bytes q i after b (inl d) =
    inr (
      bt,
      [],
      d.0,
      q.rest,
      refl,
      d.1 ∙ ap (λ js. V.If bt (record { items = js }) (record { items = d.0 })) (sym (append-nil items)),
      subst (λ r. Spells room [] bytes r) b (none room bytes),
      d.2,
    )
second_of room bt items bytes q i after b (inr d) = let h : opened.Else bt (record { items = items }) ≡ opened.If d.0 = d.4 in absurd cc

else_ends : (room : ℕ) (bt : Option ValType) (outer : List Instr) (fs : List Frame) (items : List Instr) (bytes : List ℕ) (q : Place) (y : List Instr × Place)
    → bytes ≡ 0x05 ∷ q.rest → Closes room (record { opened = opened.Else bt (record { items = items }); items = outer } ∷ fs) [] q.rest y.0 y.1.rest
    → (i : Instr) × (after : List ℕ) × Ends room (opened.If bt) items bytes i after × Closes (suc room) fs (outer ++ i ∷ []) after y.0 y.1.rest
else_ends room bt outer fs items bytes q y b c = (c.0, c.1, second_of room bt items bytes q c.0 c.1 b c.2, c.3)

else_at : (room : ℕ) (o : Opened) (outer : List Instr) (fs : List Frame) (items : List Instr) (bytes : List ℕ) (p q : Place) (next : Next) (y : List Instr × Place)
    → room + suc (length fs) ≡ 512 → bytes ≡ 0x05 ∷ q.rest → otherwise_at o fs outer items p q ≡ Ok next → Done y next
    → (i : Instr) × (after : List ℕ) × Ends room o items bytes i after × Closes (suc room) fs (outer ++ i ∷ []) after y.0 y.1.rest
else_at room (opened.If bt) outer fs items bytes p q next y e b k d =
    let g : Frame = record { opened = opened.Else bt (record { items = items }); items = outer } in
    let h = subst (Done y) (sym (ok_is (More (g ∷ fs) [] q) next k)) d in
    else_ends room bt outer fs items bytes q y b (h room e)
else_at room (opened.Block bt) outer fs items bytes p q next y e b k d = absurd cc
else_at room (opened.Loop bt) outer fs items bytes p q next y e b k d = absurd cc
else_at room (opened.Else bt first) outer fs items bytes p q next y e b k d = absurd cc

else_sound : (room : ℕ) (fs : List Frame) (items : List Instr) (p q : Place) (next : Next) (y : List Instr × Place)
    → room + length fs ≡ 512 → p.rest ≡ 0x05 ∷ q.rest → otherwise fs items p q ≡ Ok next → Done y next → Closes room fs items p.rest y.0 y.1.rest
else_sound room [] items p q next y e b k d = absurd cc
else_sound room (f ∷ fs) items p q next y e b k d = else_at room f.opened f.items fs items p.rest p q next y e b k d

-- an instruction that holds none
plain_by : (room op : ℕ) (o : Option Kind) → kind_of op ≡ o → (fs : List Frame) (items : List Instr) (p q : Place) (next : Next) (y : List Instr × Place)
    → room + length fs ≡ 512 → p.rest ≡ op ∷ q.rest → reading.plain o fs items p q ≡ Ok next → Done y next → Closes room fs items p.rest y.0 y.1.rest
plain_by room op None h fs items p q next y e b k d = absurd cc
plain_by room op (Some kind) h fs items p q next y e b k d =
    let i = bind_ok (immediates kind q) (λ i. Ok (More fs (items ++ i.0 ∷ []) i.1)) next k in
    let w = (kind_reads kind).sound q i.0 i.1 in
    let g = subst (Done y) (sym (ok_is (More fs (items ++ i.0.0 ∷ []) i.0.1) next i.2)) d in
    subst (λ bytes. Closes room fs items bytes y.0 y.1.rest) (sym b)
    (front_closes room fs items i.0.0 (op ∷ q.rest) i.0.1.rest y.0 y.1.rest
    (λ more rest s. plain room op kind i.0.0 more q.rest i.0.1.rest rest h w.spells s) (g room e))

act_sound : (op room : ℕ) (fs : List Frame) (items : List Instr) (p q : Place) (next : Next) (y : List Instr × Place)
    → room + length fs ≡ 512 → p.rest ≡ op ∷ q.rest → act op fs items p q ≡ Ok next → Done y next → Closes room fs items p.rest y.0 y.1.rest
act_sound op room fs items p q next y r s k done =
    let P : Type 0 = Closes room fs items p.rest y.0 y.1.rest in
    let at : (b : ℕ) → op ≡ b → p.rest ≡ b ∷ q.rest = λ b e. subst (λ b. p.rest ≡ b ∷ q.rest) e s in
    let z : Result Next DecodeError = reading.plain (kind_of op) fs items p q in
    let d : Result Next DecodeError = if nat_eq op 0x0b then Ok (end fs items q) else z in
    let c : Result Next DecodeError = if nat_eq op 0x05 then otherwise fs items p q else d in
    let b : Result Next DecodeError = if nat_eq op 0x04 then enter opened.If fs items p q else c in
    let a : Result Next DecodeError = if nat_eq op 0x03 then enter opened.Loop fs items p q else b in
    split {P = P} op 0x02 (enter opened.Block fs items p q) a next (λ e h. enter_sound 0x02 opened.Block block_opens room fs items p q next y r (at 0x02 e) h done)
    (split {P = P} op 0x03 (enter opened.Loop fs items p q) b next (λ e h. enter_sound 0x03 opened.Loop loop_opens room fs items p q next y r (at 0x03 e) h done)
    (split {P = P} op 0x04 (enter opened.If fs items p q) c next (λ e h. enter_sound 0x04 opened.If if_opens room fs items p q next y r (at 0x04 e) h done)
    (split {P = P} op 0x05 (otherwise fs items p q) d next (λ e h. else_sound room fs items p q next y r (at 0x05 e) h done)
    (split {P = P} op 0x0b (Ok (end fs items q)) z next (λ e h. end_sound room fs items p.rest q y r (at 0x0b e) (subst (Done y) (sym (ok_is (end fs items q) next h)) done))
    (λ h. plain_by room op (kind_of op) refl fs items p q next y r s h done))))) k

done_by : (n : ℕ) (next : Next) (y : List Instr × Place) → ((fs : List Frame) (items : List Instr) (p : Place) → steps n fs items p ≡ Ok y → (room : ℕ) → room + length fs ≡ 512 → Closes room fs items p.rest y.0 y.1.rest)
    → go_on (steps n) next ≡ Ok y → Done y next
done_by n (More gs js q) y ih e = λ room r. ih gs js q e room r
done_by n (Whole js q) y ih e = let same = ok_is (js, q) y e in (ap (λ (y : List Instr × Place). y.0) same, ap (λ (y : List Instr × Place). y.1.rest) same)

steps_sound : (n : ℕ) (fs : List Frame) (items : List Instr) (p : Place) (y : List Instr × Place) → steps n fs items p ≡ Ok y → (room : ℕ) → room + length fs ≡ 512 → Closes room fs items p.rest y.0 y.1.rest
unfolding steps step
steps_sound zero fs items p y e room r = absurd cc
steps_sound (suc n) fs items p y e room r =
    let next = bind_ok (step fs items p) (go_on (steps n)) y e in
    let op = bind_ok (byte p) (λ op. act op.0 fs items p op.1) next.0 next.1 in
    act_sound op.0.0 room fs items p op.0.1 next.0 y r (byte_sound p op.0 op.1) op.2 (done_by n next.0 y (λ gs js q h. steps_sound n gs js q y h) next.2)

pub sound : (p : Place) (y : List Instr × Place) → expr p ≡ Ok y → Expr y.0 p.rest y.1.rest
sound p y e =
    let c = steps_sound (suc (length p.rest)) [] [] p y e 512 refl in
    subst (λ code. Spells 512 code p.rest (0x0b ∷ y.1.rest)) (sym c.1) c.2
