-- How far instructions, expressions and bodies go on, and where their faults are.
use Rattle.std.proofs.Common.{ℕ, zero, suc, ◌-◌, Bool, true, false, List, [], ◌∷◌, ◌++◌, length, Result, Ok, Err, arith}
use Rattle.std.specs.Prelude.{Option, Some, None, nat_le, nat_lt, nat_eq, if◌then◌else◌, replicate}
use Rattle.wasm_ast.specs.declared.val_types.ValType.{ValType}
use Rattle.wasm_ast.specs.declared.trees.Instr.{Instr}
use Rattle.wasm_ast.specs.declared.trees.Instr.TheVariants as V
use Rattle.wasm_ast.specs.declared.bodies.Body.{Body}
use Rattle.wasm_code.specs.declared.error.DecodeError.{DecodeError}
use Rattle.wasm_code.specs.declared.error.DecodeError.TheVariants.{Malformed, TooDeep, TooManyLocals}
use Rattle.wasm_code.specs.declared.frames.Opened.{Opened}
use Rattle.wasm_code.specs.declared.frames.Opened.TheVariants as opened
use Rattle.wasm_code.specs.declared.frames.Frame.{Frame}
use Rattle.wasm_code.specs.Places.{Place, Reading, ◌>>=◌, byte}
use Rattle.wasm_code.specs.Agreement.{IsFurther}
use Rattle.wasm_code.specs.Opcodes.{Kind, Bare, Zero, Index, IndexZero, Labels, Memory, Signed32, Signed64, Float32, Float64, Bulk, kind_of}
use Rattle.wasm_code.specs.Fields.{tag, u32, s32, s64, bits32, bits64, vector, val_type}
use Rattle.wasm_code.specs.Reading.{block_type_of, block_type, zero_byte, bulk, immediates, instruction, Next, More, Whole, end, otherwise, otherwise_at, room, enter, plain, act, step, go_on, steps, expr, within, locals, body}
use Rattle.wasm_code.proofs.Extents.{Moves, moves_ok, moves_err, moves_then, stays, behind, here_bad, behind_it, Goes, chained, made, two, byte_goes, tagged_moves, one_of_goes, val_type_goes, u32_goes, s32_goes, s64_goes, bits32_goes, bits64_goes, vector_goes}

block_type_goes : Goes block_type
unfolding block_type
block_type_goes p = one_of_goes block_type_of p

-- what follows an opcode
zero_byte_goes : (instr : Instr) → Goes (zero_byte instr)
zero_byte_goes instr p = tagged_moves 0x00 p behind_it (λ q. Ok (instr, q)) (λ q. moves_ok q behind_it (instr, q) (stays q))

choose : (p : Place) (t : Bool) (a b : Reading Instr) → Moves p behind_it a → Moves p behind_it b → Moves p behind_it (if t then a else b)
choose p true a b m k = m
choose p false a b m k = k

bulk_by : (p : Place) (n : ℕ × Place) → IsFurther p n.1 → Moves p behind_it (bulk n.0 p.at n.1)
bulk_by p n k =
    let copies : Reading Instr = tag 0x00 n.1 >>= λ q. zero_byte V.MemoryCopy q in
    let fault : Reading Instr = Err (Malformed p.at) in
    let fills : Reading Instr = if nat_eq n.0 11 then zero_byte V.MemoryFill n.1 else fault in
    choose p (nat_eq n.0 10) copies fills (behind p n.1 behind_it copies k (tagged_moves 0x00 n.1 behind_it (λ q. zero_byte V.MemoryCopy q) (zero_byte_goes V.MemoryCopy)))
    (choose p (nat_eq n.0 11) (zero_byte V.MemoryFill n.1) fault (behind p n.1 behind_it (zero_byte V.MemoryFill n.1) k (zero_byte_goes V.MemoryFill n.1)) (moves_err p behind_it (Malformed p.at) (here_bad p)))

kind_goes : (kind : Kind) → Goes (immediates kind)
kind_goes (Bare instr) p = moves_ok p behind_it (instr, p) (stays p)
kind_goes (Zero instr) p = zero_byte_goes instr p
kind_goes (Index instr) p = made instr u32 u32_goes p
kind_goes (IndexZero instr) p = chained p behind_it (u32 p) (λ n. tag 0x00 n.1 >>= λ q. Ok (instr n.0, q)) (u32_goes p) (λ n. zero_byte_goes (instr n.0) n.1)
kind_goes (Labels instr) p = two instr (vector u32) u32 (vector_goes u32 u32_goes) u32_goes p
kind_goes (Memory instr) p = two instr u32 u32 u32_goes u32_goes p
kind_goes (Signed32 instr) p = made instr s32 s32_goes p
kind_goes (Signed64 instr) p = made instr s64 s64_goes p
kind_goes (Float32 instr) p = made instr bits32 bits32_goes p
kind_goes (Float64 instr) p = made instr bits64 bits64_goes p
kind_goes Bulk p = moves_then p behind_it behind_it (u32 p) (λ n. bulk n.0 p.at n.1) (u32_goes p) (λ n e k. bulk_by p n k)

instruction_moves : (kind : Option Kind) (p q : Place) → IsFurther p q → Moves p behind_it (instruction kind p q)
instruction_moves None p q k = moves_err p behind_it (Malformed p.at) (here_bad p)
instruction_moves (Some kind) p q k = behind p q behind_it (immediates kind q) k (kind_goes kind q)

-- where the next opcode stands, or what is behind the expression
abbrev where_next : Next → Place
where_next (More fs items q) = q
where_next (Whole items q) = q

end_moves : (fs : List Frame) (items : List Instr) (p q : Place) → IsFurther p q → Moves p where_next (Ok (end fs items q))
end_moves [] items p q k = moves_ok p where_next (Whole items q) k
end_moves (f ∷ fs) items p q k = moves_ok p where_next (end (f ∷ fs) items q) k

otherwise_by : (o : Opened) (fs : List Frame) (outer items : List Instr) (p q : Place) → IsFurther p q → Moves p where_next (otherwise_at o fs outer items p q)
otherwise_by (opened.If bt) fs outer items p q k = moves_ok p where_next (More (record { opened = opened.Else bt (record { items = items }); items = outer } ∷ fs) [] q) k
otherwise_by (opened.Block bt) fs outer items p q k = moves_err p where_next (Malformed p.at) (here_bad p)
otherwise_by (opened.Loop bt) fs outer items p q k = moves_err p where_next (Malformed p.at) (here_bad p)
otherwise_by (opened.Else bt s) fs outer items p q k = moves_err p where_next (Malformed p.at) (here_bad p)

otherwise_moves : (fs : List Frame) (items : List Instr) (p q : Place) → IsFurther p q → Moves p where_next (otherwise fs items p q)
otherwise_moves [] items p q k = moves_err p where_next (Malformed p.at) (here_bad p)
otherwise_moves (f ∷ fs) items p q k = otherwise_by f.opened fs f.items items p q k

room_by : (t : Bool) (p : Place) → Moves {X = Unit {0}} p (λ t. p) (if t then Ok tt else Err (TooDeep p.at))
room_by true p = moves_ok p (λ t. p) tt (stays p)
room_by false p = moves_err p (λ t. p) (TooDeep p.at) (omega arith, omega arith)

enter_moves : (opens : Option ValType → Opened) (fs : List Frame) (items : List Instr) (p q : Place) → IsFurther p q → Moves p where_next (enter opens fs items p q)
enter_moves opens fs items p q k =
    let f : Option ValType × Place → Result Next DecodeError = λ bt. Ok (More (record { opened = opens bt.0; items = items } ∷ fs) [] bt.1) in
    moves_then p (λ t. p) where_next (room fs p) (λ t. block_type q >>= f) (room_by (nat_lt (length fs) 512) p)
    (λ t _ _. behind p q where_next (block_type q >>= f) k (chained q where_next (block_type q) f (block_type_goes q)
    (λ bt. moves_ok bt.1 where_next (More (record { opened = opens bt.0; items = items } ∷ fs) [] bt.1) (stays bt.1))))

plain_moves : (kind : Option Kind) (fs : List Frame) (items : List Instr) (p q : Place) → IsFurther p q → Moves p where_next (plain kind fs items p q)
plain_moves kind fs items p q k =
    moves_then p behind_it where_next (instruction kind p q) (λ i. Ok (More fs (items ++ i.0 ∷ []) i.1)) (instruction_moves kind p q k)
    (λ i e l. moves_ok p where_next (More fs (items ++ i.0 ∷ []) i.1) l)

either : (p : Place) (t : Bool) (a b : Result Next DecodeError) → Moves p where_next a → Moves p where_next b → Moves p where_next (if t then a else b)
either p true a b m k = m
either p false a b m k = k

act_moves : (op : ℕ) (fs : List Frame) (items : List Instr) (p q : Place) → IsFurther p q → Moves p where_next (act op fs items p q)
act_moves op fs items p q k =
    let e : Result Next DecodeError = plain (kind_of op) fs items p q in
    let d : Result Next DecodeError = if nat_eq op 0x0b then Ok (end fs items q) else e in
    let c : Result Next DecodeError = if nat_eq op 0x05 then otherwise fs items p q else d in
    let b : Result Next DecodeError = if nat_eq op 0x04 then enter opened.If fs items p q else c in
    let a : Result Next DecodeError = if nat_eq op 0x03 then enter opened.Loop fs items p q else b in
    either p (nat_eq op 0x02) (enter opened.Block fs items p q) a (enter_moves opened.Block fs items p q k)
    (either p (nat_eq op 0x03) (enter opened.Loop fs items p q) b (enter_moves opened.Loop fs items p q k)
    (either p (nat_eq op 0x04) (enter opened.If fs items p q) c (enter_moves opened.If fs items p q k)
    (either p (nat_eq op 0x05) (otherwise fs items p q) d (otherwise_moves fs items p q k)
    (either p (nat_eq op 0x0b) (Ok (end fs items q)) e (end_moves fs items p q k) (plain_moves (kind_of op) fs items p q k)))))

step_moves : (fs : List Frame) (items : List Instr) (p : Place) → Moves p where_next (step fs items p)
unfolding step
step_moves fs items p = moves_then p behind_it where_next (byte p) (λ op. act op.0 fs items p op.1) (byte_goes p) (λ op e k. act_moves op.0 fs items p op.1 k)

next_goes : (n : ℕ) (next : Next) → ((fs : List Frame) (items : List Instr) (p : Place) → Moves p behind_it (steps n fs items p)) → Moves (where_next next) behind_it (go_on (steps n) next)
next_goes n (More fs items q) ih = ih fs items q
next_goes n (Whole items q) ih = moves_ok q behind_it (items, q) (stays q)

steps_go : (n : ℕ) (fs : List Frame) (items : List Instr) (p : Place) → Moves p behind_it (steps n fs items p)
unfolding steps
steps_go zero fs items p = moves_err p behind_it (Malformed p.at) (here_bad p)
steps_go (suc n) fs items p =
    moves_then p where_next behind_it (step fs items p) (go_on (steps n)) (step_moves fs items p)
    (λ next e k. behind p (where_next next) behind_it (go_on (steps n) next) k (next_goes n next (λ gs js q. steps_go n gs js q)))

pub expr_goes : Goes expr
expr_goes p = steps_go (suc (length p.rest)) [] [] p

-- bodies
within_by : (f : ℕ) (p : Place) (t : Bool) → Moves {X = Unit {0}} p (λ t. p) (if t then Ok tt else Err (TooManyLocals f))
within_by f p true = moves_ok p (λ t. p) tt (stays p)
within_by f p false = moves_err p (λ t. p) (TooManyLocals f) tt

locals_go : (f n left : ℕ) → Goes (locals f n left)
unfolding locals
locals_go f zero left p = moves_ok p behind_it ([], p) (stays p)
locals_go f (suc n) left p =
    chained p behind_it (u32 p) (λ count. within f count.0 left >>= λ t. val_type count.1 >>= λ one. locals f n (left - count.0) one.1 >>= λ others. Ok (replicate count.0 one.0 ++ others.0, others.1)) (u32_goes p)
    (λ count. moves_then count.1 (λ t. count.1) behind_it (within f count.0 left) (λ t. val_type count.1 >>= λ one. locals f n (left - count.0) one.1 >>= λ others. Ok (replicate count.0 one.0 ++ others.0, others.1))
    (within_by f count.1 (nat_le count.0 left))
    (λ t _ _. chained count.1 behind_it (val_type count.1) (λ one. locals f n (left - count.0) one.1 >>= λ others. Ok (replicate count.0 one.0 ++ others.0, others.1)) (val_type_goes count.1)
    (λ one. made (λ others. replicate count.0 one.0 ++ others) (locals f n (left - count.0)) (locals_go f n (left - count.0)) one.1)))

pub body_goes : (f : ℕ) → Goes (body f)
unfolding body
body_goes f p =
    chained p behind_it (u32 p) (λ groups. locals f groups.0 1024 groups.1 >>= λ ts. expr ts.1 >>= λ code. Ok (record { locals = ts.0; code = record { items = code.0 } }, code.1)) (u32_goes p)
    (λ groups. chained groups.1 behind_it (locals f groups.0 1024 groups.1) (λ ts. expr ts.1 >>= λ code. Ok (record { locals = ts.0; code = record { items = code.0 } }, code.1)) (locals_go f groups.0 1024 groups.1)
    (λ ts. made {A = List Instr} {B = Body} (λ code. record { locals = ts.0; code = record { items = code } }) expr expr_goes ts.1))
