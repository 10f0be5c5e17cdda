-- Reading instructions, expressions and bodies from the left, a field at a time.
use Rattle.std.specs.Option.{option_map}
use Rattle.std.specs.Prelude.{ℕ, zero, suc, ◌-◌, nat_lt, nat_le, nat_eq, if◌then◌else◌, Option, Some, None, Result, Ok, Err}
use Rattle.std.specs.Prelude.{List, [], ◌∷◌, ◌++◌, length, replicate}
use Rattle.wasm_ast.specs.declared.val_types.ValType.{ValType}
use Rattle.wasm_ast.specs.declared.trees.Seq.{Seq}
use Rattle.wasm_ast.specs.declared.trees.Instr.{Instr}
use Rattle.wasm_ast.specs.declared.trees.Instr.TheVariants as V
use Rattle.wasm_ast.specs.declared.bodies.Body.{Body}
use Rattle.wasm_code.specs.declared.error.DecodeError.{DecodeError}
use Rattle.wasm_code.specs.declared.error.DecodeError.TheVariants.{Malformed, TooDeep, TooManyLocals}
use Rattle.wasm_code.specs.declared.frames.Opened.{Opened}
use Rattle.wasm_code.specs.declared.frames.Opened.TheVariants as opened
use Rattle.wasm_code.specs.declared.frames.Frame.{Frame}
use Rattle.wasm_code.specs.Places.{Place, Reading, ◌>>=◌, byte}
use Rattle.wasm_code.specs.Fields.{tag, one_of, u32, s32, s64, bits32, bits64, vector, filling, val_type, val_type_of}
use Rattle.wasm_code.specs.Opcodes.{Kind, Bare, Zero, Index, IndexZero, Labels, Memory, Signed32, Signed64, Float32, Float64, Bulk, kind_of}

-- block types (5.3.2): 40 for none, or a value type
abbrev pub block_type_of : ℕ → Option (Option ValType)
block_type_of b = if nat_eq b 0x40 then Some None else option_map Some (val_type_of b)

unfoldable pub block_type : Place → Reading (Option ValType)
block_type p = one_of block_type_of p

-- the byte 00, and the instruction that it ends
abbrev pub zero_byte : Instr → Place → Reading Instr
zero_byte instr p = do
  q ← tag 0x00 p
  Ok (instr, q)

-- the instruction of the opcode FC with this integer, which stood at the offset, and its bytes 00
abbrev pub bulk : ℕ → ℕ → Place → Reading Instr
bulk n at p =
    if nat_eq n 10 then (tag 0x00 p >>= λ q. zero_byte V.MemoryCopy q) else
    if nat_eq n 11 then zero_byte V.MemoryFill p else Err (Malformed at)

-- an instruction, from what follows its opcode
abbrev pub immediates : Kind → Place → Reading Instr
immediates (Bare instr) p = Ok (instr, p)
immediates (Zero instr) p = zero_byte instr p
immediates (Index instr) p = do
  n ← u32 p
  Ok (instr n.0, n.1)
immediates (IndexZero instr) p = do
  n ← u32 p
  q ← tag 0x00 n.1
  Ok (instr n.0, q)
immediates (Labels instr) p = do
  labels ← vector u32 p
  last ← u32 labels.1
  Ok (instr labels.0 last.0, last.1)
immediates (Memory instr) p = do
  align ← u32 p
  offset ← u32 align.1
  Ok (instr align.0 offset.0, offset.1)
immediates (Signed32 instr) p = do
  n ← s32 p
  Ok (instr n.0, n.1)
immediates (Signed64 instr) p = do
  n ← s64 p
  Ok (instr n.0, n.1)
immediates (Float32 instr) p = do
  n ← bits32 p
  Ok (instr n.0, n.1)
immediates (Float64 instr) p = do
  n ← bits64 p
  Ok (instr n.0, n.1)
immediates Bulk p = do
  n ← u32 p
  bulk n.0 p.at n.1

-- an instruction of this kind, whose opcode stands at p, with q behind it
abbrev pub instruction : Option Kind → Place → Place → Reading Instr
instruction None p q = Err (Malformed p.at)
instruction (Some kind) p q = immediates kind q

-- The blocks that are open, the instructions so far of the innermost and what is left; or all instructions of an expression,
-- and what is left.
pub data Next : Type 0 where
  More : List Frame → List Instr → Place → Next
  Whole : List Instr → Place → Next

-- the instruction of a block that ends
abbrev pub close : Opened → List Instr → Instr
close (opened.Block bt) body = V.Block bt (record { items = body })
close (opened.Loop bt) body = V.Loop bt (record { items = body })
close (opened.If bt) body = V.If bt (record { items = body }) (record { items = [] })
close (opened.Else bt first) body = V.If bt first (record { items = body })

-- the opcode 0B ends the innermost block, or the expression
abbrev pub end : List Frame → List Instr → Place → Next
end [] items q = Whole items q
end (f ∷ fs) items q = More fs (f.items ++ close f.opened items ∷ []) q

-- a block that has just been opened, with nothing in it yet
abbrev pub entered : Opened → List Frame → List Instr → Place → Next
entered opens fs items q = More (record { opened = opens; items = items } ∷ fs) [] q

-- The opcode 05 is allowed only where the innermost open block is an if that had none yet. It stands at p, and q is behind it.
abbrev pub otherwise_at : Opened → List Frame → List Instr → List Instr → Place → Place → Result Next DecodeError
otherwise_at (opened.If bt) fs outer items p q = Ok (entered (opened.Else bt (record { items = items })) fs outer q)
otherwise_at (opened.Block bt) fs outer items p q = Err (Malformed p.at)
otherwise_at (opened.Loop bt) fs outer items p q = Err (Malformed p.at)
otherwise_at (opened.Else bt first) fs outer items p q = Err (Malformed p.at)

abbrev pub otherwise : List Frame → List Instr → Place → Place → Result Next DecodeError
otherwise [] items p q = Err (Malformed p.at)
otherwise (f ∷ fs) items p q = otherwise_at f.opened fs f.items items p q

-- at most 512 blocks are open inside one another
abbrev pub room : List Frame → Place → Result (Unit {0}) DecodeError
room fs p = if nat_lt (length fs) 512 then Ok tt else Err (TooDeep p.at)

-- the opcode at p opens a block, whose type stands at q
abbrev pub enter : (Option ValType → Opened) → List Frame → List Instr → Place → Place → Result Next DecodeError
enter opens fs items p q = do
  t ← room fs p
  bt ← block_type q
  Ok (entered (opens bt.0) fs items bt.1)

-- an instruction that holds no instructions
abbrev pub plain : Option Kind → List Frame → List Instr → Place → Place → Result Next DecodeError
plain kind fs items p q = do
  i ← instruction kind p q
  Ok (More fs (items ++ i.0 ∷ []) i.1)

-- what the opcode at p does, with q behind it (5.4)
abbrev pub act : ℕ → List Frame → List Instr → Place → Place → Result Next DecodeError
act op fs items p q =
    if nat_eq op 0x02 then enter opened.Block fs items p q else
    if nat_eq op 0x03 then enter opened.Loop fs items p q else
    if nat_eq op 0x04 then enter opened.If fs items p q else
    if nat_eq op 0x05 then otherwise fs items p q else
    if nat_eq op 0x0b then Ok (end fs items q) else plain (kind_of op) fs items p q

-- one opcode, with its immediates
unfoldable pub step : List Frame → List Instr → Place → Result Next DecodeError
step fs items p = do
  op ← byte p
  act op.0 fs items p op.1

abbrev pub go_on : (List Frame → List Instr → Place → Reading (List Instr)) → Next → Reading (List Instr)
go_on go (More fs items p) = go fs items p
go_on go (Whole items p) = Ok (items, p)

-- at most n opcodes
unfoldable pub steps : ℕ → List Frame → List Instr → Place → Reading (List Instr)
steps zero fs items p = Err (Malformed p.at)
steps (suc n) fs items p = step fs items p >>= go_on (steps n)

-- The rest of an expression. Each opcode takes a byte, so that there are no more of them than bytes.
abbrev pub go : List Frame → List Instr → Place → Reading (List Instr)
go fs items p = steps (suc (length p.rest)) fs items p

-- the expression that begins here (5.4.6)
abbrev pub expr : Place → Reading (List Instr)
expr p = go [] [] p

-- the expression that begins here, and the offset behind it
abbrev pub expr_to : Place → Result (Seq × ℕ) DecodeError
expr_to p = do
  code ← expr p
  Ok (record { items = code.0 }, code.1.at)

-- a body declares at most 1,024 locals, of which so many are left
abbrev pub within : (f : ℕ) → ℕ → ℕ → Result (Unit {0}) DecodeError
within f count left = if nat_le count left then Ok tt else Err (TooManyLocals f)

-- so many groups of locals of one type, of which the body numbered f may still declare so many (5.5.13)
unfoldable pub locals : (f : ℕ) → ℕ → ℕ → Place → Reading (List ValType)
locals f zero left p = Ok ([], p)
locals f (suc n) left p = do
  count ← u32 p
  t ← within f count.0 left
  one ← val_type count.1
  others ← locals f n (left - count.0) one.1
  Ok (replicate count.0 one.0 ++ others.0, others.1)

-- the contents of the body numbered f: at most 1,024 locals, and its code
unfoldable pub body : ℕ → Place → Reading Body
body f p = do
  groups ← u32 p
  declared ← locals f groups.0 1024 groups.1
  code ← expr declared.1
  Ok (record { locals = declared.0; code = record { items = code.0 } }, code.1)

-- the body numbered f, which fills what is left of a range
abbrev pub whole_body : ℕ → Place → Result Body DecodeError
whole_body f p = filling (body f) p
