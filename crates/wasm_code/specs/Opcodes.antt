-- The opcodes of the instructions that hold no instructions (WebAssembly Core 1.0, 5.4, with the additions of Core 2.0).
use Rattle.std.specs.Prelude.{ℕ, Bool, ◌||◌, nat_le, nat_eq, if◌then◌else◌, List, Option, Some, None}
use Rattle.wasm_ast.specs.Operators.{between}
use Rattle.wasm_ast.specs.declared.trees.Instr.{Instr}
use Rattle.wasm_ast.specs.declared.trees.Instr.TheVariants as V

-- What follows the opcode, and the instruction that it makes.
pub data Kind : Type 0 where
  Bare : Instr → Kind  -- nothing
  Zero : Instr → Kind  -- the byte 00
  Index : (ℕ → Instr) → Kind  -- an index
  IndexZero : (ℕ → Instr) → Kind  -- an index and the byte 00
  Labels : (List ℕ → ℕ → Instr) → Kind  -- a vector of labels, and a label
  Memory : (ℕ → ℕ → Instr) → Kind  -- an alignment exponent and an offset
  Signed32 : (ℕ → Instr) → Kind  -- a signed integer of 32 bits
  Signed64 : (ℕ → Instr) → Kind  -- a signed integer of 64 bits
  Float32 : (ℕ → Instr) → Kind  -- 4 raw bytes
  Float64 : (ℕ → Instr) → Kind  -- 8 raw bytes
  Bulk : Kind  -- an integer that says which instruction, and its bytes 00

-- control (5.4.1), parametric (5.4.2) and variable instructions (5.4.3)
abbrev pub control : ℕ → Option Kind
control op =
    if nat_eq op 0x00 then Some (Bare V.Unreachable) else
    if nat_eq op 0x01 then Some (Bare V.Nop) else
    if nat_eq op 0x0c then Some (Index V.Br) else
    if nat_eq op 0x0d then Some (Index V.BrIf) else
    if nat_eq op 0x0e then Some (Labels V.BrTable) else
    if nat_eq op 0x0f then Some (Bare V.Return) else
    if nat_eq op 0x10 then Some (Index V.Call) else
    if nat_eq op 0x11 then Some (IndexZero V.CallIndirect) else
    if nat_eq op 0x1a then Some (Bare V.Drop) else
    if nat_eq op 0x1b then Some (Bare V.Select) else
    if nat_eq op 0x20 then Some (Index V.LocalGet) else
    if nat_eq op 0x21 then Some (Index V.LocalSet) else
    if nat_eq op 0x22 then Some (Index V.LocalTee) else
    if nat_eq op 0x23 then Some (Index V.GlobalGet) else
    if nat_eq op 0x24 then Some (Index V.GlobalSet) else None

-- memory instructions (5.4.4): loads and stores of integers, then of floats
abbrev pub is_load : ℕ → Bool
is_load op = between 0x28 0x29 op || between 0x2c 0x35 op

abbrev pub is_store : ℕ → Bool
is_store op = between 0x36 0x37 op || between 0x3a 0x3e op

abbrev pub is_float_memory : ℕ → Bool
is_float_memory op = between 0x2a 0x2b op || between 0x38 0x39 op

abbrev pub memory : ℕ → Option Kind
memory op =
    if is_load op then Some (Memory (V.Load op)) else
    if is_store op then Some (Memory (V.Store op)) else
    if is_float_memory op then Some (Memory (V.FloatMemory op)) else
    if nat_eq op 0x3f then Some (Zero V.MemorySize) else
    if nat_eq op 0x40 then Some (Zero V.MemoryGrow) else None

-- numeric instructions (5.4.5): those on integers alone, sign extension among them, then those that take or give a float
abbrev pub is_num : ℕ → Bool
is_num op = between 0x45 0x5a op || between 0x67 0x8a op || nat_eq op 0xa7 || between 0xac 0xad op || between 0xc0 0xc4 op

abbrev pub is_float_op : ℕ → Bool
is_float_op op = between 0x5b 0x66 op || between 0x8b 0xa6 op || between 0xa8 0xab op || between 0xae 0xbf op

abbrev pub numeric : ℕ → Option Kind
numeric op =
    if nat_eq op 0x41 then Some (Signed32 V.I32Const) else
    if nat_eq op 0x42 then Some (Signed64 V.I64Const) else
    if nat_eq op 0x43 then Some (Float32 V.F32Const) else
    if nat_eq op 0x44 then Some (Float64 V.F64Const) else
    if is_num op then Some (Bare (V.Num op)) else
    if is_float_op op then Some (Bare (V.FloatOp op)) else None

-- what an opcode stands for; None for an opcode of a block, and for a byte that is no opcode
abbrev pub kind_of : ℕ → Option Kind
kind_of op =
    if nat_le op 0x24 then control op else if nat_le op 0x40 then memory op else if nat_eq op 0xfc then Some Bulk else numeric op
