-- Reading the fields of the binary format (WebAssembly Core 1.0, chapter 5), each as one.
use Rattle.std.specs.Prelude.{ℕ, zero, suc, nat_le, nat_eq, if◌then◌else◌, List, [], ◌∷◌, length, take, Option, Some, None, Result, Ok, Err}
use Rattle.std.specs.Int.{w32, w64, from_le_bytes}
use Rattle.std.specs.Str.{is_utf8}
use Rattle.wasm_leb.specs.declared.error.LebError.{LebError}
use Rattle.wasm_leb.specs.Leb as leb
use Rattle.wasm_ast.specs.declared.val_types.ValType.{ValType}
use Rattle.wasm_ast.specs.declared.val_types.ValType.TheVariants.{I32, I64, F32, F64}
use Rattle.wasm_code.specs.declared.error.DecodeError.{DecodeError}
use Rattle.wasm_code.specs.declared.error.DecodeError.TheVariants.{Malformed}
use Rattle.wasm_code.specs.Places.{Place, Reading, ◌>>=◌, past, byte, check, ended}

abbrev pub number_of : Place → Result (ℕ × ℕ) LebError → Reading ℕ
number_of p (Ok n) = Ok (n.0, past n.1 p)
number_of p (Err e) = Err (Malformed p.at)

-- integers (5.2.2), the signed ones modulo 2^32 and 2^64
unfoldable pub u32 : Place → Reading ℕ
u32 p = number_of p (leb.u32 p.rest)

unfoldable pub s32 : Place → Reading ℕ
s32 p = number_of p (leb.s32 p.rest)

unfoldable pub s64 : Place → Reading ℕ
s64 p = number_of p (leb.s64 p.rest)

-- so many raw bytes
unfoldable pub raw : ℕ → Place → Reading (List ℕ)
raw k p = do
  t ← check (nat_le k (length p.rest)) p.at
  Ok (take k p.rest, past k p)

-- the bits of a float, the lowest byte first (5.2.3)
abbrev pub bits32 : Place → Reading ℕ
bits32 p = do
  bytes ← raw 4 p
  Ok (from_le_bytes w32 bytes.0, bytes.1)

abbrev pub bits64 : Place → Reading ℕ
bits64 p = do
  bytes ← raw 8 p
  Ok (from_le_bytes w64 bytes.0, bytes.1)

-- this byte and no other
abbrev pub tag : ℕ → Place → Result Place DecodeError
tag b p = do
  first ← byte p
  t ← check (nat_eq first.0 b) p.at
  Ok first.1

abbrev pub one_of_at : {X : Type 0} → Option X → ℕ → Place → Reading X
one_of_at (Some x) at q = Ok (x, q)
one_of_at None at q = Err (Malformed at)

-- a byte that means something
abbrev pub one_of : {X : Type 0} → (ℕ → Option X) → Place → Reading X
one_of meaning p = do
  first ← byte p
  one_of_at (meaning first.0) p.at first.1

-- value types (5.3.1)
abbrev pub val_type_of : ℕ → Option ValType
val_type_of b =
    if nat_eq b 0x7f then Some I32 else if nat_eq b 0x7e then Some I64 else
    if nat_eq b 0x7d then Some F32 else if nat_eq b 0x7c then Some F64 else None

unfoldable pub val_type : Place → Reading ValType
val_type p = one_of val_type_of p

-- so many, one behind the other
unfoldable pub times : {X : Type 0} → (Place → Reading X) → ℕ → Place → Reading (List X)
times read zero p = Ok ([], p)
times read (suc n) p = do
  first ← read p
  others ← times read n first.1
  Ok (first.0 ∷ others.0, others.1)

-- a vector: the count, and so many (5.1.3)
unfoldable pub vector : {X : Type 0} → (Place → Reading X) → Place → Reading (List X)
vector read p = do
  n ← u32 p
  times read n.0 n.1

-- a size, which is no more than what is left, the range of that size, and the place behind it
unfoldable pub range : Place → Reading Place
range p = do
  n ← u32 p
  t ← check (nat_le n.0 (length n.1.rest)) p.at
  Ok (record { rest = take n.0 n.1.rest; at = n.1.at }, past n.0 n.1)

-- a reading that fills all that is left of a range
abbrev pub filling : {X : Type 0} → (Place → Reading X) → Place → Result X DecodeError
filling read p = do
  x ← read p
  t ← ended x.1
  Ok x.0

-- a size, and what fills so many bytes
unfoldable pub sized : {X : Type 0} → (Place → Reading X) → Place → Reading X
sized read p = do
  r ← range p
  x ← filling read r.0
  Ok (x, r.1)

-- a vector of bytes
unfoldable pub bytes : Place → Reading (List ℕ)
bytes p = do
  r ← range p
  Ok (r.0.rest, r.1)

-- a name: bytes that are UTF-8, as one field (5.2.4)
unfoldable pub name : Place → Reading (List ℕ)
name p = do
  text ← bytes p
  t ← check (is_utf8 text.0) p.at
  Ok text
