-- Reading the members of sections from the left (WebAssembly Core 1.0, 5.3 and 5.5).
use Rattle.std.specs.Prelude.{ℕ, zero, suc, ◌+◌, Bool, true, false, nat_eq, if◌then◌else◌, List, [], ◌∷◌, Option, Some, None, Ok, Err}
use Rattle.wasm_ast.specs.declared.val_types.ValType.{ValType}
use Rattle.wasm_ast.specs.declared.func_types.FuncType.{FuncType}
use Rattle.wasm_ast.specs.declared.tables.Table.{Table}
use Rattle.wasm_ast.specs.declared.memory_types.MemoryType.{MemoryType}
use Rattle.wasm_ast.specs.declared.imports.Import.{Import}
use Rattle.wasm_ast.specs.declared.imports.ImportKind.{ImportKind}
use Rattle.wasm_ast.specs.declared.imports.ImportKind.TheVariants as kind
use Rattle.wasm_ast.specs.declared.exports.Export.{Export}
use Rattle.wasm_ast.specs.declared.exports.ExportKind.{ExportKind}
use Rattle.wasm_ast.specs.declared.exports.ExportKind.TheVariants as export_kind
use Rattle.wasm_ast.specs.declared.global_vars.GlobalVar.{GlobalVar}
use Rattle.wasm_ast.specs.declared.elements.Element.{Element}
use Rattle.wasm_ast.specs.declared.pieces.Piece.{Piece}
use Rattle.wasm_ast.specs.declared.bodies.Body.{Body}
use Rattle.wasm_code.specs.declared.error.DecodeError.TheVariants.{Malformed}
use Rattle.wasm_code.specs.Places.{Place, Reading, ◌>>=◌, byte, check}
use Rattle.wasm_code.specs.Fields.{tag, one_of, u32, val_type, times, vector, sized, bytes, name}
use Rattle.wasm_code.specs.Reading.{expr, body}

-- a function type (5.3.3)
unfoldable pub func_type : Place → Reading FuncType
func_type p = do
  q ← tag 0x60 p
  params ← vector val_type q
  results ← vector val_type params.1
  Ok (record { params = params.0; results = results.0 }, results.1)

-- the bytes 00 and 01
abbrev pub flag_of : ℕ → Option Bool
flag_of b = if nat_eq b 0x00 then Some false else if nat_eq b 0x01 then Some true else None

abbrev pub maximum : Bool → Place → Reading (Option ℕ)
maximum false p = Ok (None, p)
maximum true p = do
  n ← u32 p
  Ok (Some n.0, n.1)

-- limits: a minimum, and a maximum behind a flag of 01 (5.3.4)
unfoldable pub limits : Place → Reading (ℕ × Option ℕ)
limits p = do
  flag ← one_of flag_of p
  least ← u32 flag.1
  most ← maximum flag.0 least.1
  Ok ((least.0, most.0), most.1)

-- a memory type (5.3.5)
unfoldable pub memory_type : Place → Reading MemoryType
memory_type p = do
  l ← limits p
  Ok (record { minimum = l.0.0; maximum = l.0.1 }, l.1)

-- a table type (5.3.6)
unfoldable pub table : Place → Reading Table
table p = do
  q ← tag 0x70 p
  l ← limits q
  Ok (record { minimum = l.0.0; maximum = l.0.1 }, l.1)

-- a global type: its value type, and whether it can be set (5.3.7)
unfoldable pub global_type : Place → Reading (ValType × Bool)
global_type p = do
  t ← val_type p
  mutable ← one_of flag_of t.1
  Ok ((t.0, mutable.0), mutable.1)

-- what is imported, by the byte that stood at the offset
abbrev pub import_kind_at : ℕ → ℕ → Place → Reading ImportKind
import_kind_at b at p =
    if nat_eq b 0x00 then (u32 p >>= λ n. Ok (kind.Function n.0, n.1)) else
    if nat_eq b 0x01 then (table p >>= λ t. Ok (kind.Table t.0, t.1)) else
    if nat_eq b 0x02 then (memory_type p >>= λ m. Ok (kind.Memory m.0, m.1)) else
    if nat_eq b 0x03 then (global_type p >>= λ g. Ok (kind.Global g.0.0 g.0.1, g.1)) else Err (Malformed at)

unfoldable pub import_kind : Place → Reading ImportKind
import_kind p = do
  b ← byte p
  import_kind_at b.0 p.at b.1

-- an import (5.5.5)
unfoldable pub import : Place → Reading Import
import p = do
  from ← name p
  text ← name from.1
  it ← import_kind text.1
  Ok (record { «module» = from.0; name = text.0; kind = it.0 }, it.1)

-- a global: its type, and the expression of its first value (5.5.9)
unfoldable pub global : Place → Reading GlobalVar
global p = do
  t ← global_type p
  initial ← expr t.1
  Ok (record { val_type = t.0.0; mutable = t.0.1; initial = record { items = initial.0 } }, initial.1)

abbrev pub export_kind_of : ℕ → Option ExportKind
export_kind_of b =
    if nat_eq b 0x00 then Some export_kind.Function else if nat_eq b 0x01 then Some export_kind.Table else
    if nat_eq b 0x02 then Some export_kind.Memory else if nat_eq b 0x03 then Some export_kind.Global else None

-- an export (5.5.10)
unfoldable pub export : Place → Reading Export
export p = do
  text ← name p
  kind ← one_of export_kind_of text.1
  index ← u32 kind.1
  Ok (record { name = text.0; kind = kind.0; index = index.0 }, index.1)

-- one integer: the start function (5.5.11), or the count of the data segments (Core 2.0, 5.5.15)
unfoldable pub number : Place → Reading (Option ℕ)
number p = do
  n ← u32 p
  Ok (Some n.0, n.1)

-- an element segment (5.5.12)
unfoldable pub element : Place → Reading Element
element p = do
  index ← u32 p
  offset ← expr index.1
  members ← vector u32 offset.1
  Ok (record { index = index.0; offset = record { items = offset.0 }; members = members.0 }, members.1)

-- a data segment (5.5.14)
unfoldable pub piece : Place → Reading Piece
piece p = do
  index ← u32 p
  offset ← expr index.1
  content ← bytes offset.1
  Ok (record { index = index.0; offset = record { items = offset.0 }; bytes = content.0 }, content.1)

-- as many as were counted before, if they were
abbrev pub is_counted : Option ℕ → ℕ → Bool
is_counted None n = true
is_counted (Some counted) n = nat_eq n counted

-- the data segments, whose count is the one that was told before, if it was (5.5.14; Core 2.0, 5.5.15)
unfoldable pub pieces : Option ℕ → Place → Reading (List Piece)
pieces counted p = do
  n ← u32 p
  t ← check (is_counted counted n.0) p.at
  times piece n.0 n.1

-- so many bodies, each behind its size, the first of them with the number f (5.5.13)
unfoldable pub bodies : (f : ℕ) → ℕ → Place → Reading (List Body)
bodies f zero p = Ok ([], p)
bodies f (suc n) p = do
  first ← sized (body f) p
  others ← bodies (f + 1) n first.1
  Ok (first.0 ∷ others.0, others.1)

-- the bodies of so many functions: their count is that of the functions
unfoldable pub code : ℕ → Place → Reading (List Body)
code functions p = do
  n ← u32 p
  t ← check (nat_eq n.0 functions) p.at
  bodies 0 functions n.1
