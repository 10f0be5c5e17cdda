-- The bytes that spell the members of sections (WebAssembly Core 1.0, 5.3 and 5.5).
use Rattle.std.specs.Prelude.{ℕ, ◌≡◌, Bool, true, false, List, [], ◌∷◌, Option, Some, None}
use Rattle.wasm_ast.specs.declared.val_types.ValType.{ValType}
use Rattle.wasm_ast.specs.declared.func_types.FuncType.{FuncType}
use Rattle.wasm_ast.specs.declared.tables.Table.{Table}
use Rattle.wasm_ast.specs.declared.memory_types.MemoryType.{MemoryType}
use Rattle.wasm_ast.specs.declared.imports.Import.{Import}
use Rattle.wasm_ast.specs.declared.imports.ImportKind.{ImportKind}
use Rattle.wasm_ast.specs.declared.imports.ImportKind.TheVariants as import_kind
use Rattle.wasm_ast.specs.declared.exports.Export.{Export}
use Rattle.wasm_ast.specs.declared.exports.ExportKind.{ExportKind}
use Rattle.wasm_ast.specs.declared.exports.ExportKind.TheVariants as export_kind
use Rattle.wasm_ast.specs.declared.global_vars.GlobalVar.{GlobalVar}
use Rattle.wasm_ast.specs.declared.elements.Element.{Element}
use Rattle.wasm_ast.specs.declared.pieces.Piece.{Piece}
use Rattle.wasm_code.specs.Spelling.{Then, Byte, U32, Vector, Bytes, Name, Val}
use Rattle.wasm_code.specs.Grammar.{Expr}

-- a function type (5.3.3)
abbrev pub FuncTypes : FuncType → List ℕ → List ℕ → Type 0
FuncTypes f bytes rest = Then (Byte 0x60) (Then (Vector Val f.params) (Vector Val f.results)) bytes rest

-- limits (5.3.4)
abbrev pub Limits : ℕ → Option ℕ → List ℕ → List ℕ → Type 0
Limits minimum None bytes rest = Then (Byte 0x00) (U32 minimum) bytes rest
Limits minimum (Some maximum) bytes rest = Then (Byte 0x01) (Then (U32 minimum) (U32 maximum)) bytes rest

-- a memory type (5.3.5)
abbrev pub MemoryTypes : MemoryType → List ℕ → List ℕ → Type 0
MemoryTypes m bytes rest = Limits m.minimum m.maximum bytes rest

-- a table type (5.3.6)
abbrev pub Tables : Table → List ℕ → List ℕ → Type 0
Tables t bytes rest = Then (Byte 0x70) (Limits t.minimum t.maximum) bytes rest

-- a global type (5.3.7): 01 for one that can be set
abbrev pub flag_byte : Bool → ℕ
flag_byte false = 0x00
flag_byte true = 0x01

abbrev pub GlobalTypes : ValType → Bool → List ℕ → List ℕ → Type 0
GlobalTypes t mutable bytes rest = Then (Val t) (Byte (flag_byte mutable)) bytes rest

-- imports (5.5.5)
abbrev pub ImportKinds : ImportKind → List ℕ → List ℕ → Type 0
ImportKinds (import_kind.Function index) bytes rest = Then (Byte 0x00) (U32 index) bytes rest
ImportKinds (import_kind.Table t) bytes rest = Then (Byte 0x01) (Tables t) bytes rest
ImportKinds (import_kind.Memory m) bytes rest = Then (Byte 0x02) (MemoryTypes m) bytes rest
ImportKinds (import_kind.Global t mutable) bytes rest = Then (Byte 0x03) (GlobalTypes t mutable) bytes rest

abbrev pub Imports : Import → List ℕ → List ℕ → Type 0
Imports i bytes rest = Then (Name i.module) (Then (Name i.name) (ImportKinds i.kind)) bytes rest

-- globals (5.5.9)
abbrev pub Globals : GlobalVar → List ℕ → List ℕ → Type 0
Globals g bytes rest = Then (GlobalTypes g.val_type g.mutable) (Expr g.initial.items) bytes rest

-- exports (5.5.10)
abbrev pub export_byte : ExportKind → ℕ
export_byte export_kind.Function = 0x00
export_byte export_kind.Table = 0x01
export_byte export_kind.Memory = 0x02
export_byte export_kind.Global = 0x03

abbrev pub Exports : Export → List ℕ → List ℕ → Type 0
Exports e bytes rest = Then (Name e.name) (Then (Byte (export_byte e.kind)) (U32 e.index)) bytes rest

-- one integer: the start function (5.5.11), or the count of the data segments (Core 2.0, 5.5.15)
abbrev pub Number : Option ℕ → List ℕ → List ℕ → Type 0
Number found bytes rest = (n : ℕ) × (found ≡ Some n) × U32 n bytes rest

-- element segments (5.5.12)
abbrev pub Elements : Element → List ℕ → List ℕ → Type 0
Elements e bytes rest = Then (U32 e.index) (Then (Expr e.offset.items) (Vector U32 e.members)) bytes rest

-- data segments (5.5.14)
abbrev pub Pieces : Piece → List ℕ → List ℕ → Type 0
Pieces p bytes rest = Then (U32 p.index) (Then (Expr p.offset.items) (Bytes p.bytes)) bytes rest

-- the magic and the version (5.5.15)
abbrev pub magic : List ℕ
magic = 0x00 ∷ 0x61 ∷ 0x73 ∷ 0x6d ∷ []

abbrev pub version : List ℕ
version = 0x01 ∷ 0x00 ∷ 0x00 ∷ 0x00 ∷ []
