-- Index spaces of a module (2.5.1). Functions of the host come first; they are the only imports.
use Rattle.std.specs.Prelude.{ℕ, ◌+◌, ◌-◌, min, nat_lt, if◌then◌else◌, List, length, map, Option, Some, None, slice_get, option_and_then}
use Rattle.wasm_ast.specs.declared.val_types.ValType.{ValType}
use Rattle.wasm_ast.specs.declared.func_types.FuncType.{FuncType}
use Rattle.wasm_ast.specs.declared.imports.Import.{Import}
use Rattle.wasm_ast.specs.declared.imports.ImportKind.{ImportKind}
use Rattle.wasm_ast.specs.declared.imports.ImportKind.TheVariants as kind
use Rattle.wasm_ast.specs.declared.tables.Table.{Table}
use Rattle.wasm_ast.specs.declared.memory_types.MemoryType.{MemoryType}
use Rattle.wasm_ast.specs.declared.global_vars.GlobalVar.{GlobalVar}
use Rattle.wasm_ast.specs.declared.bodies.Body.{Body}
use Rattle.wasm_ast.specs.declared.trees.Instr.{Instr}
use Rattle.wasm_ast.specs.declared.modules.Module.{Module}

-- a function that the module defines: its type, the types of the locals that it declares, and its code
pub record Function : Type 0 where
  pub signature : FuncType
  pub declared : List ValType
  pub code : List Instr

-- the type that an import names, where it is a function
abbrev pub imported_type : Module → ImportKind → Option FuncType
imported_type m (kind.Function k) = slice_get m.types k
imported_type m (kind.Table t) = None
imported_type m (kind.Memory t) = None
imported_type m (kind.Global t mutable) = None

-- the type of the function with this index, where it is an import
unfoldable pub import_of : Module → ℕ → Option FuncType
import_of m x = option_and_then (λ (i : Import). imported_type m i.kind) (slice_get m.imports x)

-- the type of the function with this number among those that the module defines
abbrev pub own_type : Module → ℕ → Option FuncType
own_type m k = option_and_then (slice_get m.types) (slice_get m.functions k)

-- a function of this type and with this body
abbrev pub function_of : FuncType → Body → Function
function_of signature body = record { signature = signature; declared = body.locals; code = body.code.items }

-- the same where both are there
abbrev pub joined : Option FuncType → Option Body → Option Function
joined None body = None
joined (Some signature) None = None
joined (Some signature) (Some body) = Some (function_of signature body)

-- the function with this number among those that the module defines
abbrev pub function_at : Module → ℕ → Option Function
function_at m k = joined (own_type m k) (slice_get m.bodies k)

-- the function with this index, where the module defines it
unfoldable pub own : Module → ℕ → Option Function
own m x = if nat_lt x (length m.imports) then None else function_at m (x - length m.imports)

-- the type of the function with this index
unfoldable pub type_of : Module → ℕ → Option FuncType
type_of m x = if nat_lt x (length m.imports) then import_of m x else own_type m (x - length m.imports)

-- how many functions there are, imports counted
abbrev pub function_count : Module → ℕ
function_count m = length m.imports + length m.functions

-- the one table and the one memory that a module may have
abbrev pub table_of : Module → Option Table
table_of m = slice_get m.tables 0

-- the one memory that a module may have
abbrev pub memory_of : Module → Option MemoryType
memory_of m = slice_get m.memories 0

-- how many entries a table of this type begins with
abbrev pub least_entries : Option Table → ℕ
least_entries None = 0
least_entries (Some t) = t.minimum

-- the number of entries that the table has
abbrev pub table_size : Module → ℕ
table_size m = least_entries (table_of m)

-- how many pages a memory of this type begins with
abbrev pub least_pages : Option MemoryType → ℕ
least_pages None = 0
least_pages (Some t) = t.minimum

-- the number of pages that the memory begins with
abbrev pub first_pages : Module → ℕ
first_pages m = least_pages (memory_of m)

-- the greatest number, 65,536 where none is given
abbrev pub upto : Option ℕ → ℕ
upto None = 65536
upto (Some n) = n

-- the most pages that a memory may have: its maximum, and never more than 65,536 (2.3.5, 4.2.8)
abbrev pub most_pages : MemoryType → ℕ
most_pages t = min 65536 (upto t.maximum)

-- the most pages that a memory of this type may have; none without a memory
abbrev pub greatest_pages : Option MemoryType → ℕ
greatest_pages None = 0
greatest_pages (Some t) = most_pages t

-- the most pages that the memory may have: 0 for a module without a memory
abbrev pub page_limit : Module → ℕ
page_limit m = greatest_pages (memory_of m)

-- the types of the globals
abbrev pub global_types : Module → List ValType
global_types m = map (λ (g : GlobalVar). g.val_type) m.globals
