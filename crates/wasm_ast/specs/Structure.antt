-- What a module must keep besides the typing of its bodies (3.2, 3.4), within the profile.
use Rattle.std.specs.Prelude.{ℕ, ◌^◌, List, [], ◌∷◌, length, Bool, true, false, ◌&&◌}
use Rattle.std.specs.Prelude.{not, nat_eq, nat_lt, nat_le, if◌then◌else◌, bytes_eq, Option, Some, None}
use Rattle.std.specs.List.{list_any, list_all}
use lib.Chars.{codes}
use Rattle.wasm_ast.specs.declared.val_types.ValType.{ValType}
use Rattle.wasm_ast.specs.declared.val_types.ValType.TheVariants.{I32, I64}
use Rattle.wasm_ast.specs.declared.trees.Instr.{Instr}
use Rattle.wasm_ast.specs.declared.trees.Instr.TheOpen.{Instr-F}
use Rattle.wasm_ast.specs.declared.func_types.FuncType.{FuncType}
use Rattle.wasm_ast.specs.declared.tables.Table.{Table}
use Rattle.wasm_ast.specs.declared.memory_types.MemoryType.{MemoryType}
use Rattle.wasm_ast.specs.declared.global_vars.GlobalVar.{GlobalVar}
use Rattle.wasm_ast.specs.declared.exports.Export.{Export}
use Rattle.wasm_ast.specs.declared.exports.ExportKind.{ExportKind}
use Rattle.wasm_ast.specs.declared.exports.ExportKind.TheVariants as kind
use Rattle.wasm_ast.specs.declared.elements.Element.{Element}
use Rattle.wasm_ast.specs.declared.pieces.Piece.{Piece}
use Rattle.wasm_ast.specs.declared.modules.Module.{Module}
use Rattle.wasm_ast.specs.Trees.{Layer, layer}
use Rattle.wasm_ast.specs.Spaces.{type_of, function_count}
use Rattle.wasm_ast.specs.Hosts.{same_val_type, same_type}

-- a constant within the range of its type
abbrev pub constant_at : Layer → Option (ValType × ℕ)
constant_at (Instr-F.I32Const n) = if nat_lt n (2 ^ 32) then Some (I32, n) else None
constant_at (Instr-F.I64Const n) = if nat_lt n (2 ^ 64) then Some (I64, n) else None
constant_at _ = None

-- the type and the value of an expression that is one constant (3.3.7)
abbrev pub constant : List Instr → Option (ValType × ℕ)
constant [] = None
constant (i ∷ []) = constant_at (layer i)
constant (i ∷ j ∷ code) = None

-- a constant of this type
abbrev pub is_constant_of : ValType → Option (ValType × ℕ) → Bool
is_constant_of t None = false
is_constant_of t (Some c) = same_val_type c.0 t

-- the value of a constant
abbrev pub value_of : Option (ValType × ℕ) → ℕ
value_of None = 0
value_of (Some c) = c.1

-- the value of an expression that is one constant (4.4.8); 0 where it is none
abbrev pub constant_value : List Instr → ℕ
constant_value code = value_of (constant code)

-- n is at most the greatest, if there is one
abbrev pub is_at_most : ℕ → Option ℕ → Bool
is_at_most n None = true
is_at_most n (Some most) = nat_le n most

-- a function of type [] to []
abbrev pub is_entry_type : Option FuncType → Bool
is_entry_type None = false
is_entry_type (Some t) = same_type t (record { params = []; results = [] })

-- the minimum of a table is at most its maximum and at most 65,536
abbrev pub is_table : Table → Bool
is_table t = is_at_most t.minimum t.maximum && nat_le t.minimum 65536

-- a maximum is at most 65,536
abbrev pub has_most_pages : Option ℕ → Bool
has_most_pages None = true
has_most_pages (Some most) = nat_le most 65536

-- the minimum of a memory is at most its maximum, and neither exceeds 65,536
abbrev pub is_memory : MemoryType → Bool
is_memory t = is_at_most t.minimum t.maximum && (nat_le t.minimum 65536 && has_most_pages t.maximum)

-- the expression is one constant of the type
abbrev pub is_global : GlobalVar → Bool
is_global g = is_constant_of g.val_type (constant g.initial.items)

-- how many members an index of this kind chooses from
abbrev pub space : Module → ExportKind → ℕ
space m kind.Function = function_count m
space m kind.Table = length m.tables
space m kind.Memory = length m.memories
space m kind.Global = length m.globals

-- no two exports have one name
abbrev pub names_differ : List Export → Bool
names_differ [] = true
names_differ (e ∷ es) = not (list_any (λ (other : Export). bytes_eq e.name other.name) es) && names_differ es

-- the start function, if there is one, is in range and of type [] to []
abbrev pub is_start : Module → Option ℕ → Bool
is_start m None = true
is_start m (Some x) = is_entry_type (type_of m x)

-- table 0, which is there, an i32.const, and functions in range
abbrev pub is_element : Module → Element → Bool
is_element m e =
    nat_eq e.index 0 && (nat_lt 0 (length m.tables)
    && (is_constant_of I32 (constant e.offset.items) && list_all (λ x. nat_lt x (function_count m)) e.members))

-- memory 0, which is there, and an i32.const
abbrev pub is_piece : Module → Piece → Bool
is_piece m p = nat_eq p.index 0 && (nat_lt 0 (length m.memories) && is_constant_of I32 (constant p.offset.items))

-- the ten rules, in order
abbrev pub rules : Module → List Bool
rules m =
    list_all (λ (t : FuncType). nat_le (length t.results) 1) m.types
    ∷ list_all (λ k. nat_lt k (length m.types)) m.functions
    ∷ (nat_le (length m.tables) 1 && list_all is_table m.tables)
    ∷ (nat_le (length m.memories) 1 && list_all is_memory m.memories)
    ∷ list_all is_global m.globals
    ∷ list_all (λ (e : Export). nat_lt e.index (space m e.kind)) m.exports
    ∷ names_differ m.exports
    ∷ is_start m m.start
    ∷ list_all (is_element m) m.elements
    ∷ list_all (is_piece m) m.pieces
    ∷ []

-- the kind of functions
abbrev pub is_function : ExportKind → Bool
is_function kind.Function = true
is_function kind.Table = false
is_function kind.Memory = false
is_function kind.Global = false

-- a function of type [] to [] under the name `handle`
abbrev pub is_handle : Module → Export → Bool
is_handle m e = is_function e.kind && (bytes_eq e.name (codes "handle") && is_entry_type (type_of m e.index))
