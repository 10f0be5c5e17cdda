-- Small modules that worked examples and tests of several crates speak of, as trees.
use Rattle.std.specs.Prelude.{ℕ, true, List, [], ◌∷◌, length, Some, None}
use lib.Chars.{codes}
use Rattle.wasm_ast.specs.declared.val_types.ValType.TheVariants.{I32}
use Rattle.wasm_ast.specs.declared.func_types.FuncType.{FuncType}
use Rattle.wasm_ast.specs.declared.trees.Seq.{Seq}
use Rattle.wasm_ast.specs.declared.trees.Instr.{Instr}
use Rattle.wasm_ast.specs.declared.trees.Instr.TheVariants as V
use Rattle.wasm_ast.specs.declared.memory_types.MemoryType.{MemoryType}
use Rattle.wasm_ast.specs.declared.imports.Import.{Import}
use Rattle.wasm_ast.specs.declared.imports.ImportKind.TheVariants as import
use Rattle.wasm_ast.specs.declared.exports.Export.{Export}
use Rattle.wasm_ast.specs.declared.exports.ExportKind.TheVariants as export
use Rattle.wasm_ast.specs.declared.pieces.Piece.{Piece}
use Rattle.wasm_ast.specs.declared.bodies.Body.{Body}
use Rattle.wasm_ast.specs.declared.modules.Module.{Module}

-- a sequence of these instructions
abbrev pub sequence : List Instr → Seq
sequence code = record { items = code }

-- a body without locals
abbrev pub body : List Instr → Body
body code = record { locals = []; code = sequence code }

-- a host call by its name, with the number of its type
abbrev pub host_import : List ℕ → ℕ → Import
host_import name k = record { «module» = codes "trapeze"; name = name; kind = import.Function k }

-- the function with this index as `handle`
abbrev pub handle_export : ℕ → Export
handle_export x = record { name = codes "handle"; kind = export.Function; index = x }

-- bytes from address 0 on
abbrev pub piece_at_0 : List ℕ → Piece
piece_at_0 bytes = record { index = 0; offset = sequence (V.I32Const 0 ∷ []); bytes = bytes }

-- nothing to nothing
abbrev pub entry_type : FuncType
entry_type = record { params = []; results = [] }

-- two numbers to one
abbrev pub two_to_one : FuncType
two_to_one = record { params = I32 ∷ I32 ∷ []; results = I32 ∷ [] }

-- two numbers to none
abbrev pub two_to_none : FuncType
two_to_none = record { params = I32 ∷ I32 ∷ []; results = [] }

-- four numbers to one
abbrev pub four_to_one : FuncType
four_to_one = record { params = I32 ∷ I32 ∷ I32 ∷ I32 ∷ []; results = I32 ∷ [] }

-- four numbers to none
abbrev pub four_to_none : FuncType
four_to_none = record { params = I32 ∷ I32 ∷ I32 ∷ I32 ∷ []; results = [] }

-- a memory of one page or more
abbrev pub one_page : MemoryType
one_page = record { minimum = 1; maximum = None }

-- a module of these imports and of one function of the type with this number, which is `handle`; it has a memory of one page
abbrev pub module_with : List FuncType → List Import → ℕ → List Piece → Body → Module
module_with types imports k pieces b = record {
  types = types;
  imports = imports;
  functions = k ∷ [];
  tables = [];
  memories = one_page ∷ [];
  globals = [];
  exports = handle_export (length imports) ∷ [];
  start = None;
  elements = [];
  pieces = pieces;
  bodies = b ∷ [];
}

-- a module of these imports whose `handle` does nothing
abbrev pub idle : List Import → Module
idle imports = module_with (two_to_one ∷ two_to_none ∷ entry_type ∷ []) imports 2 [] (body [])

-- it replies with its input: reply(0, input(0, 65536))
abbrev pub echo_code : List Instr
echo_code = V.I32Const 0 ∷ V.I32Const 0 ∷ V.I32Const 65536 ∷ V.Call 0 ∷ V.Call 1 ∷ []

-- the module of this code
abbrev pub echo : Module
echo = module_with (two_to_one ∷ two_to_none ∷ entry_type ∷ []) (host_import (codes "input") 0 ∷ host_import (codes "reply") 1 ∷ [])
    2 [] (body echo_code)

-- the same with a table, 17 pages, a global that can be set and an exported memory
abbrev pub built : Module
built = record echo {
  tables = record { minimum = 1; maximum = Some 1 } ∷ [];
  memories = record { minimum = 17; maximum = None } ∷ [];
  globals = record { val_type = I32; mutable = true; initial = sequence (V.I32Const 1048576 ∷ []) } ∷ [];
  exports = record { name = codes "memory"; kind = export.Memory; index = 0 } ∷ handle_export 2 ∷ [];
}

-- it raises itself to `alice` and then replies with its input: raise(0, 5), reply(16, input(16, 1024))
abbrev pub lift_code : List Instr
lift_code =
    V.I32Const 0 ∷ V.I32Const 5 ∷ V.Call 1 ∷ V.I32Const 16 ∷ V.I32Const 16 ∷ V.I32Const 1024 ∷ V.Call 0 ∷ V.Call 2 ∷ []

-- the module of this code
abbrev pub lift : Module
lift = module_with (two_to_one ∷ two_to_none ∷ entry_type ∷ [])
    (host_import (codes "input") 0 ∷ host_import (codes "raise") 1 ∷ host_import (codes "reply") 1 ∷ [])
    2 (piece_at_0 (codes "alice") ∷ []) (body lift_code)

-- it replies with the value of the key `k`: reply(16, read(0, 1, 16, 1024))
abbrev pub look_code : List Instr
look_code =
    V.I32Const 16 ∷ V.I32Const 0 ∷ V.I32Const 1 ∷ V.I32Const 16 ∷ V.I32Const 1024 ∷ V.Call 0 ∷ V.Call 1 ∷ []

-- the module of this code
abbrev pub look : Module
look = module_with (four_to_one ∷ two_to_none ∷ entry_type ∷ []) (host_import (codes "read") 0 ∷ host_import (codes "reply") 1 ∷ [])
    2 (piece_at_0 (codes "k") ∷ []) (body look_code)

-- an endless loop
abbrev pub spin_code : List Instr
spin_code = V.Loop None (sequence (V.Br 0 ∷ [])) ∷ []

-- the module of this code, without a memory
abbrev pub spin : Module
spin = record (module_with (entry_type ∷ []) [] 0 [] (body spin_code)) { memories = [] }

-- it writes its input under the key `k`: write(0, 1, 16, input(16, 1024)), and drops the answer
abbrev pub store_code : List Instr
store_code =
    V.I32Const 0 ∷ V.I32Const 1 ∷ V.I32Const 16 ∷ V.I32Const 16 ∷ V.I32Const 1024 ∷ V.Call 0 ∷ V.Call 1 ∷ V.Drop ∷ []

-- the module of this code
abbrev pub store : Module
store = module_with (two_to_one ∷ four_to_one ∷ entry_type ∷ []) (host_import (codes "input") 0 ∷ host_import (codes "write") 1 ∷ [])
    2 (piece_at_0 (codes "k") ∷ []) (body store_code)

-- it sends its input twice into the channel `mail`
abbrev pub twin_code : List Instr
twin_code =
    V.I32Const 16 ∷ V.I32Const 1024 ∷ V.Call 0 ∷ V.LocalSet 0
    ∷ V.I32Const 0 ∷ V.I32Const 4 ∷ V.I32Const 16 ∷ V.LocalGet 0 ∷ V.Call 1
    ∷ V.I32Const 0 ∷ V.I32Const 4 ∷ V.I32Const 16 ∷ V.LocalGet 0 ∷ V.Call 1 ∷ []

-- the module of this code, with one local
abbrev pub twin : Module
twin = module_with (two_to_one ∷ four_to_none ∷ entry_type ∷ []) (host_import (codes "input") 0 ∷ host_import (codes "send") 1 ∷ [])
    2 (piece_at_0 (codes "mail") ∷ []) (record { locals = I32 ∷ []; code = sequence twin_code })

-- the endless loop's module with a float in place of the loop
abbrev pub float : Module
float = record spin { bodies = body (V.F32Const 0 ∷ V.Drop ∷ []) ∷ [] }

-- it fills and copies memory, stores a sign extension, and replies with eight bytes
abbrev pub fill_code : List Instr
fill_code =
    V.I32Const 0 ∷ V.I32Const 7 ∷ V.I32Const 2 ∷ V.MemoryFill
    ∷ V.I32Const 1 ∷ V.I32Const 0 ∷ V.I32Const 2 ∷ V.MemoryCopy
    ∷ V.I32Const 4 ∷ V.I32Const 128 ∷ V.Num 192 ∷ V.Store 54 2 0
    ∷ V.I32Const 0 ∷ V.I32Const 8 ∷ V.Call 0 ∷ []

-- the module of this code
abbrev pub fill : Module
fill = module_with (two_to_none ∷ entry_type ∷ []) (host_import (codes "reply") 0 ∷ []) 1 [] (body fill_code)

-- it releases its input through the gate `g`: release(0, 1, 16, input(16, 1024))
abbrev pub give_code : List Instr
give_code =
    V.I32Const 0 ∷ V.I32Const 1 ∷ V.I32Const 16 ∷ V.I32Const 16 ∷ V.I32Const 1024 ∷ V.Call 0 ∷ V.Call 1 ∷ []

-- the module of this code
abbrev pub give : Module
give = module_with (two_to_one ∷ four_to_none ∷ entry_type ∷ []) (host_import (codes "input") 0 ∷ host_import (codes "release") 1 ∷ [])
    2 (piece_at_0 (codes "g") ∷ []) (body give_code)
