-- Modules that are each refused for one thing, and code that shows what typing asks for.
use Rattle.std.specs.Prelude.{false, List, [], ◌∷◌, Some, None}
use lib.Chars.{codes}
use Rattle.wasm_ast.specs.declared.val_types.ValType.TheVariants.{I32, I64}
use Rattle.wasm_ast.specs.declared.trees.Instr.{Instr}
use Rattle.wasm_ast.specs.declared.trees.Instr.TheVariants as V
use Rattle.wasm_ast.specs.declared.exports.ExportKind.TheVariants as export
use Rattle.wasm_ast.specs.declared.modules.Module.{Module}
use Rattle.wasm_ast.specs.TestModules.{sequence, handle_export, host_import, entry_type, two_to_one, one_page, piece_at_0, idle}

-- `input`, imported with the type of `reply`
abbrev pub other_import : Module
other_import = idle (host_import (codes "input") 1 ∷ [])

-- an import of a function that the host does not lend
abbrev pub unknown_import : Module
unknown_import = idle (host_import (codes "input") 0 ∷ host_import (codes "answer") 1 ∷ [])

-- a type of two results
abbrev pub two_results : Module
two_results = record (idle []) { types = two_to_one ∷ record { params = []; results = I32 ∷ I32 ∷ [] } ∷ entry_type ∷ [] }

-- a function of a type that is not there
abbrev pub type_past : Module
type_past = record (idle []) { functions = 3 ∷ [] }

-- two tables
abbrev pub two_tables : Module
two_tables = record (idle []) { tables = record { minimum = 0; maximum = None } ∷ record { minimum = 0; maximum = None } ∷ [] }

-- a table of more entries than its greatest number
abbrev pub table_over_maximum : Module
table_over_maximum = record (idle []) { tables = record { minimum = 2; maximum = Some 1 } ∷ [] }

-- a table of 65,537 entries
abbrev pub table_too_large : Module
table_too_large = record (idle []) { tables = record { minimum = 65537; maximum = None } ∷ [] }

-- two memories
abbrev pub two_memories : Module
two_memories = record (idle []) { memories = one_page ∷ one_page ∷ [] }

-- a memory of more pages than its greatest number
abbrev pub memory_over_maximum : Module
memory_over_maximum = record (idle []) { memories = record { minimum = 2; maximum = Some 1 } ∷ [] }

-- a memory that may have 65,537 pages
abbrev pub memory_too_large : Module
memory_too_large = record (idle []) { memories = record { minimum = 0; maximum = Some 65537 } ∷ [] }

-- a global without a value
abbrev pub global_without_value : Module
global_without_value = record (idle []) { globals = record { val_type = I32; mutable = false; initial = sequence [] } ∷ [] }

-- a global whose value has another type
abbrev pub global_of_other_type : Module
global_of_other_type = record (idle []) {
  globals = record { val_type = I64; mutable = false; initial = sequence (V.I32Const 0 ∷ []) } ∷ [];
}

-- an export of a second memory, which is not there
abbrev pub export_past : Module
export_past = record (idle []) { exports = handle_export 0 ∷ record { name = codes "memory"; kind = export.Memory; index = 1 } ∷ [] }

-- two exports of one name
abbrev pub same_names : Module
same_names = record (idle []) { exports = handle_export 0 ∷ handle_export 0 ∷ [] }

-- a start function that is not there
abbrev pub start_past : Module
start_past = record (idle []) { start = Some 1 }

-- a start function that takes two numbers
abbrev pub start_with_params : Module
start_with_params = record (idle (host_import (codes "reply") 1 ∷ [])) { start = Some 0 }

-- an element segment without a table
abbrev pub element_without_table : Module
element_without_table = record (idle []) { elements = record { index = 0; offset = sequence (V.I32Const 0 ∷ []); members = 0 ∷ [] } ∷ [] }

-- an element segment of a function that is not there
abbrev pub element_of_no_function : Module
element_of_no_function = record element_without_table {
  tables = record { minimum = 1; maximum = None } ∷ [];
  elements = record { index = 0; offset = sequence (V.I32Const 0 ∷ []); members = 1 ∷ [] } ∷ [];
}

-- a data segment without a memory
abbrev pub data_without_memory : Module
data_without_memory = record (idle []) { memories = []; pieces = piece_at_0 [] ∷ [] }

-- a data segment whose offset is no constant
abbrev pub data_without_offset : Module
data_without_offset = record (idle []) { pieces = record { index = 0; offset = sequence []; bytes = [] } ∷ [] }

-- `handle` that takes two numbers
abbrev pub handle_with_params : Module
handle_with_params = record (idle (host_import (codes "reply") 1 ∷ [])) { exports = handle_export 0 ∷ [] }

-- an element segment that ends past the one entry of the table
abbrev pub element_past : Module
element_past = record element_without_table {
  tables = record { minimum = 1; maximum = None } ∷ [];
  elements = record { index = 0; offset = sequence (V.I32Const 1 ∷ []); members = 0 ∷ [] } ∷ [];
}

-- a data segment that ends past the memory's first page
abbrev pub data_past : Module
data_past = record (idle []) { pieces = record { index = 0; offset = sequence (V.I32Const 65536 ∷ []); bytes = 0 ∷ [] } ∷ [] }

-- code after an unconditional branch, which takes an operand from nowhere and leaves one
abbrev pub unreached_code : List Instr
unreached_code = V.Unreachable ∷ V.Drop ∷ V.I32Const 1 ∷ []

-- a branch by an index to the innermost level or, past the vector, to the one around it
abbrev pub table_branch : List Instr
table_branch = V.BrTable (0 ∷ []) 1 ∷ []
