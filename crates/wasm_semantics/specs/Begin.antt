-- The thread that a module begins with (4.5.4).
use Rattle.std.specs.Prelude.{ℕ, List, [], ◌∷◌, ◌++◌, map, replicate, Option, Some, None}
use Rattle.wasm_ast.specs.declared.elements.Element.{Element}
use Rattle.wasm_ast.specs.declared.global_vars.GlobalVar.{GlobalVar}
use Rattle.wasm_ast.specs.declared.modules.Module.{Module}
use Rattle.wasm_ast.specs.Spaces.{Function, own, table_size}
use Rattle.wasm_ast.specs.Structure.{constant_value}
use Rattle.wasm_ast.specs.Validity.{handle_of}
use Rattle.wasm_ast.specs.Bytes.{placed, first_memory}
use Rattle.wasm_semantics.specs.Threads.{Frame, Thread}
use Rattle.wasm_semantics.specs.Control.{first_frame, zeros}

-- entries that are set
abbrev pub set_entries : List ℕ → List (Option ℕ)
set_entries xs = map (λ x. Some x) xs

-- the table with the element segments, in order, each from its offset on
abbrev pub with_elements : List (Option ℕ) → List Element → List (Option ℕ)
with_elements table [] = table
with_elements table (e ∷ es) = with_elements (placed table (constant_value e.offset.items) (set_entries e.members)) es

-- unset entries, with the element segments in order
abbrev pub first_table : Module → List (Option ℕ)
first_table m = with_elements (replicate (table_size m) None) m.elements

-- each global has its constant
abbrev pub first_globals : Module → List ℕ
first_globals m = map (λ (g : GlobalVar). constant_value g.initial.items) m.globals

-- a first frame of the function, where it is there, with its locals at zero
abbrev pub frame_of : Option Function → List Frame
frame_of None = []
frame_of (Some fn) = first_frame fn (zeros fn.declared) ∷ []

-- the same of the function with this index
abbrev pub entry_frame : Module → Option ℕ → List Frame
entry_frame m None = []
entry_frame m (Some x) = frame_of (own m x)

-- a frame of the handle function, and over it one of the start function, where there is one
unfoldable pub begin : Module → Thread
begin m = record {
  store = record { memory = first_memory m; globals = first_globals m; table = first_table m };
  frames = entry_frame m m.start ++ entry_frame m (handle_of m);
}
