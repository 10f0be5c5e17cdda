-- Reading sections from the left (WebAssembly Core 1.0, 5.5).
use Rattle.std.specs.Prelude.{ℕ, zero, suc, ◌+◌, nat_eq, if◌then◌else◌, List, [], ◌∷◌, length, Option, Some, None, Result, Ok, Err, ◌≡◌}
use Rattle.std.specs.List.{starts_with}
use Rattle.wasm_ast.specs.declared.modules.Module.{Module}
use Rattle.wasm_code.specs.declared.error.DecodeError.{DecodeError}
use Rattle.wasm_code.specs.Places.{Place, Reading, ◌>>=◌, past, check, ended}
use Rattle.wasm_code.specs.Fields.{u32, vector, sized, range, name}
use Rattle.wasm_decode.specs.Spelling.{magic, version}
use Rattle.wasm_decode.specs.Parts.{func_type, import, table, memory_type, global, export, number, element, pieces, is_counted, code}

-- these bytes, as one field
abbrev pub exactly : List ℕ → Place → Result Place DecodeError
exactly front p = do
  t ← check (starts_with nat_eq p.rest front) p.at
  Ok (past (length front) p)

-- what is in a custom section: a name, and any bytes (5.5.3)
abbrev pub custom : Place → Result (Unit {0}) DecodeError
custom p = do
  text ← name p
  Ok tt

abbrev pub after_id_of : ℕ → List ℕ → ℕ → Option Place
after_id_of id [] at = None
after_id_of id (b ∷ rest) at = if nat_eq b id then Some (record { rest = rest; at = at + 1 }) else None

-- the place behind this id, where it stands here
unfoldable pub after_id : ℕ → Place → Option Place
after_id id p = after_id_of id p.rest p.at

abbrev pub customs_by : (Place → Result Place DecodeError) → Place → Option Place → Result Place DecodeError
customs_by others p None = Ok p
customs_by others p (Some q) = do
  r ← range q
  t ← custom r.0
  others r.1

-- at most so many custom sections
unfoldable pub customs : ℕ → Place → Result Place DecodeError
customs zero p = Ok p
customs (suc n) p = customs_by (customs n) p (after_id 0 p)

-- all custom sections that stand here: no more than bytes
abbrev pub all_customs : Place → Result Place DecodeError
all_customs p = customs (length p.rest) p

abbrev pub section_by : {X : Type 0} → (Place → Reading X) → X → Place → Option Place → Reading X
section_by read absent p None = Ok (absent, p)
section_by read absent p (Some q) = sized read q

-- What the section of this id has, behind custom ones, where it stands (5.5.2).
unfoldable pub section : {X : Type 0} → ℕ → (Place → Reading X) → X → Place → Reading X
section id read absent p = do
  q ← all_customs p
  section_by read absent q (after_id id q)

-- the end of the file, behind custom sections
abbrev pub last : Place → Result Place DecodeError
last p = do
  q ← all_customs p
  t ← ended q
  Ok q

-- Sections come in this order, each at most once. There are as many bodies as functions, and data segments as were counted.
unfoldable pub sections : Place → Result Module DecodeError
sections p = do
  types ← section 1 (vector func_type) [] p
  imports ← section 2 (vector import) [] types.1
  functions ← section 3 (vector u32) [] imports.1
  tables ← section 4 (vector table) [] functions.1
  memories ← section 5 (vector memory_type) [] tables.1
  globals ← section 6 (vector global) [] memories.1
  exports ← section 7 (vector export) [] globals.1
  begins ← section 8 number None exports.1
  elements ← section 9 (vector element) [] begins.1
  counted ← section 12 number None elements.1
  bodies ← section 10 (code (length functions.0)) [] counted.1
  segments ← section 11 (pieces counted.0) [] bodies.1
  q ← last segments.1
  t ← check (nat_eq (length bodies.0) (length functions.0)) q.at
  t ← check (is_counted counted.0 (length segments.0)) q.at
  Ok (record {
    types = types.0;
    imports = imports.0;
    functions = functions.0;
    tables = tables.0;
    memories = memories.0;
    globals = globals.0;
    exports = exports.0;
    start = begins.0;
    elements = elements.0;
    pieces = segments.0;
    bodies = bodies.0;
  })

-- a file from its beginning
abbrev pub whole : List ℕ → Place
whole bytes = record { rest = bytes; at = 0 }

-- the module that these bytes spell, or the first fault (5.5.15)
abbrev pub module_of : List ℕ → Result Module DecodeError
module_of bytes = do
  p ← exactly magic (whole bytes)
  q ← exactly version p
  sections q

-- the first fault of these bytes
abbrev pub Fails : List ℕ → DecodeError → Type 0
Fails bytes fault = module_of bytes ≡ Err fault
