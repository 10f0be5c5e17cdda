-- Which modules are valid, and the first fault of one that is not (3.4.10), within the profile.
use Rattle.std.specs.Prelude.{ℕ, ◌+◌, ◌*◌, ◌^◌, ◌<◌, ◌≡◌, Bool, List, [], ◌∷◌}
use Rattle.std.specs.Prelude.{length, not, nat_lt, Option, Some, None, option_map, position, find}
use Rattle.wasm_ast.specs.declared.elements.Element.{Element}
use Rattle.wasm_ast.specs.declared.pieces.Piece.{Piece}
use Rattle.wasm_ast.specs.declared.exports.Export.{Export}
use Rattle.wasm_ast.specs.declared.imports.Import.{Import}
use Rattle.wasm_ast.specs.declared.places.FloatPlace.{FloatPlace}
use Rattle.wasm_ast.specs.declared.places.FloatPlace.TheVariants as float
use Rattle.wasm_ast.specs.declared.places.SegmentPlace.{SegmentPlace}
use Rattle.wasm_ast.specs.declared.places.SegmentPlace.TheVariants as segment
use Rattle.wasm_ast.specs.declared.modules.Module.{Module}
use Rattle.wasm_ast.specs.Spaces.{Function, function_at, table_size, first_pages}
use Rattle.wasm_ast.specs.Typing.{IsTyped}
use Rattle.wasm_ast.specs.Hosts.{is_host}
use Rattle.wasm_ast.specs.Floats.{has_float_type, has_float_global, has_float_body, has_float_code}
use Rattle.wasm_ast.specs.Structure.{constant_value, rules, is_handle}
use Rattle.wasm_ast.specs.Faults.{Fault}
use Rattle.wasm_ast.specs.Faults as fault

-- the first that is there
abbrev pub first_some : {A : Type 0} → List (Option A) → Option A
first_some [] = None
first_some (None ∷ others) = first_some others
first_some (Some x ∷ others) = Some x

-- the first float
abbrev pub float_place : Module → Option FloatPlace
float_place m = first_some (
    option_map float.Types (position has_float_type m.types)
    ∷ option_map float.Globals (position has_float_global m.globals)
    ∷ option_map float.Bodies (position has_float_body m.bodies)
    ∷ option_map float.Elements (position (λ (e : Element). has_float_code e.offset.items) m.elements)
    ∷ option_map float.Data (position (λ (p : Piece). has_float_code p.offset.items) m.pieces)
    ∷ [])

-- the first import that is no host call
abbrev pub import_place : Module → Option ℕ
import_place m = position (λ (i : Import). not (is_host m i)) m.imports

-- the first rule of structure that fails, counted from 1
abbrev pub structure_rule : Module → Option ℕ
structure_rule m = option_map (λ k. k + 1) (position not (rules m))

-- the function that a turn runs
unfoldable pub handle_of : Module → Option ℕ
handle_of m = option_map (λ (e : Export). e.index) (find (is_handle m) m.exports)

-- the fault where there is none
abbrev pub handle_fault : Option ℕ → Option Fault
handle_fault None = Some fault.NoHandle
handle_fault (Some x) = None

-- an element segment ends past the entries that its table begins with
abbrev pub is_element_past : Module → Element → Bool
is_element_past m e = nat_lt (table_size m) (constant_value e.offset.items + length e.members)

-- the same of a data segment, whose memory is counted in bytes
abbrev pub is_piece_past : Module → Piece → Bool
is_piece_past m p = nat_lt (first_pages m * 65536) (constant_value p.offset.items + length p.bytes)

-- the first such segment, elements before data
abbrev pub segment_place : Module → Option SegmentPlace
segment_place m = first_some (
    option_map segment.Element (position (is_element_past m) m.elements)
    ∷ option_map segment.Data (position (is_piece_past m) m.pieces)
    ∷ [])

-- the first fault before any body is typed
unfoldable pub early_fault : Module → Option Fault
early_fault m = first_some (
    option_map fault.Float (float_place m)
    ∷ option_map fault.Import (import_place m)
    ∷ option_map fault.Structure (structure_rule m)
    ∷ handle_fault (handle_of m)
    ∷ option_map fault.Segment (segment_place m)
    ∷ [])

-- the body with this number belongs to a function and has a typing
abbrev pub IsBodyTyped : Module → ℕ → Type 0
IsBodyTyped m k = (fn : Function) × (function_at m k ≡ Some fn) × IsTyped m fn

-- the first fault of a module with as many bodies as functions
abbrev pub Invalidity : Module → Fault → Type 0
Invalidity m (fault.IllTyped k) =
    (early_fault m ≡ None) × (k < length m.bodies) × ((j : ℕ) → j < k → IsBodyTyped m j) × (IsBodyTyped m k → ⊥)
Invalidity m f = early_fault m ≡ Some f

-- no test fails, and there are as many bodies as functions
pub record Valid (m : Module) : Type 0 where
  pub early : early_fault m ≡ None
  pub counts : length m.bodies ≡ length m.functions
  pub typed : (k : ℕ) → k < length m.bodies → IsBodyTyped m k

-- each list of the module has fewer than 2^32 members, so that an index names each
pub record IsSmall (m : Module) : Type 0 where
  pub types : length m.types < 2 ^ 32
  pub imports : length m.imports < 2 ^ 32
  pub functions : length m.functions < 2 ^ 32
  pub tables : length m.tables < 2 ^ 32
  pub memories : length m.memories < 2 ^ 32
  pub globals : length m.globals < 2 ^ 32
  pub exports : length m.exports < 2 ^ 32
  pub elements : length m.elements < 2 ^ 32
  pub pieces : length m.pieces < 2 ^ 32
  pub bodies : length m.bodies < 2 ^ 32
