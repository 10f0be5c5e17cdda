-- What a call needs of a function.
use Rattle.std.specs.Prelude.{ℕ, ◌+◌, ◌<◌, ◌≤◌, ◌≡◌, List, length, Option, Some, slice_get, IsTrue}
use Rattle.wasm_ast.specs.declared.func_types.FuncType.{FuncType}
use Rattle.wasm_ast.specs.declared.modules.Module.{Module}
use Rattle.wasm_ast.specs.Spaces.{Function, own, type_of, function_count}
use Rattle.wasm_ast.specs.declared.hosts.HostName.{HostName}
use Rattle.wasm_ast.specs.Hosts.{host_of, host_params, same_type}
use Rattle.wasm_semantics.specs.Operators.{truth}
use Rattle.wasm_data.specs.Cuts.{above}
use Rattle.wasm_data.specs.Marked.{operands_in}
use Rattle.wasm_blocks.specs.declared.open.Open.{Open}
use Rattle.wasm_blocks.specs.Levels.{values_in}
use Rattle.wasm_frames.specs.declared.active.Active.{Active}
use Rattle.wasm_frames.specs.declared.callees.Callee.{Callee}
use Rattle.wasm_frames.specs.declared.callees.Entry.{Entry}
use Rattle.wasm_frames.specs.declared.callees.Runs.{Runs}
use Rattle.wasm_frames.specs.declared.callees.Runs.TheVariants as runs

-- the function with this index is one that the module defines
pub record IsEntry (m : Module) (x : ℕ) (params : ℕ) (e : Entry) : Type 0 where
  pub function : Function
  pub member : own m x ≡ Some function
  pub index : x ≡ length m.imports + e.function
  pub takes : params ≡ length function.signature.params
  pub zeros : e.declared ≡ length function.declared
  pub results : truth e.gives ≡ length function.signature.results

-- the import with this index is the host call
pub record IsHost (m : Module) (x : ℕ) (params : ℕ) (h : HostName) : Type 0 where
  pub named : host_of m x ≡ Some h
  pub takes : params ≡ length (host_params h)

-- what runs when the function with this index is called
abbrev pub RunsWhenCalled : Module → ℕ → ℕ → Runs → Type 0
RunsWhenCalled m x params (runs.Host h) = IsHost m x params h
RunsWhenCalled m x params (runs.Own e) = IsEntry m x params e

-- a row tells of the function with this index
pub record IsCallee (m : Module) (x : ℕ) (c : Callee) : Type 0 where
  pub signature : FuncType
  pub is : slice_get m.types c.signature ≡ Some signature
  pub type : type_of m x ≡ Some signature
  pub runs : RunsWhenCalled m x c.params c.runs

-- a row for each function
pub record AreCallees (m : Module) (rows : List Callee) : Type 0 where
  pub many : length rows ≡ function_count m
  pub each : (x : ℕ) (c : Callee) → slice_get rows x ≡ Some c → IsCallee m x c

-- the innermost level has the arguments of a call
abbrev pub HasArguments : List Callee → ℕ → Active → List ℕ → List Open → Type 0
HasArguments rows x a values opens =
    let operands = operands_in a.hot.marks.floor a.hot.marks.sp values in
    (c : Callee) → slice_get rows x ≡ Some c → c.params ≤ length (values_in (above a.hot.low opens) operands)

-- an entry of the table that is set is a function, and the arguments are there where it has the type that is wanted
abbrev pub AreTypes : Module → List Callee → ℕ → List (Option ℕ) → ℕ → Active → List ℕ → List Open → Type 0
AreTypes m rows kind table at a values opens =
    (x : ℕ) → slice_get table at ≡ Some (Some x) →
    (x < length rows) × ((found wanted : FuncType) → type_of m x ≡ Some found → slice_get m.types kind ≡ Some wanted →
    IsTrue (same_type found wanted) → HasArguments rows x a values opens)
