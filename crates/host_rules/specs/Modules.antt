-- The guest whose functions are modules: its threads and units are those of the engine's definitions.
use Rattle.std.specs.Prelude.{ℕ, List, [], None, slice_index_or}
use Rattle.trapeze_lines.specs.declared.outcome.Cause.{Cause}
use Rattle.trapeze_lines.specs.declared.outcome.Cause.TheVariants as cause
use Rattle.wasm_ast.specs.declared.modules.Module.{Module}
use Rattle.wasm_ast.specs.Spaces.{first_pages}
use Rattle.wasm_semantics.specs.declared.traps.Trap.{Trap}
use Rattle.wasm_semantics.specs.declared.traps.Trap.TheVariants as trap
use Rattle.wasm_semantics.specs.Threads.{Thread, Outcome}
use Rattle.wasm_semantics.specs.Threads as outcome
use Rattle.wasm_semantics.specs.Begin.{begin}
use Rattle.wasm_semantics.specs.Units.{unit, with_memory, answered}
use Rattle.host_rules.specs.Guests.{Guest, OneUnit, Goes, Calls, Done, Traps}

-- the cause of a trap
abbrev pub cause_of : Trap → Cause
cause_of trap.Unreachable = cause.Unreachable
cause_of trap.Memory = cause.Memory
cause_of trap.Divide = cause.Divide
cause_of trap.Overflow = cause.Overflow
cause_of trap.Table = cause.Table
cause_of trap.Empty = cause.Empty
cause_of trap.TypeDiffers = cause.TypeDiffers
cause_of trap.Stack = cause.Stack

-- what a unit comes to; a thread of a valid module is never stuck
abbrev pub unit_of : Outcome → OneUnit Thread
unit_of (outcome.Goes t) = Goes t
unit_of (outcome.Calls name args t) = Calls (record { name = name; args = args }) t
unit_of outcome.Done = Done
unit_of (outcome.Trapped t) = Traps (cause_of t)
unit_of outcome.Stuck = Traps cause.Unreachable

-- a module of nothing
abbrev pub no_module : Module
no_module = record {
  types = [];
  imports = [];
  functions = [];
  tables = [];
  memories = [];
  globals = [];
  exports = [];
  start = None;
  elements = [];
  pieces = [];
  bodies = [];
}

-- the module of a function; a policy has one for each function
abbrev pub module_at : List Module → ℕ → Module
module_at modules f = slice_index_or modules f no_module

-- the guest of these modules, by function number
abbrev pub guest_of : List Module → Guest Thread
guest_of modules = record {
  begin = λ f. begin (module_at modules f);
  minimum = λ f. first_pages (module_at modules f);
  unit = λ f pages t. unit_of (unit (module_at modules f) pages t);
  memory = λ t. t.store.memory;
  answer = λ t memory answer. answered (with_memory t memory) answer;
}
