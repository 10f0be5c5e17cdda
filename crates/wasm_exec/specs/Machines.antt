-- The thread that a machine stands for.
use Rattle.std.specs.Prelude.{◌≡◌, List, ◌∷◌, Some, None}
use Rattle.wasm_ast.specs.declared.hosts.HostName.{HostName}
use Rattle.wasm_ast.specs.declared.modules.Module.{Module}
use Rattle.wasm_ast.specs.Spaces.{page_limit}
use Rattle.wasm_semantics.specs.Threads.{Store, Thread, Goes, Calls, Trapped, Done}
use Rattle.wasm_semantics.specs.Units.{Course}
use Rattle.wasm_semantics.specs.Laws.{in_four_places}
use Rattle.wasm_memory.specs.Contents.{Contents}
use Rattle.wasm_frames.specs.Standing.{store_of}
use Rattle.wasm_frames.specs.Callees.{AreCallees}
use Rattle.wasm_exec.specs.declared.machine.Machine.{Machine}
use Rattle.wasm_exec.specs.declared.stops.Asked.{Asked}
use Rattle.wasm_exec.specs.declared.stops.Stop.{Stop}
use Rattle.wasm_exec.specs.declared.stops.Stop.TheVariants as stop
use Rattle.wasm_exec.specs.Resting.{thread_at_rest, CanGoOn, AwaitsAnswer}
use Rattle.std.specs.Prelude.{ℕ}
use Rattle.wasm_exec.specs.Rounds.{ended}

-- its memory
unfoldable pub memory_in : Machine → Contents
memory_in x = x.memory

-- its store
abbrev pub store_in : Machine → Store
store_in x = store_of x.memory.bytes x.globals.items x.table.items

-- its thread
unfoldable pub thread_of : Module → Machine → Thread
thread_of m x = thread_at_rest m (store_in x) (x.place ∷ x.places) x.values.items x.opens

-- what a machine knows of the module, and its memory never has more pages than the module lets it have
pub record FitsModule (m : Module) (x : Machine) : Type 0 where
  pub callees : AreCallees m x.callees.items
  pub maximum : page_limit m ≡ x.memory.maximum

-- its thread is of the module and can go on; it waits for no answer
pub record IsReady (m : Module) (x : Machine) : Type 0 where
  pub serves : FitsModule m x
  pub none : x.waits_for ≡ None
  pub goes : CanGoOn m (store_in x) x.place x.places x.values.items x.opens

-- its thread waits for the answer of this call
pub record IsWaiting (m : Module) (h : HostName) (x : Machine) : Type 0 where
  pub serves : FitsModule m x
  pub some : x.waits_for ≡ Some h
  pub waits : AwaitsAnswer m (store_in x) h x.place x.places x.values.items x.opens

-- it asked the host: the arguments lie in four places
pub record HasAsked (m : Module) (course : Course) (used : ℕ) (asked : Asked) (x : Machine) : Type 0 where
  pub args : List ℕ
  pub is : course ≡ ended used (Calls asked.name args (thread_of m x))
  pub places : asked.args ≡ in_four_places args
  pub waits : IsWaiting m asked.name x

-- what a run of units came to
abbrev pub StopsAs : Module → Course → ℕ → Stop → Machine → Type 0
StopsAs m course used stop.Spent x = (course ≡ ended used (Goes (thread_of m x))) × IsReady m x
StopsAs m course used stop.Done x = course ≡ ended used Done
StopsAs m course used (stop.Trapped t) x = course ≡ ended used (Trapped t)
StopsAs m course used (stop.Call asked) x = HasAsked m course used asked x
StopsAs m course used stop.NoMemory x = Unit {0}
