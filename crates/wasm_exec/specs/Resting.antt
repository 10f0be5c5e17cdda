-- A thread at rest, and what a run between two rests comes to.
use Rattle.std.specs.Prelude.{ℕ, ◌+◌, ◌≤◌, ◌<◌, ◌≡◌, List, ◌∷◌, length, take}
use Rattle.wasm_ast.specs.declared.hosts.HostName.{HostName}
use Rattle.wasm_ast.specs.declared.modules.Module.{Module}
use Rattle.wasm_ast.specs.Spaces.{memory_of}
use Rattle.wasm_ast.specs.Hosts.{host_results}
use Rattle.wasm_semantics.specs.Threads.{Store, Thread, Goes, Calls, Trapped, Done}
use Rattle.wasm_semantics.specs.Units.{Course}
use Rattle.wasm_semantics.specs.OfModule.{IsMemory, IsOf, IsWaiting}
use Rattle.wasm_semantics.specs.Laws.{in_four_places}
use Rattle.wasm_blocks.specs.declared.open.Open.{Open}
use Rattle.wasm_frames.specs.declared.active.Place.{Place}
use Rattle.wasm_frames.specs.Resting.{frames_at_rest, AreResting}
use Rattle.wasm_exec.specs.declared.stops.Asked.{Asked}
use Rattle.wasm_exec.specs.declared.stops.Stop.{Stop}
use Rattle.wasm_exec.specs.declared.stops.Stop.TheVariants as stop
use Rattle.wasm_exec.specs.Rounds.{ended}

-- the thread of frames that all wait, the topmost being the one that runs
abbrev pub thread_at_rest : Module → Store → List Place → List ℕ → List Open → Thread
thread_at_rest m st ps values opens = record { store = st; frames = frames_at_rest m ps values opens }

-- the frames lie within the array, and there are no more of anything than a thread may have
pub record AreAtRest (p : Place) (ps : List Place) (values : List ℕ) (opens : List Open) : Type 0 where
  pub resting : AreResting (p ∷ ps) values opens
  pub size : length values ≤ 65536
  pub frames : length ps ≤ 1023
  pub blocks : length opens ≤ 16384

-- a thread of the module that can go on
pub record CanGoOn (m : Module) (st : Store) (p : Place) (ps : List Place) (values : List ℕ) (opens : List Open) : Type 0 where
  pub of : IsOf m (thread_at_rest m st (p ∷ ps) values opens)
  pub rests : AreAtRest p ps values opens

-- a thread of the module that waits for an answer, for which there is a place
pub record AwaitsAnswer (m : Module) (st : Store) (h : HostName) (p : Place) (ps : List Place)
    (values : List ℕ) (opens : List Open) : Type 0 where
  pub waits : IsWaiting m h (thread_at_rest m st (p ∷ ps) values opens)
  pub memory : IsMemory (memory_of m) st.memory
  pub rests : AreAtRest p ps values opens
  pub room : p.marks.sp + length (host_results h) ≤ length values

-- it asked the host, and waits
pub record HasCalled (m : Module) (course : Course) (used : ℕ) (st : Store) (asked : Asked)
    (p : Place) (ps : List Place) (values : List ℕ) (opens : List Open) : Type 0 where
  pub args : List ℕ
  pub is : course ≡ ended used (Calls asked.name args (thread_at_rest m st (p ∷ ps) values opens))
  pub places : asked.args ≡ in_four_places args
  pub waits : AwaitsAnswer m st asked.name p ps values opens

-- what a run of units comes to
abbrev pub Rests : Module → Course → Store → Place → List Place → List ℕ → List Open → ℕ → Stop → Type 0
Rests m course st p ps values opens used stop.Spent =
    (course ≡ ended used (Goes (thread_at_rest m st (p ∷ ps) values opens))) × CanGoOn m st p ps values opens
Rests m course st p ps values opens used stop.Done = course ≡ ended used Done
Rests m course st p ps values opens used (stop.Trapped t) = course ≡ ended used (Trapped t)
Rests m course st p ps values opens used (stop.Call asked) = HasCalled m course used st asked p ps values opens
Rests m course st p ps values opens used stop.NoMemory = Unit {0}

-- more places behind those that were there
pub record HasGrown (old new : List ℕ) : Type 0 where
  pub front : take (length old) new ≡ old
  pub more : length old < length new
  pub most : length new ≤ 65536
