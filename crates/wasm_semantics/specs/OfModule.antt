-- Which threads are of a module.
use Rattle.std.specs.Prelude.{ℕ, ◌≡◌, ◌<◌, ◌≤◌, ◌*◌, ◌^◌, List, [], ◌∷◌, ◌++◌, length, slice_get, Option, Some, None, option_to_list}
use Rattle.wasm_ast.specs.declared.val_types.ValType.{ValType}
use Rattle.wasm_ast.specs.declared.trees.Instr.{Instr}
use Rattle.wasm_ast.specs.declared.func_types.FuncType.{FuncType}
use Rattle.wasm_ast.specs.declared.memory_types.MemoryType.{MemoryType}
use Rattle.wasm_ast.specs.declared.modules.Module.{Module}
use Rattle.wasm_ast.specs.Spaces.{Function, global_types, most_pages, type_of, own, table_size, memory_of}
use Rattle.wasm_ast.specs.Operators.{bits}
use Rattle.wasm_ast.specs.Typing.{Context, context_of, Types}
use Rattle.wasm_ast.specs.declared.hosts.HostName.{HostName}
use Rattle.wasm_ast.specs.Hosts.{host_params, host_results}
use Rattle.wasm_semantics.specs.Threads.{Store, Level, Frame, Thread, Outcome, Goes, Calls, Done, Trapped, Stuck}
use Rattle.wasm_semantics.specs.Units.{unit, with_memory, answered}
use Rattle.wasm_semantics.specs.Begin.{begin}

-- a number is a value of a type
abbrev pub Fits : ValType → ℕ → Type 0
Fits t n = n < 2 ^ bits t

-- numbers have these types, in order
abbrev pub Holds : List ValType → List ℕ → Type 0
Holds [] [] = Unit {0}
Holds [] (v ∷ vs) = ⊥
Holds (t ∷ ts) [] = ⊥
Holds (t ∷ ts) (v ∷ vs) = Fits t v × Holds ts vs

-- a whole number of pages within the limits, and no bytes without a memory
abbrev pub IsMemory : Option MemoryType → List ℕ → Type 0
IsMemory None bytes = bytes ≡ []
IsMemory (Some t) bytes = (pages : ℕ) × (length bytes ≡ pages * 65536) × (t.minimum ≤ pages) × (pages ≤ most_pages t)

-- each entry that is set is a function of the module
abbrev pub IsTable : Module → List (Option ℕ) → Type 0
IsTable m table = (k x : ℕ) → slice_get table k ≡ Some (Some x) → (ft : FuncType) × (type_of m x ≡ Some ft)

-- a memory that the module may have, a global of each declared type, and a table of the declared length with functions of the module
pub record IsStore (m : Module) (st : Store) : Type 0 where
  pub memory : IsMemory (memory_of m) st.memory
  pub globals : Holds (global_types m) st.globals
  pub length : length st.table ≡ table_size m
  pub table : IsTable m st.table

-- types of a level's values, of those that it leaves, and of those that a branch to it takes
pub record Shape : Type 0 where
  pub stands : List ValType
  pub leaves : List ValType
  pub takes : List ValType

-- what a branch to each level takes
abbrev pub labels_of : List Shape → List (List ValType)
labels_of [] = []
labels_of (s ∷ ss) = s.takes ∷ labels_of ss

-- a branch to a block goes on in the level around it, over that level's values; one to a function's own level is a return
abbrev pub Target : Context → List ValType → ℕ → List Instr → List Shape → Type 0
Target c takes keeps target [] = takes ≡ c.returns
Target c takes keeps target (o ∷ os) = (keeps ≡ length takes) × Types c (labels_of (o ∷ os)) target (takes ++ o.stands) o.leaves

-- one level, with what the one above it leaves on top of its values
pub record IsLevel (c : Context) (l : Level) (s : Shape) (ss : List Shape) (above : List ValType) : Type 0 where
  pub values : Holds s.stands l.values
  pub code : Types c (labels_of (s ∷ ss)) l.code (above ++ s.stands) s.leaves
  pub target : Target c s.takes l.keeps l.target ss

-- levels with their shapes; the last leaves what the function returns
abbrev pub Levels : Context → List Level → List Shape → List ValType → Type 0
Levels c [] [] above = above ≡ c.returns
Levels c [] (s ∷ ss) above = ⊥
Levels c (l ∷ ls) [] above = ⊥
Levels c (l ∷ ls) (s ∷ ss) above = IsLevel c l s ss above × Levels c ls ss s.leaves

-- a frame of a function of the module, with what the frame above it leaves
pub record IsFrame (m : Module) (f : Frame) (above : List ValType) : Type 0 where
  pub index : ℕ
  pub function : Function
  pub member : own m index ≡ Some function
  pub locals : Holds (context_of m function).locals f.locals
  pub gives : f.gives ≡ length function.signature.results
  pub first : Shape
  pub others : List Shape
  pub levels : Levels (context_of m function) f.levels (first ∷ others) above

-- each frame leaves the results of its function to the one below
abbrev pub Frames : Module → List Frame → List ValType → Type 0
Frames m [] above = Unit {0}
Frames m (f ∷ fs) above = (here : IsFrame m f above) × Frames m fs here.function.signature.results

-- at least one frame
abbrev pub Running : Module → List Frame → List ValType → Type 0
Running m [] above = ⊥
Running m (f ∷ fs) above = Frames m (f ∷ fs) above

-- the thread is of the module
pub record IsOf (m : Module) (t : Thread) : Type 0 where
  pub store : IsStore m t.store
  pub running : Running m t.frames []

-- an answer of a host call, a number of its type where it has one
abbrev pub IsAnswer : HostName → Option ℕ → Type 0
IsAnswer h answer = Holds (host_results h) (option_to_list answer)

-- the thread waits for an answer of this call: with each one, and any memory that the module may have, it is of the module
abbrev pub IsWaiting : Module → HostName → Thread → Type 0
IsWaiting m h t =
    (memory : List ℕ) (answer : Option ℕ) → IsMemory (memory_of m) memory → IsAnswer h answer
    → IsOf m (answered (with_memory t memory) answer)

-- a host call with arguments of its types, from a thread whose memory the module may have
pub record IsCall (m : Module) (h : HostName) (args : List ℕ) (t : Thread) : Type 0 where
  pub arguments : Holds (host_params h) args
  pub memory : IsMemory (memory_of m) t.store.memory
  pub waits : IsWaiting m h t

-- a thread of the module, a host call whose answer gives one, the end, or a trap; never that no rule is there
abbrev pub Sound : Module → Outcome → Type 0
Sound m (Goes t) = IsOf m t
Sound m (Calls h args t) = IsCall m h args t
Sound m Done = Unit {0}
Sound m (Trapped trap) = Unit {0}
Sound m Stuck = ⊥

-- what is reached from the beginning by units, under any number of pages at each, and by answers, with any memory that the host leaves
pub data Reached : Module → Outcome → Type 0 where
  start : (m : Module) → Reached m (Goes (begin m))
  step : (m : Module) (pages : ℕ) (t : Thread) → Reached m (Goes t) → Reached m (unit m pages t)
  reply : (m : Module) (h : HostName) (args : List ℕ) (t : Thread) (memory : List ℕ) (answer : Option ℕ) → Reached m (Calls h args t)
      → IsMemory (memory_of m) memory → IsAnswer h answer
      → Reached m (Goes (answered (with_memory t memory) answer))
