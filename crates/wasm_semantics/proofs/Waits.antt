-- Host calls: their arguments, and their answers.
use Rattle.std.proofs.Common.{◌≡◌, ◌<◌, ◌^◌, ℕ, List, [], ◌∷◌, length, take, refl, lit<}
use Rattle.std.specs.Prelude.{Option, option_to_list}
use Rattle.wasm_ast.specs.declared.val_types.ValType.{ValType}
use Rattle.wasm_ast.specs.declared.val_types.ValType.TheVariants.{I32}
use Rattle.wasm_ast.specs.declared.hosts.HostName.{HostName}
use Rattle.wasm_ast.specs.declared.hosts.HostName.TheVariants.{Input, Read, Write, Delete, Send, Raise, Reply, OwnLabel, Release}
use Rattle.wasm_ast.specs.declared.modules.Module.{Module}
use Rattle.wasm_ast.specs.Spaces.{memory_of}
use Rattle.wasm_ast.specs.Hosts.{host_params}
use Rattle.wasm_semantics.specs.Threads.{Store, Level, Frame, Thread}
use Rattle.wasm_semantics.specs.Control.{spot_in, first_spot}
use Rattle.wasm_semantics.specs.Units.{answered_at, answered, with_memory}
use Rattle.wasm_semantics.specs.OfModule.{Holds, IsMemory, IsAnswer, IsWaiting, IsOf}
use Rattle.wasm_semantics.specs.Laws.{in_four_places}

abbrev stored : List ℕ → Store → Store
stored memory st = record { memory = memory; globals = st.globals; table = st.table }

pub answer_is_of : (m : Module) (h : HostName) (t : Thread) (answer : Option ℕ) → IsWaiting m h t → IsMemory (memory_of m) t.store.memory → IsAnswer h answer → IsOf m (answered t answer)
answer_is_of m h t answer waits fits given = waits t.store.memory answer fits given

level_store : (t : Thread) (st : Store) (f : Frame) (fs : List Frame) (vs : List ℕ) (levels : List Level) → t.store ≡ st → (answered_at t vs (spot_in st f fs levels)).store ≡ st
level_store t st f fs vs [] e = e
level_store t st f fs vs (l ∷ ls) e = refl

frames_store : (t : Thread) (vs : List ℕ) (frames : List Frame) → (answered_at t vs (first_spot t.store frames)).store ≡ t.store
frames_store t vs [] = refl
frames_store t vs (f ∷ fs) = level_store t t.store f fs vs f.levels refl

pub answer_keeps_store : (t : Thread) (answer : Option ℕ) → (answered t answer).store ≡ t.store
answer_keeps_store t answer = frames_store t (option_to_list answer) t.frames

level_memory : (t : Thread) (memory : List ℕ) (st : Store) (f : Frame) (fs : List Frame) (vs : List ℕ) (levels : List Level)
    → t.store ≡ st → answered_at (with_memory t memory) vs (spot_in (stored memory st) f fs levels) ≡ with_memory (answered_at t vs (spot_in st f fs levels)) memory
level_memory t memory st f fs vs [] e = refl
level_memory t memory st f fs vs (l ∷ ls) e = refl

frames_memory : (t : Thread) (memory vs : List ℕ) (frames : List Frame)
    → answered_at (with_memory t memory) vs (first_spot (stored memory t.store) frames) ≡ with_memory (answered_at t vs (first_spot t.store frames)) memory
frames_memory t memory vs [] = refl
frames_memory t memory vs (f ∷ fs) = level_memory t memory t.store f fs vs f.levels refl

pub answer_and_memory : (t : Thread) (memory : List ℕ) (answer : Option ℕ) → answered (with_memory t memory) answer ≡ with_memory (answered t answer) memory
answer_and_memory t memory answer = frames_memory t memory (option_to_list answer) t.frames

-- the arguments
abbrev AreFour : List ℕ → Type 0
AreFour args = Holds (I32 ∷ I32 ∷ I32 ∷ I32 ∷ []) args

abbrev Placed : List ValType → List ℕ → Type 0
Placed ts args = AreFour (in_four_places args) × (take (length ts) (in_four_places args) ≡ args)

zero_fits : 0 < 2 ^ 32
zero_fits = lit< tt

two_placed : (args : List ℕ) → Holds (I32 ∷ I32 ∷ []) args → Placed (I32 ∷ I32 ∷ []) args
two_placed [] h = absurd h
two_placed (a ∷ []) h = absurd h.1
two_placed (a ∷ b ∷ []) h = ((h.0, (h.1.0, (zero_fits, (zero_fits, tt)))), refl)
two_placed (a ∷ b ∷ c ∷ args) h = absurd h.1.1

four_placed : (args : List ℕ) → AreFour args → Placed (I32 ∷ I32 ∷ I32 ∷ I32 ∷ []) args
four_placed [] h = absurd h
four_placed (a ∷ []) h = absurd h.1
four_placed (a ∷ b ∷ []) h = absurd h.1.1
four_placed (a ∷ b ∷ c ∷ []) h = absurd h.1.1.1
four_placed (a ∷ b ∷ c ∷ d ∷ []) h = (h, refl)
four_placed (a ∷ b ∷ c ∷ d ∷ e ∷ args) h = absurd h.1.1.1.1

placed : (h : HostName) (args : List ℕ) → Holds (host_params h) args → Placed (host_params h) args
placed Input args g = two_placed args g
placed Read args g = four_placed args g
placed Write args g = four_placed args g
placed Delete args g = two_placed args g
placed Send args g = four_placed args g
placed Raise args g = two_placed args g
placed Reply args g = two_placed args g
placed OwnLabel args g = two_placed args g
placed Release args g = four_placed args g

pub four_fit : (h : HostName) (args : List ℕ) → Holds (host_params h) args → AreFour (in_four_places args)
four_fit h args g = (placed h args g).0

pub first_places : (h : HostName) (args : List ℕ) → Holds (host_params h) args → take (length (host_params h)) (in_four_places args) ≡ args
first_places h args g = (placed h args g).1
