-- What a unit answers, where several frames stand.
use Rattle.std.specs.Prelude.{ℕ, ◌-◌, ◌+◌, ◌<◌, ◌≤◌, ◌≡◌, List, [], length}
use Rattle.wasm_ast.specs.declared.hosts.HostName.{HostName}
use Rattle.wasm_ast.specs.declared.modules.Module.{Module}
use Rattle.wasm_ast.specs.Hosts.{host_params}
use Rattle.wasm_semantics.specs.Operators.{truth}
use Rattle.wasm_semantics.specs.Threads.{Store, Thread, Outcome, Goes, Calls, Trapped, Done, values_of}
use Rattle.wasm_data.specs.Cuts.{above}
use Rattle.wasm_data.specs.Marked.{locals_in, operands_in}
use Rattle.wasm_blocks.specs.declared.open.Open.{Open}
use Rattle.wasm_blocks.specs.Levels.{values_in, HasKept}
use Rattle.wasm_frames.specs.declared.active.Active.{Active}
use Rattle.wasm_frames.specs.declared.turns.Turn.{Turn}
use Rattle.wasm_frames.specs.declared.turns.Turn.TheVariants as turn
use Rattle.wasm_frames.specs.Standing.{Surroundings, thread_in, IsStanding, IsPlaced}

-- the innermost level has what a return keeps
abbrev pub CanReturn : Active → List ℕ → List Open → Type 0
CanReturn a values opens =
    let operands = operands_in a.hot.marks.floor a.hot.marks.sp values in
    truth a.gives ≤ length (values_in (above a.hot.low opens) operands)

-- the innermost level has what a branch to this label keeps, and the label is that of a block or of the function
pub record CanBranch (a : Active) (label : ℕ) (values : List ℕ) (opens : List Open) : Type 0 where
  pub kept : HasKept (above a.hot.low opens) label (operands_in a.hot.marks.floor a.hot.marks.sp values)
  pub inside : label ≤ length opens - a.hot.low
  pub returns : label ≡ length opens - a.hot.low → CanReturn a values opens

-- it goes on with this frame
pub record Went (m : Module) (outcome : Outcome) (st : Store) (h : Surroundings) (a : Active) : Type 0 where
  pub is : outcome ≡ Goes (thread_in m st a h)
  pub stands : IsStanding a h
  pub placed : IsPlaced m a h

-- it asks the host, and this frame waits: the arguments lie behind its operands, and there is a place for an answer
pub record AsksHost (m : Module) (outcome : Outcome) (st : Store) (h : Surroundings) (name : HostName) (a : Active) : Type 0 where
  pub is : (let sp = a.hot.marks.sp in
      outcome ≡ Calls name (locals_in sp (sp + length (host_params name)) h.values) (thread_in m st a h))
  pub stands : IsStanding a h
  pub placed : IsPlaced m a h
  pub room : a.hot.marks.sp + length (host_params name) ≤ length h.values

-- no more frames and no more blocks
pub record IsNoLarger (was h : Surroundings) : Type 0 where
  pub frames : length h.places ≤ length was.places
  pub blocks : length h.opens ≤ length was.opens

-- it goes on with more values than there is room for
pub record IsPast (outcome : Outcome) (was : Surroundings) : Type 0 where
  pub thread : Thread
  pub is : outcome ≡ Goes thread
  pub past : length was.values < values_of thread.frames

-- there is a frame below, and no code of it
pub record IsCold (h : Surroundings) : Type 0 where
  pub none : h.codes ≡ []
  pub some : 0 < length h.places

-- what was answered is the outcome; for want of room or of code nothing has changed
abbrev pub Answered : Module → Outcome → Store → Store → Surroundings → Surroundings → Turn → Type 0
Answered m outcome st st' was h (turn.Goes a) = Went m outcome st' h a × IsNoLarger was h
Answered m outcome st st' was h (turn.Grew a) = Went m outcome st' h a
Answered m outcome st st' was h (turn.Trapped t) = outcome ≡ Trapped t
Answered m outcome st st' was h turn.Done = outcome ≡ Done
Answered m outcome st st' was h (turn.Asks name a) = AsksHost m outcome st' h name a × IsNoLarger was h
Answered m outcome st st' was h turn.Full = (st' ≡ st) × (h ≡ was) × IsPast outcome was
Answered m outcome st st' was h turn.Cold = (st' ≡ st) × (h ≡ was) × IsCold was
Answered m outcome st st' was h turn.NoMemory = Unit {0}

-- what a thread may have: an array of 65,536 values, 1,024 frames with the one that runs, and 16,384 blocks
pub record IsBounded (h : Surroundings) : Type 0 where
  pub values : length h.values ≤ 65536
  pub frames : length h.places ≤ 1023
  pub blocks : length h.opens ≤ 16384

-- the same of an outcome under the limits
abbrev pub Bounded : Module → Outcome → Store → Store → Surroundings → Surroundings → Turn → Type 0
Bounded m outcome st st' was h (turn.Goes a) = Went m outcome st' h a × IsBounded h
Bounded m outcome st st' was h (turn.Grew a) = ⊥
Bounded m outcome st st' was h (turn.Trapped t) = outcome ≡ Trapped t
Bounded m outcome st st' was h turn.Done = outcome ≡ Done
Bounded m outcome st st' was h (turn.Asks name a) = AsksHost m outcome st' h name a × IsBounded h
Bounded m outcome st st' was h turn.Full = (st' ≡ st) × (h ≡ was) × (length was.values < 65536)
Bounded m outcome st st' was h turn.Cold = (st' ≡ st) × (h ≡ was) × IsCold was
Bounded m outcome st st' was h turn.NoMemory = Unit {0}
