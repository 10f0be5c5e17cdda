-- Threads (4.2): a memory, globals, a table, and frames with blocks. Code that remains is a list of instructions.
use Rattle.std.specs.Prelude.{ℕ, ◌+◌, ◌-◌, Bool, ◌||◌, nat_lt, List, [], ◌∷◌, length, Option}
use Rattle.wasm_ast.specs.declared.trees.Instr.{Instr}
use Rattle.wasm_ast.specs.declared.hosts.HostName.{HostName}
use Rattle.wasm_semantics.specs.declared.traps.Trap.{Trap}

-- what all frames share (4.2.3); an entry of the table is a function's index, where it is set
pub record Store : Type 0 where
  pub memory : List ℕ
  pub globals : List ℕ
  pub table : List (Option ℕ)

-- an open block, or the function's own level (4.2.12): its operands, the topmost first, the instructions that remain,
-- how many operands a branch to it keeps, and the instructions where such a branch goes on
pub record Level : Type 0 where
  pub values : List ℕ
  pub code : List Instr
  pub keeps : ℕ
  pub target : List Instr

-- a call that has not returned (4.2.12): its locals, its levels, innermost first and the function's own last, and how many
-- values its return keeps
pub record Frame : Type 0 where
  pub locals : List ℕ
  pub levels : List Level
  pub gives : ℕ

-- the frame that runs comes first
pub record Thread : Type 0 where
  pub store : Store
  pub frames : List Frame

-- what a unit comes to: a thread, a host call with its arguments in order and the thread that waits, the end, a trap, or no rule
pub data Outcome : Type 0 where
  Goes : Thread → Outcome
  Calls : HostName → List ℕ → Thread → Outcome
  Done : Outcome
  Trapped : Trap → Outcome
  Stuck : Outcome

-- how many operands these levels have
abbrev pub values_in : List Level → ℕ
values_in [] = 0
values_in (l ∷ ls) = length l.values + values_in ls

-- how many operands and locals all frames have
abbrev pub values_of : List Frame → ℕ
values_of [] = 0
values_of (f ∷ fs) = length f.locals + values_in f.levels + values_of fs

-- how many blocks are open in all frames
abbrev pub blocks_of : List Frame → ℕ
blocks_of [] = 0
blocks_of (f ∷ fs) = (length f.levels - 1) + blocks_of fs

-- more than a thread may have
abbrev pub too_much : Thread → Bool
too_much t = nat_lt 65536 (values_of t.frames) || (nat_lt 1024 (length t.frames) || nat_lt 16384 (blocks_of t.frames))
