-- One unit: an instruction from the front of the running code, or the leaving of a block or a function at its end.
use Rattle.std.specs.Prelude.{ℕ, zero, suc, ◌+◌, if◌then◌else◌, nat_eq, List, [], ◌∷◌, ◌++◌, length, get_or, slice_get}
use Rattle.std.specs.Prelude.{Option, Some, None, option_to_list}
use Rattle.wasm_ast.specs.declared.trees.Instr.{Instr}
use Rattle.wasm_ast.specs.declared.trees.Instr.TheOpen.{Instr-F}
use Rattle.wasm_ast.specs.declared.modules.Module.{Module}
use Rattle.wasm_ast.specs.Trees.{Layer, layer}
use Rattle.wasm_ast.specs.Typing.{results}
use Rattle.wasm_semantics.specs.declared.traps.Trap.TheVariants as trap
use Rattle.wasm_semantics.specs.Data.{Data, DataEffect, Moves, Traps, Wrong, with_top, with_some, effect_of}
use Rattle.wasm_semantics.specs.Threads.{Thread, Outcome, Goes, Calls, Done, Trapped, Stuck, too_much}
use Rattle.wasm_semantics.specs.Control.{Spot, thread_at, spot_of, level_with, spot_with, behind}
use Rattle.wasm_semantics.specs.Control.{onto, finish, branch_at, enter, leave, call, indirect}

-- what an instruction on data sees there
abbrev pub data_of : Spot → Data
data_of p = record { memory = p.store.memory; globals = p.store.globals; locals = p.locals; values = p.level.values }

-- the same place with other data
abbrev pub spot_on : Spot → Data → Spot
spot_on p d = record {
  store = record { memory = d.memory; globals = d.globals; table = p.store.table };
  locals = d.locals;
  gives = p.gives;
  frames = p.frames;
  level = level_with p.level d.values p.level.code;
  levels = p.levels;
}

-- behind an instruction that moves data
abbrev pub applied : Spot → DataEffect → Outcome
applied p (Moves d) = Goes (thread_at (spot_on p d))
applied p (Traps t) = Trapped t
applied p Wrong = Stuck

-- the instruction i, by its outer layer, where a thread runs behind it and a memory may have this many pages; a branch to a loop
-- takes the loop again
abbrev pub act : Module → ℕ → Instr → Layer → Spot → Outcome
act m pages i Instr-F.Unreachable p = Trapped trap.Unreachable
act m pages i (Instr-F.Block bt body) p = enter p p.level.values body.items (length (results bt)) p.level.code
act m pages i (Instr-F.Loop bt body) p = enter p p.level.values body.items 0 (i ∷ p.level.code)
act m pages i (Instr-F.If bt first second) p =
    with_top Stuck p.level.values (λ v vs. enter p vs (if nat_eq v 0 then second.items else first.items) (length (results bt)) p.level.code)
act m pages i (Instr-F.Br n) p = branch_at p n p.level.values
act m pages i (Instr-F.BrIf n) p = with_top Stuck p.level.values (λ v vs. if nat_eq v 0 then onto p vs else branch_at p n vs)
act m pages i (Instr-F.BrTable ns n) p = with_top Stuck p.level.values (λ v vs. branch_at p (get_or ns v n) vs)
act m pages i Instr-F.Return p = finish p p.level.values
act m pages i (Instr-F.Call x) p = call m x p p.level.values
act m pages i (Instr-F.CallIndirect k) p =
    with_some Stuck (slice_get m.types k) (λ ft. with_top Stuck p.level.values (λ v vs. indirect m ft p vs (slice_get p.store.table v)))
act m pages i y p = applied p (effect_of m pages y (data_of p))

-- the first instruction of this code is taken and carried out; where there is none, the innermost level is left
abbrev pub unit_front : Module → ℕ → List Instr → Spot → Outcome
unit_front m pages [] p = leave p
unit_front m pages (i ∷ rest) p = act m pages i (layer i) (spot_with p p.level.values rest)

-- the same of the code of the innermost level
abbrev pub unit_at : Module → ℕ → Spot → Outcome
unit_at m pages p = unit_front m pages p.level.code p

-- a unit that would leave too much traps, after the traps of its instruction
abbrev pub limited : Outcome → Outcome
limited (Goes t) = if too_much t then Trapped trap.Stack else Goes t
limited (Calls h args t) = if too_much t then Trapped trap.Stack else Calls h args t
limited Done = Done
limited (Trapped t) = Trapped t
limited Stuck = Stuck

-- one unit of a thread of the module, where a memory may have this many pages
unfoldable pub unit : Module → ℕ → Thread → Outcome
unit m pages t = limited (with_some Stuck (spot_of t) (unit_at m pages))

-- how many units were done, and what the last came to
pub record Course : Type 0 where
  pub used : ℕ
  pub stop : Outcome

-- on with the thread, or what the unit came to
abbrev pub after_unit : Outcome → ℕ → (Thread → Course) → Course
after_unit (Goes t) used go = go t
after_unit (Calls h args t) used go = record { used = used; stop = Calls h args t }
after_unit Done used go = record { used = used; stop = Done }
after_unit (Trapped t) used go = record { used = used; stop = Trapped t }
after_unit Stuck used go = record { used = used; stop = Stuck }

-- at most n more units, where some are done
abbrev pub units_from : Module → ℕ → ℕ → ℕ → Thread → Course
units_from m pages used zero t = record { used = used; stop = Goes t }
units_from m pages used (suc n) t = after_unit (unit m pages t) (used + 1) (units_from m pages (used + 1) n)

-- at most n units, up to the first that gives no thread to go on with
unfoldable pub units : Module → ℕ → Thread → ℕ → Course
units m pages t n = units_from m pages 0 n t

-- the thread with another memory, as the host leaves it
abbrev pub with_memory : Thread → List ℕ → Thread
with_memory t memory = record { store = record { memory = memory; globals = t.store.globals; table = t.store.table }; frames = t.frames }

-- these operands onto those of the innermost level
abbrev pub answered_at : Thread → List ℕ → Option Spot → Thread
answered_at t vs None = t
answered_at t vs (Some p) = behind p (vs ++ p.level.values)

-- a thread that waits, with the answer, if any, as an operand
abbrev pub answered : Thread → Option ℕ → Thread
answered t answer = answered_at t (option_to_list answer) (spot_of t)
