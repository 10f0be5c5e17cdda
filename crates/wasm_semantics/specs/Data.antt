-- Instructions that only move data: parametric, variable, memory and numeric ones (4.4.1 to 4.4.4).
use Rattle.std.specs.Prelude.{ℕ, ◌+◌, min, nat_lt, nat_eq, if◌then◌else◌, List, [], ◌∷◌, length, take, drop, slice_get, slice_set}
use Rattle.std.specs.Prelude.{Option, Some, None}
use Rattle.wasm_ast.specs.declared.trees.Instr.TheOpen.{Instr-F}
use Rattle.wasm_ast.specs.declared.modules.Module.{Module}
use Rattle.wasm_ast.specs.Trees.{Layer}
use Rattle.wasm_ast.specs.Spaces.{page_limit}
use Rattle.wasm_ast.specs.Operators.{Access, load_of, store_of}
use Rattle.wasm_ast.specs.Bytes.{in_pages}
use Rattle.wasm_ast.specs.Memory.{memory_load, memory_store, memory_grow, memory_copy, memory_fill}
use Rattle.wasm_num.specs.declared.operators.NumTrap.{NumTrap}
use Rattle.wasm_num.specs.declared.operators.NumTrap.TheVariants as num_trap
use Rattle.wasm_semantics.specs.declared.traps.Trap.{Trap}
use Rattle.wasm_semantics.specs.declared.traps.Trap.TheVariants as trap
use Rattle.wasm_semantics.specs.Operators.{operator_of, type_of_operator, Computed, Number, Fails, Missing, compute, read_as}

-- what such an instruction sees and changes: the operands of the innermost block are listed topmost first
pub record Data : Type 0 where
  pub memory : List ℕ
  pub globals : List ℕ
  pub locals : List ℕ
  pub values : List ℕ

-- the data after it, a trap, or no rule
pub data DataEffect : Type 0 where
  Moves : Data → DataEffect
  Traps : Trap → DataEffect
  Wrong : DataEffect

-- the topmost value, and those below
abbrev pub with_top : {R : Type 0} → R → List ℕ → (ℕ → List ℕ → R) → R
with_top bad [] go = bad
with_top bad (v ∷ vs) go = go v vs

-- the three topmost values, and those below
abbrev pub with_three : {R : Type 0} → R → List ℕ → (ℕ → ℕ → ℕ → List ℕ → R) → R
with_three bad values go = with_top bad values (λ x xs. with_top bad xs (λ y ys. with_top bad ys (go x y)))

-- what is there
abbrev pub with_some : {R A : Type 0} → R → Option A → (A → R) → R
with_some bad None go = bad
with_some bad (Some v) go = go v

-- the topmost n, and those below
abbrev pub split : {R : Type 0} → R → ℕ → List ℕ → (List ℕ → List ℕ → R) → R
split bad n values go = if nat_lt (length values) n then bad else go (take n values) (drop n values)

-- other operands, and nothing else
abbrev pub moves : Data → List ℕ → DataEffect
moves d values = Moves (record { memory = d.memory; globals = d.globals; locals = d.locals; values = values })

-- the trap of an operator
abbrev pub trap_of : NumTrap → Trap
trap_of num_trap.Divide = trap.Divide
trap_of num_trap.Overflow = trap.Overflow

-- what was computed, onto the operands below
abbrev pub computed : Data → List ℕ → Computed → DataEffect
computed d below (Number n) = moves d (n ∷ below)
computed d below (Fails t) = Traps (trap_of t)
computed d below Missing = Wrong

-- v for a condition other than 0, w for 0
abbrev pub chosen : ℕ → ℕ → ℕ → ℕ
chosen condition v w = if nat_eq condition 0 then w else v

-- a local is set
abbrev pub set_local : Data → ℕ → ℕ → List ℕ → DataEffect
set_local d x v values = Moves (record { memory = d.memory; globals = d.globals; locals = slice_set d.locals x v; values = values })

-- a global is set
abbrev pub set_global : Data → ℕ → ℕ → List ℕ → DataEffect
set_global d x v values = Moves (record { memory = d.memory; globals = slice_set d.globals x v; locals = d.locals; values = values })

-- the memory is another
abbrev pub set_memory : Data → List ℕ → List ℕ → DataEffect
set_memory d memory values = Moves (record { memory = memory; globals = d.globals; locals = d.locals; values = values })

-- the number that was found in the memory, as a value; a range that is not inside traps
abbrev pub fetched : Data → Access → Option ℕ → List ℕ → DataEffect
fetched d a None below = Traps trap.Memory
fetched d a (Some n) below = moves d (read_as a n ∷ below)

-- the memory after a write; a range that is not inside traps
abbrev pub written : Data → Option (List ℕ) → List ℕ → DataEffect
written d None below = Traps trap.Memory
written d (Some memory) below = set_memory d memory below

-- the memory after it grew, and the old size in pages; 4294967295 where it may not
abbrev pub sized : Data → Option (List ℕ) → List ℕ → DataEffect
sized d None below = moves d (4294967295 ∷ below)
sized d (Some memory) below = set_memory d memory (in_pages d.memory ∷ below)

-- the effect of an instruction, where a memory may have this many pages
abbrev pub effect_of : Module → ℕ → Layer → Data → DataEffect
effect_of m pages Instr-F.Nop d = moves d d.values
effect_of m pages Instr-F.Drop d = with_top Wrong d.values (λ v vs. moves d vs)
effect_of m pages Instr-F.Select d = with_three Wrong d.values (λ v b a vs. moves d (chosen v a b ∷ vs))
effect_of m pages (Instr-F.LocalGet x) d = with_some Wrong (slice_get d.locals x) (λ v. moves d (v ∷ d.values))
effect_of m pages (Instr-F.LocalSet x) d =
    with_some Wrong (slice_get d.locals x) (λ old. with_top Wrong d.values (λ v vs. set_local d x v vs))
effect_of m pages (Instr-F.LocalTee x) d =
    with_some Wrong (slice_get d.locals x) (λ old. with_top Wrong d.values (λ v vs. set_local d x v (v ∷ vs)))
effect_of m pages (Instr-F.GlobalGet x) d = with_some Wrong (slice_get d.globals x) (λ v. moves d (v ∷ d.values))
effect_of m pages (Instr-F.GlobalSet x) d =
    with_some Wrong (slice_get d.globals x) (λ old. with_top Wrong d.values (λ v vs. set_global d x v vs))
effect_of m pages (Instr-F.Load op align offset) d =
    with_some Wrong (load_of op) (λ k. with_top Wrong d.values (λ a vs. fetched d k (memory_load d.memory (a + offset) k.width) vs))
effect_of m pages (Instr-F.Store op align offset) d =
    with_some Wrong (store_of op) (λ k. with_top Wrong d.values (λ v vs.
    with_top Wrong vs (λ a ws. written d (memory_store d.memory (a + offset) k.width v) ws)))
effect_of m pages Instr-F.MemorySize d = moves d (in_pages d.memory ∷ d.values)
effect_of m pages Instr-F.MemoryGrow d = with_top Wrong d.values (λ v vs. sized d (memory_grow (min pages (page_limit m)) d.memory v) vs)
effect_of m pages Instr-F.MemoryCopy d = with_three Wrong d.values (λ n from to vs. written d (memory_copy d.memory to from n) vs)
effect_of m pages Instr-F.MemoryFill d = with_three Wrong d.values (λ n v at vs. written d (memory_fill d.memory at v n) vs)
effect_of m pages (Instr-F.I32Const n) d = moves d (n ∷ d.values)
effect_of m pages (Instr-F.I64Const n) d = moves d (n ∷ d.values)
effect_of m pages (Instr-F.Num op) d =
    with_some Wrong (operator_of op) (λ o.
    split Wrong (length (type_of_operator o).takes) d.values (λ args below. computed d below (compute o args)))
effect_of m pages _ d = Wrong
