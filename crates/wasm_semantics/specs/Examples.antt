-- Small threads that the worked examples speak of.
use Rattle.std.specs.Prelude.{ℕ, List, [], ◌∷◌, replicate}
use Rattle.wasm_ast.specs.declared.trees.Instr.{Instr}
use Rattle.wasm_ast.specs.declared.trees.Instr.TheVariants as V
use Rattle.wasm_ast.specs.Bytes.{first_memory}
use Rattle.wasm_ast.specs.TestModules.{echo, spin, spin_code}
use Rattle.wasm_semantics.specs.Threads.{Store, Level, Frame, Thread}

-- a level to which no branch leads
abbrev pub level : List ℕ → List Instr → Level
level values code = record { values = values; code = code; keeps = 0; target = [] }

-- a frame without locals and results
abbrev pub frame : List Level → Frame
frame levels = record { locals = []; levels = levels; gives = 0 }

-- a thread of one such frame
abbrev pub lone : Store → List Level → Thread
lone st levels = record { store = st; frames = frame levels ∷ [] }

-- the store that it begins with
abbrev pub echo_store : Store
echo_store = record { memory = first_memory echo; globals = []; table = [] }

-- the echo module at its first host call
abbrev pub echo_asks : Thread
echo_asks = lone echo_store (level (0 ∷ []) (V.Call 1 ∷ []) ∷ [])

-- the store that the endless loop begins with
abbrev pub spin_store : Store
spin_store = record { memory = first_memory spin; globals = []; table = [] }

-- the endless loop, where its block is open and its branch comes next
abbrev pub spin_inside : Thread
spin_inside = lone spin_store (record { values = []; code = V.Br 0 ∷ []; keeps = 0; target = spin_code } ∷ level [] [] ∷ [])

-- an open block with a result, over a function's own level
abbrev pub opened_block : List Instr → List Instr → List Level
opened_block code rest = record { values = []; code = code; keeps = 1; target = rest } ∷ level [] rest ∷ []

-- the same at its end, with its one operand
abbrev pub ended_block : ℕ → List Instr → List Level
ended_block n rest = record { values = n ∷ []; code = []; keeps = 1; target = rest } ∷ level [] rest ∷ []

-- a store of a memory alone
abbrev pub memory_alone : List ℕ → Store
memory_alone bytes = record { memory = bytes; globals = []; table = [] }

-- the module that fills and copies at its host call: the eight bytes that it replies with, and zeros
abbrev pub fill_asks : Thread
fill_asks = lone (memory_alone (7 ∷ 7 ∷ 7 ∷ 0 ∷ 128 ∷ 255 ∷ 255 ∷ 255 ∷ replicate 65528 0)) (level [] [] ∷ [])

-- a thread with these operands before its only instruction
abbrev pub poised : Store → List ℕ → Instr → Thread
poised st values i = lone st (level values (i ∷ []) ∷ [])

-- a thread with these operands at its end
abbrev pub passed : Store → List ℕ → Thread
passed st values = lone st (level values [] ∷ [])

-- an open block with these operands and this code, to which a branch keeps so many values and goes on at target
abbrev pub block : List ℕ → List Instr → ℕ → List Instr → Level
block values code keeps target = record { values = values; code = code; keeps = keeps; target = target }

-- a frame whose function has one result
abbrev pub giving : List Level → Frame
giving levels = record { locals = []; levels = levels; gives = 1 }
