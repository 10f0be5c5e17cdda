-- Typings of instructions, as derivations (3.3). Types of operands are listed topmost first, labels innermost first.
use Rattle.std.specs.Prelude.{ℕ, ◌≡◌, ◌<◌, ◌≤◌, ◌^◌, true, List, [], ◌∷◌, ◌++◌, reverse, Option, Some, None, slice_get}
use Rattle.wasm_ast.specs.declared.val_types.ValType.{ValType}
use Rattle.wasm_ast.specs.declared.val_types.ValType.TheVariants.{I32, I64}
use Rattle.wasm_ast.specs.declared.trees.Seq.{Seq}
use Rattle.wasm_ast.specs.declared.trees.Instr.{Instr}
use Rattle.wasm_ast.specs.declared.trees.Instr.TheOpen.{Instr-F}
use Rattle.wasm_ast.specs.declared.func_types.FuncType.{FuncType}
use Rattle.wasm_ast.specs.declared.global_vars.GlobalVar.{GlobalVar}
use Rattle.wasm_ast.specs.declared.tables.Table.{Table}
use Rattle.wasm_ast.specs.declared.memory_types.MemoryType.{MemoryType}
use Rattle.wasm_ast.specs.declared.modules.Module.{Module}
use Rattle.wasm_ast.specs.Trees.{Layer, layer}
use Rattle.wasm_ast.specs.Spaces.{Function, type_of, table_of, memory_of}
use Rattle.wasm_ast.specs.Operators.{OperatorType, operator_type, Access, load_of, store_of}

-- what stays the same within a body: the module, the types of the locals, and what the function returns (3.1.1)
pub record Context : Type 0 where
  pub program : Module
  pub locals : List ValType
  pub returns : List ValType

-- parameters come before the locals that are declared
abbrev pub context_of : Module → Function → Context
context_of m fn = record { program = m; locals = fn.signature.params ++ fn.declared; returns = fn.signature.results }

-- what a block leaves
abbrev pub results : Option ValType → List ValType
results None = []
results (Some t) = t ∷ []

-- a branch to each of these labels takes ts
abbrev pub Lead : List (List ValType) → List ValType → List ℕ → Type 0
Lead labels ts [] = Unit {0}
Lead labels ts (n ∷ ns) = (slice_get labels n ≡ Some ts) × Lead labels ts ns

-- these types on top become those, and the same types stand below on both sides
abbrev pub Changes : List ValType → List ValType → List ValType → List ValType → Type 0
Changes ts us before after = (below : List ValType) × (before ≡ ts ++ below) × (after ≡ us ++ below)

-- these types are on top
abbrev pub Tops : List ValType → List ValType → Type 0
Tops ts before = (below : List ValType) × (before ≡ ts ++ below)

-- the module has a memory
abbrev pub HasMemory : Context → Type 0
HasMemory c = (t : MemoryType) × (memory_of c.program ≡ Some t)

-- the module has a table
abbrev pub HasTable : Context → Type 0
HasTable c = (t : Table) × (table_of c.program ≡ Some t)

-- what an instruction without parts takes and leaves; labels are what a branch to each open block takes
abbrev pub Plain : Context → List (List ValType) → Layer → List ValType → List ValType → Type 0
Plain c labels Instr-F.Unreachable before after = Unit {0}
Plain c labels Instr-F.Nop before after = after ≡ before
Plain c labels (Instr-F.Block bt body) before after = ⊥
Plain c labels (Instr-F.Loop bt body) before after = ⊥
Plain c labels (Instr-F.If bt first second) before after = ⊥
Plain c labels (Instr-F.Br n) before after = (ts : List ValType) × (slice_get labels n ≡ Some ts) × Tops ts before
Plain c labels (Instr-F.BrIf n) before after =
    (ts : List ValType) × (slice_get labels n ≡ Some ts) × Changes (I32 ∷ ts) ts before after
Plain c labels (Instr-F.BrTable ns n) before after =
    (ts : List ValType) × (Lead labels ts ns) × (slice_get labels n ≡ Some ts) × Tops (I32 ∷ ts) before
Plain c labels Instr-F.Return before after = Tops c.returns before
Plain c labels (Instr-F.Call x) before after =
    (ft : FuncType) × (type_of c.program x ≡ Some ft) × Changes (reverse ft.params) ft.results before after
Plain c labels (Instr-F.CallIndirect k) before after =
    (ft : FuncType) × (slice_get c.program.types k ≡ Some ft) × HasTable c
    × Changes (I32 ∷ reverse ft.params) ft.results before after
Plain c labels Instr-F.Drop before after = (t : ValType) × (before ≡ t ∷ after)
Plain c labels Instr-F.Select before after = (t : ValType) × Changes (I32 ∷ t ∷ t ∷ []) (t ∷ []) before after
Plain c labels (Instr-F.LocalGet x) before after = (t : ValType) × (slice_get c.locals x ≡ Some t) × (after ≡ t ∷ before)
Plain c labels (Instr-F.LocalSet x) before after = (t : ValType) × (slice_get c.locals x ≡ Some t) × (before ≡ t ∷ after)
Plain c labels (Instr-F.LocalTee x) before after =
    (t : ValType) × (slice_get c.locals x ≡ Some t) × Changes (t ∷ []) (t ∷ []) before after
Plain c labels (Instr-F.GlobalGet x) before after =
    (g : GlobalVar) × (slice_get c.program.globals x ≡ Some g) × (after ≡ g.val_type ∷ before)
Plain c labels (Instr-F.GlobalSet x) before after =
    (g : GlobalVar) × (slice_get c.program.globals x ≡ Some g) × (g.mutable ≡ true) × (before ≡ g.val_type ∷ after)
Plain c labels (Instr-F.Load op align offset) before after =
    (a : Access) × (load_of op ≡ Some a) × (2 ^ align ≤ a.width) × HasMemory c
    × Changes (I32 ∷ []) (a.val_type ∷ []) before after
Plain c labels (Instr-F.Store op align offset) before after =
    (a : Access) × (store_of op ≡ Some a) × (2 ^ align ≤ a.width) × HasMemory c × (before ≡ a.val_type ∷ I32 ∷ after)
Plain c labels Instr-F.MemorySize before after = (t : MemoryType) × (memory_of c.program ≡ Some t) × (after ≡ I32 ∷ before)
Plain c labels Instr-F.MemoryGrow before after =
    (t : MemoryType) × (memory_of c.program ≡ Some t) × Changes (I32 ∷ []) (I32 ∷ []) before after
Plain c labels Instr-F.MemoryCopy before after =
    (t : MemoryType) × (memory_of c.program ≡ Some t) × (before ≡ I32 ∷ I32 ∷ I32 ∷ after)
Plain c labels Instr-F.MemoryFill before after =
    (t : MemoryType) × (memory_of c.program ≡ Some t) × (before ≡ I32 ∷ I32 ∷ I32 ∷ after)
Plain c labels (Instr-F.I32Const n) before after = (n < 2 ^ 32) × (after ≡ I32 ∷ before)
Plain c labels (Instr-F.I64Const n) before after = (n < 2 ^ 64) × (after ≡ I64 ∷ before)
Plain c labels (Instr-F.Num op) before after =
    (o : OperatorType) × (operator_type op ≡ Some o) × Changes o.takes (o.leaves ∷ []) before after
Plain c labels (Instr-F.FloatMemory op align offset) before after = ⊥
Plain c labels (Instr-F.F32Const n) before after = ⊥
Plain c labels (Instr-F.F64Const n) before after = ⊥
Plain c labels (Instr-F.FloatOp op) before after = ⊥

mutual
  -- one instruction: a branch to a block or an if takes what it leaves, a branch to a loop takes nothing (3.3.5)
  pub data Step : Context → List (List ValType) → Instr → List ValType → List ValType → Type 0 where
    plain : (c : Context) (labels : List (List ValType)) (i : Instr) (before after : List ValType)
        → Plain c labels (layer i) before after → Step c labels i before after
    block : (c : Context) (labels : List (List ValType)) (i : Instr) (bt : Option ValType) (body : Seq) (before after : List ValType)
        → layer i ≡ Instr-F.Block bt body
        → Types c (results bt ∷ labels) body.items [] (results bt)
        → after ≡ results bt ++ before → Step c labels i before after
    loops : (c : Context) (labels : List (List ValType)) (i : Instr) (bt : Option ValType) (body : Seq) (before after : List ValType)
        → layer i ≡ Instr-F.Loop bt body
        → Types c ([] ∷ labels) body.items [] (results bt)
        → after ≡ results bt ++ before → Step c labels i before after
    ifs : (c : Context) (labels : List (List ValType)) (i : Instr) (bt : Option ValType) (first second : Seq)
        (before below after : List ValType)
        → layer i ≡ Instr-F.If bt first second
        → Types c (results bt ∷ labels) first.items [] (results bt)
        → Types c (results bt ∷ labels) second.items [] (results bt)
        → before ≡ I32 ∷ below → after ≡ results bt ++ below → Step c labels i before after

  -- a list: nothing, or its first part and then its last instruction (3.3.6)
  pub data Types : Context → List (List ValType) → List Instr → List ValType → List ValType → Type 0 where
    empty : (c : Context) (labels : List (List ValType)) (ts : List ValType) → Types c labels [] ts ts
    more : (c : Context) (labels : List (List ValType)) (code first : List Instr) (last : Instr)
        (before between after : List ValType)
        → code ≡ first ++ last ∷ []
        → Types c labels first before between → Step c labels last between after → Types c labels code before after

-- a function's code leaves its results from no operands, and so does a branch to its own level (3.4.1)
abbrev pub IsTyped : Module → Function → Type 0
IsTyped m fn = Types (context_of m fn) (fn.signature.results ∷ []) fn.code [] fn.signature.results
