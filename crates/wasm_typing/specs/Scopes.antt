-- What the code of a body stands in, and what an instruction makes of the operands there.
use Rattle.std.specs.Prelude.{Bool, List, [], ◌++◌, ◌↔◌, map, Option, Result, IfOk, IsTrue}
use Rattle.wasm_ast.specs.declared.val_types.ValType.{ValType}
use Rattle.wasm_ast.specs.declared.trees.Instr.{Instr}
use Rattle.wasm_ast.specs.Trees.{Layer}
use Rattle.wasm_ast.specs.Typing.{Context, results, Plain, Step, Types}
use Rattle.wasm_typing.specs.declared.scopes.Scope.{Scope}
use Rattle.wasm_typing.specs.declared.operands.Operands.{Operands}
use Rattle.wasm_typing.specs.Operands.{Stand, Image}

abbrev pub context_in : Scope → Context
context_in s = record { program = s.program.now; locals = s.params.now ++ s.declared.now; returns = results s.returns }

-- what a branch to each open block takes
abbrev pub labels_of : List (Option ValType) → List (List ValType)
labels_of labels = map results labels

-- the operands that an instruction without parts leaves, if it has a typing there
abbrev pub TypeEffect : Scope → List (Option ValType) → Layer → Operands → Operands → Bool → Type 0
TypeEffect s labels y old new ok = Image (Plain (context_in s) (labels_of labels) y) (Stand old) (Stand new) ok

-- the same where the answer is not that memory is wanting
abbrev pub EffectHere : {E : Type 0} → Scope → List (Option ValType) → Layer → Operands → Operands
    → Result Bool E → Type 0
EffectHere s labels y old new told = IfOk told (λ ok. TypeEffect s labels y old new ok)

-- the same within any open blocks
abbrev pub EffectAnywhere : {E : Type 0} → Scope → Layer → Operands → Operands → Result Bool E → Type 0
EffectAnywhere s y old new told = IfOk told (λ ok. (labels : List (Option ValType)) → TypeEffect s labels y old new ok)

-- what any instruction makes of the operands, if it has a typing there
abbrev pub Stepped : Scope → List (Option ValType) → Instr → Operands → Operands → Bool → Type 0
Stepped s labels i old new ok = Image (Step (context_in s) (labels_of labels) i) (Stand old) (Stand new) ok

-- the answer is true exactly where the code leaves this from no operands, unless out of memory
abbrev pub TellsTyping : {E : Type 0} → Context → List (List ValType) → List Instr → List ValType → Result Bool E → Type 0
TellsTyping c labels code leaves told = IfOk told (λ typed. IsTrue typed ↔ Types c labels code [] leaves)
