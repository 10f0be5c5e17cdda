use Rattle.std.proofs.Common.{List, [], ◌∷◌}
use Rattle.std.specs.Prelude.{Option}
use Rattle.wasm_ast.specs.declared.val_types.ValType.{ValType}
use Rattle.wasm_ast.specs.declared.val_types.ValType.TheVariants.{I32}
use Rattle.wasm_ast.specs.declared.trees.Instr.TheOpen.{Instr-F}
use Rattle.wasm_ast.specs.Typing.{Changes}
use Rattle.wasm_typing.specs.Operands.{Stand, Image}
use Rattle.wasm_typing.specs.Scopes.{TypeEffect}
use Rattle.wasm_typing.proofs.Effects.{if_ok, memory_size_effect}
use Rattle.wasm_typing.proofs.scopes.Scope.memory_size.Goals as goal

pub returns-in-Some : goal.returns-in-Some
returns-in-Some c =
    let s = c.args.self in
    let old = c.args.operands.now in
    if_ok c.exchange.result (λ ok. Image (Changes [] (I32 ∷ [])) (Stand old) (Stand c.exchange.new.self) ok) (λ ok. (ls : List (Option ValType)) → TypeEffect s ls (Instr-F.MemorySize) old c.exchange.new.self ok)
    (λ ok h. memory_size_effect s old c.exchange.new.self c.in-Some.field-0.now ok c.in-Some.ensures h) c.exchange.ensures
