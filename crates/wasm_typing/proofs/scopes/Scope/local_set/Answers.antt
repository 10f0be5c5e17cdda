use Rattle.std.proofs.Common.{List, [], ◌∷◌}
use Rattle.std.specs.Prelude.{Option}
use Rattle.wasm_ast.specs.declared.val_types.ValType.{ValType}
use Rattle.wasm_ast.specs.declared.trees.Instr.TheOpen.{Instr-F}
use Rattle.wasm_ast.specs.Typing.{Changes}
use Rattle.wasm_typing.specs.Operands.{Stand, Image}
use Rattle.wasm_typing.specs.Scopes.{TypeEffect}
use Rattle.wasm_typing.proofs.Effects.{if_ok, local_set_effect}
use Rattle.wasm_typing.proofs.scopes.Scope.local_set.Goals as goal

pub returns-in-Some : goal.returns-in-Some
returns-in-Some c =
    let s = c.args.self in
    let old = c.args.operands.now in
    if_ok c.exchange.result (λ ok. Image (Changes (c.in-Some.val_type ∷ []) []) (Stand old) (Stand c.exchange.new.self) ok) (λ ok. (ls : List (Option ValType)) → TypeEffect s ls (Instr-F.LocalSet c.args.index) old c.exchange.new.self ok)
    (λ ok h. local_set_effect s old c.exchange.new.self c.args.index c.in-Some.val_type ok c.in-Some.ensures h) c.exchange.ensures
