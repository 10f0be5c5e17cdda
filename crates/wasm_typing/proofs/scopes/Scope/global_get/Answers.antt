use Rattle.std.proofs.Common.{subst, List, [], ◌∷◌}
use Rattle.std.specs.Prelude.{Option}
use Rattle.wasm_ast.specs.declared.val_types.ValType.{ValType}
use Rattle.wasm_ast.specs.declared.trees.Instr.TheOpen.{Instr-F}
use Rattle.wasm_ast.specs.Typing.{Changes}
use Rattle.wasm_typing.specs.Operands.{Stand, Image}
use Rattle.wasm_typing.specs.Scopes.{TypeEffect}
use Rattle.wasm_typing.proofs.Effects.{if_ok, global_get_effect}
use Rattle.wasm_typing.proofs.scopes.Scope.global_get.Goals as goal

pub returns-in-Some : goal.returns-in-Some
returns-in-Some c =
    let s = c.args.self in
    let old = c.args.operands.now in
    if_ok c.exchange.result (λ ok. Image (Changes [] (c.val_type.result ∷ [])) (Stand old) (Stand c.exchange.new.self) ok) (λ ok. (ls : List (Option ValType)) → TypeEffect s ls (Instr-F.GlobalGet c.args.index) old c.exchange.new.self ok)
    (λ ok h. global_get_effect s old c.exchange.new.self c.args.index c.in-Some.global.now ok c.in-Some.ensures (subst (λ t. Image (Changes [] (t ∷ [])) (Stand old) (Stand c.exchange.new.self) ok) c.val_type.ensures h)) c.exchange.ensures
