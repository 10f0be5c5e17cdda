use Rattle.std.proofs.Common.{List}
use Rattle.std.specs.Prelude.{Option, reverse}
use Rattle.wasm_ast.specs.declared.val_types.ValType.{ValType}
use Rattle.wasm_ast.specs.declared.trees.Instr.TheOpen.{Instr-F}
use Rattle.wasm_ast.specs.Typing.{Changes}
use Rattle.wasm_typing.specs.Operands.{Stand, Image}
use Rattle.wasm_typing.specs.Scopes.{TypeEffect}
use Rattle.wasm_typing.proofs.Effects.{if_ok, call_effect}
use Rattle.wasm_typing.proofs.scopes.Scope.call.Goals as goal

pub returns-in-Some : goal.returns-in-Some
returns-in-Some c =
    let s = c.args.self in
    let old = c.args.operands.now in
    if_ok c.apply.result (λ ok. Image (Changes (reverse c.in-Some.signature.now.params) c.in-Some.signature.now.results) (Stand old) (Stand c.apply.new.self) ok) (λ ok. (ls : List (Option ValType)) → TypeEffect s ls (Instr-F.Call c.args.index) old c.apply.new.self ok)
    (λ ok h. call_effect s old c.apply.new.self c.args.index c.in-Some.signature.now ok c.in-Some.ensures h) c.apply.ensures
