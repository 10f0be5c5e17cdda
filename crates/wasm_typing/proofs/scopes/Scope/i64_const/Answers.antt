use Rattle.std.proofs.Common.{◌<◌, ◌^◌, arith, List, [], ◌∷◌}
use Rattle.std.specs.Prelude.{Option}
use Rattle.wasm_ast.specs.declared.val_types.ValType.{ValType}
use Rattle.wasm_ast.specs.declared.val_types.ValType.TheVariants.{I64}
use Rattle.wasm_ast.specs.declared.trees.Instr.TheOpen.{Instr-F}
use Rattle.wasm_ast.specs.Typing.{Changes}
use Rattle.wasm_typing.specs.Operands.{Stand, Image}
use Rattle.wasm_typing.specs.Scopes.{TypeEffect}
use Rattle.wasm_typing.proofs.Effects.{if_ok, const_effect}
use Rattle.wasm_typing.proofs.scopes.Scope.i64_const.Goals as goal

pub returns : goal.returns
returns c =
    let s = c.args.self in
    let old = c.args.operands.now in
    if_ok c.exchange.result (λ ok. Image (Changes [] (I64 ∷ [])) (Stand old) (Stand c.exchange.new.self) ok) (λ ok. (ls : List (Option ValType)) → TypeEffect s ls (Instr-F.I64Const c.args.value) old c.exchange.new.self ok)
    (λ ok h. λ ls. const_effect (c.args.value < 2 ^ 64) I64 old c.exchange.new.self ok (omega arith) h) c.exchange.ensures
