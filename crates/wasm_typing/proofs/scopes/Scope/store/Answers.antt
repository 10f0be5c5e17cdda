use Rattle.std.proofs.Common.{List, [], ◌∷◌}
use Rattle.std.specs.Prelude.{Option}
use Rattle.wasm_ast.specs.declared.val_types.ValType.{ValType}
use Rattle.wasm_ast.specs.declared.val_types.ValType.TheVariants.{I32}
use Rattle.wasm_ast.specs.declared.trees.Instr.TheOpen.{Instr-F}
use Rattle.wasm_ast.specs.Typing.{Changes}
use Rattle.wasm_typing.specs.Operands.{Stand, Image}
use Rattle.wasm_typing.specs.Scopes.{TypeEffect}
use Rattle.wasm_typing.proofs.Effects.{if_ok, store_narrow, store_effect}
use Rattle.wasm_typing.proofs.scopes.Scope.store.Goals as goal

pub returns-then-align-moved : goal.returns-then-align-moved
returns-then-align-moved c =
    let s = c.args.self in
    let old = c.args.operands.now in
    store_narrow s old old c.args.opcode c.args.align c.args.offset c.in-Some.moved c.in-Some.ensures c.if-align-moved.true

pub returns-in-Some-memory_in : goal.returns-in-Some-memory_in
returns-in-Some-memory_in c =
    let s = c.args.self in
    let old = c.args.operands.now in
    if_ok c.exchange.result (λ ok. Image (Changes (c.in-Some.moved.val_type ∷ (I32 ∷ [])) []) (Stand old) (Stand c.exchange.new.self) ok) (λ ok. (ls : List (Option ValType)) → TypeEffect s ls (Instr-F.Store c.args.opcode c.args.align c.args.offset) old c.exchange.new.self ok)
    (λ ok h. store_effect s old c.exchange.new.self c.args.opcode c.args.align c.args.offset c.in-Some.moved c.in-Some-memory_in.field-0.now ok c.in-Some.ensures c.if-align-moved.false c.in-Some-memory_in.ensures h) c.exchange.ensures
