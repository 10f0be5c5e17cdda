use Rattle.std.proofs.Common.{subst, List, [], ◌∷◌}
use Rattle.std.specs.Prelude.{Option, reverse}
use Rattle.wasm_ast.specs.declared.val_types.ValType.{ValType}
use Rattle.wasm_ast.specs.declared.val_types.ValType.TheVariants.{I32}
use Rattle.wasm_ast.specs.declared.trees.Instr.TheOpen.{Instr-F}
use Rattle.wasm_ast.specs.Typing.{Changes}
use Rattle.wasm_typing.specs.Operands.{Stand, Image, Takes}
use Rattle.wasm_typing.specs.Scopes.{TypeEffect}
use Rattle.wasm_typing.proofs.Effects.{if_ok, call_indirect_effect, call_indirect_stops}
use Rattle.wasm_typing.proofs.scopes.Scope.call_indirect.Goals as goal

pub returns-then-not-take : goal.returns-then-not-take
returns-then-not-take c =
    let s = c.args.self in
    let old = c.args.operands.now in
    call_indirect_stops s old c.take.new.self c.args.index c.in-Some.signature.now c.in-Some-table_in.field-0.now c.in-Some.ensures c.in-Some-table_in.ensures (subst (λ ok. Image (Takes (I32 ∷ [])) (Stand old) (Stand c.take.new.self) ok) c.if-not-take.true c.take.ensures)

pub returns : goal.returns
returns c =
    let s = c.args.self in
    let old = c.args.operands.now in
    if_ok c.apply.result (λ ok. Image (Changes (reverse c.in-Some.signature.now.params) c.in-Some.signature.now.results) (Stand c.take.new.self) (Stand c.apply.new.self) ok) (λ ok. (ls : List (Option ValType)) → TypeEffect s ls (Instr-F.CallIndirect c.args.index) old c.apply.new.self ok)
    (λ ok h. call_indirect_effect s old c.apply.new.self c.take.new.self c.args.index c.in-Some.signature.now c.in-Some-table_in.field-0.now ok c.in-Some.ensures c.in-Some-table_in.ensures (subst (λ ok. Image (Takes (I32 ∷ [])) (Stand old) (Stand c.take.new.self) ok) c.if-not-take.false c.take.ensures) h) c.apply.ensures
