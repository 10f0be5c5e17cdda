use Rattle.std.proofs.Common.{subst, [], ◌∷◌}
use Rattle.wasm_ast.specs.declared.val_types.ValType.TheVariants.{I32}
use Rattle.wasm_ast.specs.declared.trees.Instr.TheOpen.{Instr-F}
use Rattle.wasm_ast.specs.Typing.{results, Changes}
use Rattle.wasm_typing.specs.Operands.{Stand, Image, Takes}
use Rattle.wasm_typing.specs.Scopes.{TypeEffect}
use Rattle.wasm_typing.proofs.Effects.{if_ok, br_if_effect, br_if_stops}
use Rattle.wasm_typing.proofs.scopes.Scope.branch_if.Goals as goal

pub returns-then-not-take : goal.returns-then-not-take
returns-then-not-take c =
    let s = c.args.self in
    let old = c.args.operands.now in
    br_if_stops s old c.take.new.self c.args.labels.now c.args.label c.in-Some.taken c.in-Some.ensures.value (subst (λ ok. Image (Takes (I32 ∷ [])) (Stand old) (Stand c.take.new.self) ok) c.if-not-take.true c.take.ensures)

pub returns : goal.returns
returns c =
    let s = c.args.self in
    let old = c.args.operands.now in
    if_ok c.pass.result (λ ok. Image (Changes (results c.in-Some.taken) (results c.in-Some.taken)) (Stand c.take.new.self) (Stand c.pass.new.self) ok) (λ ok. TypeEffect s c.args.labels.now (Instr-F.BrIf c.args.label) old c.pass.new.self ok)
    (λ ok h. br_if_effect s old c.pass.new.self c.take.new.self c.args.labels.now c.args.label c.in-Some.taken ok c.in-Some.ensures.value (subst (λ ok. Image (Takes (I32 ∷ [])) (Stand old) (Stand c.take.new.self) ok) c.if-not-take.false c.take.ensures) h) c.pass.ensures
