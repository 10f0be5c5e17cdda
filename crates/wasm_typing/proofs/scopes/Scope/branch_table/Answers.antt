use Rattle.std.proofs.Common.{subst, false, [], ◌∷◌}
use Rattle.std.specs.Prelude.{IsTrue}
use Rattle.wasm_ast.specs.declared.val_types.ValType.TheVariants.{I32}
use Rattle.wasm_typing.specs.Operands.{Stand, Image, Takes}
use Rattle.wasm_typing.proofs.Effects.{table_effect, table_stops, table_differs}
use Rattle.wasm_typing.proofs.scopes.Scope.branch_table.Goals as goal

pub returns-then-not-all_lead : goal.returns-then-not-all_lead
returns-then-not-all_lead c =
    let s = c.args.self in
    let old = c.args.operands.now in
    table_differs s old old c.args.labels.now c.args.targets.now c.args.default c.in-Some.taken c.in-Some.ensures.value (λ lead. let yes : IsTrue false = subst IsTrue c.if-not-all_lead.true (c.all_lead.ensures.1 lead) in cc)

pub returns-then-not-take : goal.returns-then-not-take
returns-then-not-take c =
    let s = c.args.self in
    let old = c.args.operands.now in
    table_stops s old c.take.new.self c.args.labels.now c.args.targets.now c.args.default c.in-Some.taken c.in-Some.ensures.value (c.all_lead.ensures.0 c.if-not-all_lead.false) (subst (λ ok. Image (Takes (I32 ∷ [])) (Stand old) (Stand c.take.new.self) ok) c.if-not-take.true c.take.ensures)

pub returns : goal.returns
returns c =
    let s = c.args.self in
    let old = c.args.operands.now in
    table_effect s old c.jump.new.self c.take.new.self c.args.labels.now c.args.targets.now c.args.default c.in-Some.taken c.jump.result c.in-Some.ensures.value (c.all_lead.ensures.0 c.if-not-all_lead.false) (subst (λ ok. Image (Takes (I32 ∷ [])) (Stand old) (Stand c.take.new.self) ok) c.if-not-take.false c.take.ensures) c.jump.ensures
