use Rattle.wasm_typing.proofs.Effects.{br_effect, br_nowhere}
use Rattle.wasm_typing.proofs.scopes.Scope.branch.Goals as goal

pub returns-in-Some : goal.returns-in-Some
returns-in-Some c =
    let s = c.args.self in
    let old = c.args.operands.now in
    br_effect s old c.jump.new.self c.args.labels.now c.args.label c.in-Some.taken c.jump.result c.in-Some.ensures.value c.jump.ensures

pub returns-in-None : goal.returns-in-None
returns-in-None c =
    let s = c.args.self in
    let old = c.args.operands.now in
    br_nowhere s old old c.args.labels.now c.args.label c.in-None.ensures.value
