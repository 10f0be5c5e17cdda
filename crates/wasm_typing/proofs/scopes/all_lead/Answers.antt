use Rattle.std.proofs.Common.{◌≡◌, refl, arith, length, below_more}
use Rattle.wasm_ast.specs.Typing.{results}
use Rattle.wasm_typing.specs.Scopes.{labels_of}
use Rattle.wasm_typing.proofs.Effects.{lead_from, same_label, other_label, no_label}
use Rattle.wasm_typing.proofs.scopes.all_lead.Goals as goal

pub returns-then-not-is_same : goal.returns-then-not-is_same
returns-then-not-is_same c =
    other_label c.args.labels.now c.args.targets.now c.loop-label.label-index c.in-Some.found c.args.taken c.is_same.result c.loop-label-test.true c.in-Some.ensures.value c.is_same.ensures.1 c.if-not-is_same.true

pub returns-in-None : goal.returns-in-None
returns-in-None c = no_label c.args.labels.now c.args.targets.now c.loop-label.label-index c.args.taken c.loop-label-test.true c.in-None.ensures.value

pub loop-label-preserved : goal.loop-label-preserved
loop-label-preserved c =
    below_more _ _ c.loop-label.invariant (same_label c.args.labels.now c.args.targets.now c.loop-label.label-index c.in-Some.found c.args.taken c.in-Some.ensures.value (c.is_same.ensures.0 c.if-not-is_same.false))

pub returns : goal.returns
returns c =
    let e : c.loop-label.label-index ≡ length c.args.targets.now = omega arith in
    ((λ h. lead_from (labels_of c.args.labels.now) (results c.args.taken) c.args.targets.now (λ k lt. c.loop-label.invariant k (omega arith))), (λ h. refl))
