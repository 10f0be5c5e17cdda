use Rattle.std.proofs.Common.{◌≡◌, None, ap₂, refl, ◌∙◌, arith}
use Rattle.label_lattice.specs.Faults.{first_fault}
use Rattle.label_lattice.specs.Reach.{order_of}
use Rattle.trapeze_exercise.specs.BuiltIn.{labels, flows}
use Rattle.trapeze_exercise.proofs.policy.lattice.Goals as goal

no_fault : first_fault labels flows ≡ None
no_fault = refl

pub returns-in-Ok : goal.returns-in-Ok
returns-in-Ok c = c.in-Ok.ensures.order ∙ ap₂ order_of c.in_ok-labels.ensures c.in_ok-flows.ensures

pub unreachable-requires : goal.unreachable-requires
unreachable-requires c =
    let none : first_fault c.in_ok-labels.labels c.in_ok-flows.flows ≡ None = ap₂ first_fault c.in_ok-labels.ensures c.in_ok-flows.ensures ∙ no_fault in
    grind arith
