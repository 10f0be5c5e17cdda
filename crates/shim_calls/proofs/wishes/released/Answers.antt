use Rattle.std.proofs.Common.{length, ap, sym, ◌∙◌}
use Rattle.label_lattice.specs.Order.{Order, count}
use Rattle.gate_rules.specs.Gates.{gate_of, passed}
use Rattle.shim_calls.proofs.NamesWithinCounts.{gate_is_fit}
use Rattle.shim_calls.proofs.wishes.released.Goals as goal

pub returns-in-Ok-Pass-clause-fit : goal.returns-in-Ok-Pass-clause-fit
returns-in-Ok-Pass-clause-fit c =
    let p = c.args.policy.now in
    gate_is_fit (count p.lattice) (length p.functions) c.args.at.number p.lattice c.args.name.now c.args.bytes c.in-Ok-Pass.bytes p.gates c.in-Ok-Pass.gate c.requires.few c.gates.ensures.policy.gates
    (sym c.in-Ok-Pass.field-0-is ∙ c.in-Ok-Pass.ensures.passed
    ∙ ap (λ (order : Order). passed order c.args.at.number c.as_slice.result.now (gate_of c.args.name.now c.gates.result.now)) c.lattice.ensures.lattice
    ∙ ap (λ bytes. passed p.lattice c.args.at.number bytes (gate_of c.args.name.now c.gates.result.now)) c.as_slice.ensures
    ∙ ap (λ gates. passed p.lattice c.args.at.number c.args.bytes (gate_of c.args.name.now gates)) c.gates.ensures.gates)
