use Rattle.std.proofs.Common.{◌∙◌, ap, sym}
use Rattle.label_lattice.proofs.Tables.{found_value, no_value}
use Rattle.gate_rules.specs.Gates.{gate_of}
use Rattle.gate_rules.proofs.gates.Gates.gate_of.Goals as goal

pub returns-in_err-name-clause-gate : goal.returns-in_err-name-clause-gate
returns-in_err-name-clause-gate c = c.from_residual.ensures ∙ sym (no_value c.args.name.now c.self.inside.gates.entries c.in_err-name.ensures c.self.invariant.1) ∙ ap (gate_of c.args.name.now) c.self.view_is

pub returns-clause-gate : goal.returns-clause-gate
returns-clause-gate c =
    c.copied.ensures ∙ c.get.ensures.value ∙ found_value c.in_ok-name.name c.self.inside.gates.entries
    ∙ ap (λ name. gate_of name c.self.inside.gates.entries) c.in_ok-name.ensures.1 ∙ ap (gate_of c.args.name.now) c.self.view_is
