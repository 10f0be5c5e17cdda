use Rattle.std.proofs.Common.{◌<◌, sym, ◌∙◌, nat_eq}
use Rattle.std.specs.Cmp.Lexicographic.{pointwise}
use Rattle.label_lattice.specs.Order.{count}
use Rattle.label_lattice.proofs.Tables.{lookup_all}
use Rattle.gate_rules.proofs.gates.Gates.pass.Goals as goal

pub flows-requires-clause-to : goal.flows-requires-clause-to
flows-requires-clause-to c = lookup_all (pointwise nat_eq c.args.name.now) (λ gate. gate.source.number < count c.args.lattice.now) c.args.self.now c.requires.labels c.in-Some.gate (sym c.gate_of.ensures.gate ∙ c.in-Some.is)
