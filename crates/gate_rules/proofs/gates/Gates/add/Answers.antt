use Rattle.std.proofs.Common.{◌≡◌, [], ◌∷◌, ◌++◌, None, ◌∙◌, ap}
use Rattle.label_lattice.proofs.Tables.{inserted_last, inserted_named, named_apart}
use Rattle.gate_rules.specs.Gates.{gate_of}
use Rattle.gate_rules.proofs.gates.Gates.add.Goals as goal
use Rattle.gate_rules.proofs.gates.Gates.add.Goals.{in-Ok, in-Err}

pub invariant_of-self : goal.invariant_of-self
invariant_of-self c =
    let fresh : gate_of c.args.name c.self.inside.gates.entries ≡ None = ap (gate_of c.args.name) c.self.view_is ∙ c.requires.fresh in (
      named_apart c.insert.new.self.entries c.insert.ensures.unique,
      inserted_named c.self.inside.gates c.args.name c.args.gate fresh c.insert.result c.insert.new.self.entries c.self.invariant.1 c.as_bytes-bytes.ensures.named c.insert.ensures.entries c.insert.ensures.err,
    )

pub returns-clause-ok : goal.returns-clause-ok
returns-clause-ok c = elim c.match-insert.branch [
  | in-Ok w ↦ rw w.result-is (
      let fresh : gate_of c.args.name c.self.inside.gates.entries ≡ None = ap (gate_of c.args.name) c.self.view_is ∙ c.requires.fresh in
      w.in-Ok.ensures.entries ∙ inserted_last c.self.inside.gates c.args.name c.args.gate fresh ∙ ap (λ gates. gates ++ (c.args.name, c.args.gate) ∷ []) c.self.view_is)
  | in-Err w ↦ rw w.result-is tt
]
