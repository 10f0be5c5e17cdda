use Rattle.std.proofs.Common.{◌∙◌, ap, length}
use Rattle.label_lattice.specs.Order.{Order}
use Rattle.label_lattice.specs.Reach.{flows}
use Rattle.label_lattice.proofs.NamePairs.{flows_closes}
use Rattle.label_lattice.proofs.lattice.Lattice.flows.Goals as goal

pub returns : goal.returns
returns c =
    let l = c.self.inside in
    c.flows.ensures ∙ flows_closes (length l.names) l.pairs.items l.table c.self.invariant.1 c.self.invariant.2 c.args.a.number c.args.b.number
    ∙ ap (λ (o : Order). flows o c.args.a.number c.args.b.number) c.self.view_is
