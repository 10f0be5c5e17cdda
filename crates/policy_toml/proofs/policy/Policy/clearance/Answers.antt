use Rattle.std.proofs.Common.{◌<◌, length, sym, subst, arith}
use Rattle.std.proofs.lemmas.List.{length-map}
use Rattle.label_lattice.specs.Order.{count}
use Rattle.policy_toml.specs.Parts.{Parts}
use Rattle.policy_toml.proofs.Rows.{label_at_index}
use Rattle.policy_toml.proofs.policy.Policy.clearance.Goals as goal

pub returns-clause-within : goal.returns-clause-within
returns-clause-within c =
    let clients : c.args.client < length c.self.inside.clients.items = subst (λ (p : Parts). c.args.client < length p.clients) (sym c.self.view_is) c.requires in
    let as_many = c.self.invariant.one_clearance_per_client in
    let same = length-map c.self.inside.clearances.items (λ l. l.number) in
    let below : c.args.client < length c.self.inside.clearances.items = omega arith in
    let here = label_at_index c.self.inside.clearances.items (count c.self.inside.lattice) c.args.client c.index.result.now c.self.invariant.clearances below c.index.ensures in
    subst (λ (p : Parts). c.index.result.now.number < count p.lattice) c.self.view_is here
