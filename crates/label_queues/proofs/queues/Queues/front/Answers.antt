use borrow.Follows.Closed.{read_of}
use Rattle.std.proofs.Common.{map, sym, ◌∙◌}
use Rattle.std.specs.Option.{ghost_name_of}
use Rattle.label_queues.specs.Lists.{Lists}
use Rattle.label_queues.specs.Keys.{items_at}
use Rattle.label_queues.proofs.KeyLaws.{lent_keys, lent_view, lent_value}
use Rattle.label_queues.proofs.queues.Queues.front.Goals as goal

pub invariant_of-self-lent : goal.invariant_of-self-lent
invariant_of-self-lent g c = λ r. (let i = c.self.inside in
    (λ w. (lent_keys i.items i.keys i.limits.items c.args.at.number c.number.result c.number.ensures c.self.invariant.0 c.in_ok-key.key (sym c.front.ensures ∙ c.in_ok-key.was) w, c.self.invariant.1, c.self.invariant.2), c.self.invariant))

pub returns : goal.returns
returns g c =
    let i = c.self.inside in
    let seen : Lists g.row.T.Denot = record { lists = map (items_at i.items.slots) i.keys; limits = i.limits.items } in
    rw (← c.self.view_is) (
      λ t. read_of (ghost_name_of c.get_mut.result) (λ (w : g.row.T.Denot). lent_view i.items i.keys i.limits.items c.args.at.number c.number.result c.number.ensures c.self.invariant.0 c.in_ok-key.key (sym c.front.ensures ∙ c.in_ok-key.was) w t) seen,
      record { writes_back = tt; value = c.get_mut.ensures.value ∙ lent_value i.items i.keys i.limits.items c.args.at.number c.number.result c.number.ensures c.self.invariant.0 c.in_ok-key.key (sym c.front.ensures ∙ c.in_ok-key.was) },
    )
