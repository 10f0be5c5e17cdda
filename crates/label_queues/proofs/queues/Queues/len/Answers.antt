use Rattle.std.proofs.Common.{length, sym, ◌∙◌, ap}
use Rattle.label_queues.specs.Keys.{keys_at}
use Rattle.label_queues.proofs.KeyLaws.{counted}
use Rattle.label_queues.proofs.queues.Queues.len.Goals as goal

pub returns-clause-len : goal.returns-clause-len
returns-clause-len g c = let i = c.self.inside in
    c.len.ensures ∙ ap (λ p. length (keys_at i.keys p)) c.number.ensures ∙ sym (counted i.items i.keys i.limits.items c.args.self.now c.self.view_is c.args.at.number c.self.invariant.0)
