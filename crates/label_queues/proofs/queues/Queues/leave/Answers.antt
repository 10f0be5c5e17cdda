use Rattle.std.proofs.Common.{length, sym, ◌∙◌, ap}
use Rattle.std.proofs.lemmas.List.{length-set}
use Rattle.label_queues.proofs.KeyLaws.{in_lists, place_within, few_left, left_keys, left_view}
use Rattle.label_queues.proofs.queues.Queues.leave.Goals as goal

pub invariant_of-self : goal.invariant_of-self
invariant_of-self g c = let i = c.self.inside in (
  left_keys i.items i.keys i.limits.items c.args.self.now c.self.view_is c.args.at.number c.self.invariant.0 c.remove.new.self c.pop.new.self c.number.result c.number.ensures (in_lists i.items i.keys i.limits.items c.args.self.now c.self.view_is c.args.at.number c.self.invariant.1 c.requires) c.in-Some.key
      (sym c.pop.ensures.first ∙ c.in-Some.is) c.remove.ensures.updates c.pop.ensures.rest,
  ap length c.pop.ensures.rest ∙ length-set i.keys _ _ ∙ c.self.invariant.1,
  few_left i.keys i.limits.items c.self.invariant.2 c.pop.new.self c.number.result (place_within i.items i.keys i.limits.items c.args.self.now c.self.view_is c.args.at.number c.self.invariant.1 c.requires c.number.result c.number.ensures) c.pop.ensures.rest,
)

pub returns-in-Some-clause-rest : goal.returns-in-Some-clause-rest
returns-in-Some-clause-rest g c = let i = c.self.inside in
    left_view i.items i.keys i.limits.items c.args.self.now c.self.view_is c.args.at.number c.self.invariant.0 c.remove.new.self c.pop.new.self c.number.result c.number.ensures (in_lists i.items i.keys i.limits.items c.args.self.now c.self.view_is c.args.at.number c.self.invariant.1 c.requires) c.in-Some.key
    (sym c.pop.ensures.first ∙ c.in-Some.is) c.remove.ensures.updates c.pop.ensures.rest
