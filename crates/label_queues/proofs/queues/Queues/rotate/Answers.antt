use Rattle.std.proofs.Common.{length, ◌∙◌, ap}
use Rattle.std.proofs.lemmas.List.{length-set}
use Rattle.label_queues.proofs.KeyLaws.{in_lists, place_within, few_rotated, rotated_keys, rotated_view}
use Rattle.label_queues.proofs.queues.Queues.rotate.Goals as goal

pub invariant_of-self : goal.invariant_of-self
invariant_of-self g c = let i = c.self.inside in (
  rotated_keys i.items i.keys i.limits.items c.args.self.now c.self.view_is c.args.at.number c.self.invariant.0 c.rotate.new.self c.number.result c.number.ensures (in_lists i.items i.keys i.limits.items c.args.self.now c.self.view_is c.args.at.number c.self.invariant.1 c.requires.label) c.requires.some c.rotate.ensures,
  ap length c.rotate.ensures ∙ length-set i.keys _ _ ∙ c.self.invariant.1,
  few_rotated i.keys i.limits.items c.self.invariant.2 c.rotate.new.self c.number.result (place_within i.items i.keys i.limits.items c.args.self.now c.self.view_is c.args.at.number c.self.invariant.1 c.requires.label c.number.result c.number.ensures) c.rotate.ensures,
)

pub returns : goal.returns
returns g c = let i = c.self.inside in
    rotated_view i.items i.keys i.limits.items c.args.self.now c.self.view_is c.args.at.number c.self.invariant.0 c.rotate.new.self c.number.result c.number.ensures (in_lists i.items i.keys i.limits.items c.args.self.now c.self.view_is c.args.at.number c.self.invariant.1 c.requires.label) c.requires.some c.rotate.ensures
