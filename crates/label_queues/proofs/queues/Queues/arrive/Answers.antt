use Rattle.std.proofs.Common.{length, sym, ◌∙◌, ap, arith, refl}
use Rattle.std.proofs.lemmas.List.{length-set}
use Rattle.label_queues.proofs.KeyLaws.{in_lists, place_within, few_here, few_arrived, not_full, limit_here, long_here, arrived_keys, arrived_view}
use Rattle.label_queues.proofs.queues.Queues.arrive.Goals as goal

pub invariant_of-self-2 : goal.invariant_of-self-2
invariant_of-self-2 g c = let i = c.self.inside in (
  arrived_keys i.items i.keys i.limits.items c.args.self.now c.self.view_is c.args.at.number c.self.invariant.0 c.reserve.new.self c.insert_reserved.new.self c.reserve.ensures.rest_kept c.push.new.self c.number-place.result c.number-place.ensures (in_lists i.items i.keys i.limits.items c.args.self.now c.self.view_is c.args.at.number c.self.invariant.1 c.requires)
      c.vacant_key-key.result c.insert_reserved.result (c.insert_reserved.ensures.key ∙ sym c.vacant_key-key.ensures.value) c.args.item c.vacant_key-key.ensures.vacant c.insert_reserved.ensures.updates c.in-Ok-push.ensures.ok,
  ap length c.in-Ok-push.ensures.ok ∙ length-set i.keys _ _ ∙ c.self.invariant.1,
  few_arrived i.keys i.limits.items c.self.invariant.2 c.push.new.self c.number-place.result (place_within i.items i.keys i.limits.items c.args.self.now c.self.view_is c.args.at.number c.self.invariant.1 c.requires c.number-place.result c.number-place.ensures) c.vacant_key-key.result c.index.result.now c.len.result c.index.ensures c.self.invariant.1 c.len.ensures (omega (arith, c.if-len-index.false)) (omega arith) c.in-Ok-push.ensures.ok,
)

pub returns-clause-ok : goal.returns-clause-ok
returns-clause-ok g c = let i = c.self.inside in
    arrived_view i.items i.keys i.limits.items c.args.self.now c.self.view_is c.args.at.number c.self.invariant.0 c.reserve.new.self c.insert_reserved.new.self c.reserve.ensures.rest_kept c.push.new.self c.number-place.result c.number-place.ensures (in_lists i.items i.keys i.limits.items c.args.self.now c.self.view_is c.args.at.number c.self.invariant.1 c.requires)
    c.vacant_key-key.result c.insert_reserved.result (c.insert_reserved.ensures.key ∙ sym c.vacant_key-key.ensures.value) c.args.item c.vacant_key-key.ensures.vacant c.insert_reserved.ensures.updates c.in-Ok-push.ensures.ok

pub returns-then-len-index-clause-full : goal.returns-then-len-index-clause-full
returns-then-len-index-clause-full g c = let i = c.self.inside in
    let limit = limit_here i.items i.keys i.limits.items c.args.self.now c.self.view_is c.args.at.number c.self.invariant.0 c.number-place.result c.number-place.ensures (in_lists i.items i.keys i.limits.items c.args.self.now c.self.view_is c.args.at.number c.self.invariant.1 c.requires) c.self.invariant.1 c.index.result.now c.index.ensures in
    let long = long_here i.items i.keys i.limits.items c.args.self.now c.self.view_is c.args.at.number c.self.invariant.0 c.number-place.result c.number-place.ensures (in_lists i.items i.keys i.limits.items c.args.self.now c.self.view_is c.args.at.number c.self.invariant.1 c.requires) in
    let few = few_here i.items i.keys i.limits.items c.args.self.now c.self.view_is c.args.at.number c.self.invariant.0 c.self.invariant.2 in
    (λ e. omega (arith, limit, long, few, c.len.ensures, c.if-len-index.true), λ h. refl)

pub returns-in_default-clause-full : goal.returns-in_default-clause-full
returns-in_default-clause-full g c = let i = c.self.inside in
    let limit = limit_here i.items i.keys i.limits.items c.args.self.now c.self.view_is c.args.at.number c.self.invariant.0 c.number-place.result c.number-place.ensures (in_lists i.items i.keys i.limits.items c.args.self.now c.self.view_is c.args.at.number c.self.invariant.1 c.requires) c.self.invariant.1 c.index.result.now c.index.ensures in
    let long = long_here i.items i.keys i.limits.items c.args.self.now c.self.view_is c.args.at.number c.self.invariant.0 c.number-place.result c.number-place.ensures (in_lists i.items i.keys i.limits.items c.args.self.now c.self.view_is c.args.at.number c.self.invariant.1 c.requires) in
    (λ e. absurd (not_full _ _ e), λ h. absurd (omega (arith, h, limit, long, c.len.ensures, c.if-len-index.false)))

pub returns-in_default-push-clause-full : goal.returns-in_default-push-clause-full
returns-in_default-push-clause-full g c = let i = c.self.inside in
    let limit = limit_here i.items i.keys i.limits.items c.args.self.now c.self.view_is c.args.at.number c.self.invariant.0 c.number-place.result c.number-place.ensures (in_lists i.items i.keys i.limits.items c.args.self.now c.self.view_is c.args.at.number c.self.invariant.1 c.requires) c.self.invariant.1 c.index.result.now c.index.ensures in
    let long = long_here i.items i.keys i.limits.items c.args.self.now c.self.view_is c.args.at.number c.self.invariant.0 c.number-place.result c.number-place.ensures (in_lists i.items i.keys i.limits.items c.args.self.now c.self.view_is c.args.at.number c.self.invariant.1 c.requires) in
    (λ e. absurd (not_full _ _ e), λ h. absurd (omega (arith, h, limit, long, c.len.ensures, c.if-len-index.false)))

pub returns-clause-full : goal.returns-clause-full
returns-clause-full g c = let i = c.self.inside in
    let limit = limit_here i.items i.keys i.limits.items c.args.self.now c.self.view_is c.args.at.number c.self.invariant.0 c.number-place.result c.number-place.ensures (in_lists i.items i.keys i.limits.items c.args.self.now c.self.view_is c.args.at.number c.self.invariant.1 c.requires) c.self.invariant.1 c.index.result.now c.index.ensures in
    let long = long_here i.items i.keys i.limits.items c.args.self.now c.self.view_is c.args.at.number c.self.invariant.0 c.number-place.result c.number-place.ensures (in_lists i.items i.keys i.limits.items c.args.self.now c.self.view_is c.args.at.number c.self.invariant.1 c.requires) in
    (λ e. (let never : ⊥ = cc in absurd never), λ h. absurd (omega (arith, h, limit, long, c.len.ensures, c.if-len-index.false)))
