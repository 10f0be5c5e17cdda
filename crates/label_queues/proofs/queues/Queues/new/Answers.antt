use Rattle.std.proofs.Common.{◌≡◌, [], map, length, sym, ap, subst, ◌∙◌}
use Rattle.std.specs.Prelude.{replicate}
use Rattle.std.proofs.lemmas.List.{length-map}
use Rattle.label_queues.specs.Keys.{AreKeys, AreWithinLimits, items_at}
use Rattle.label_queues.proofs.KeyLaws.{no_keys, few_none, no_items, many}
use Rattle.label_queues.proofs.queues.Queues.new.Goals as goal

pub invariant_of-result : goal.invariant_of-result
invariant_of-result g c =
    let n = length c.args.limits.now in
    let keys : c.in_ok-keys.keys ≡ replicate n [] = rw c.in_ok-keys.was at c.new.ensures in
    let limits : c.in_ok-limits.limits.items ≡ map (λ l. l.queue) c.args.limits.now = rw c.in_ok-limits.was at c.queue_limits.ensures in (
      subst (AreKeys c.new-items.result.slots) (sym keys) (no_keys c.new-items.result.slots n),
      ap length keys ∙ many n ∙ sym (ap length limits ∙ length-map c.args.limits.now (λ l. l.queue)),
      subst (λ k. AreWithinLimits k c.in_ok-limits.limits.items) (sym keys) (few_none n c.in_ok-limits.limits.items),
    )

pub returns : goal.returns
returns g c =
    let n = length c.args.limits.now in
    let keys : c.in_ok-keys.keys ≡ replicate n [] = rw c.in_ok-keys.was at c.new.ensures in
    let limits : c.in_ok-limits.limits.items ≡ map (λ l. l.queue) c.args.limits.now = rw c.in_ok-limits.was at c.queue_limits.ensures in
    let lists : map (items_at c.new-items.result.slots) c.in_ok-keys.keys ≡ replicate n [] = ap (map (items_at c.new-items.result.slots)) keys ∙ no_items c.new-items.result.slots n in
    (λ j. record { lists = lists j; limits = limits j })
