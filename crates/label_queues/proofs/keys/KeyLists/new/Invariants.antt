use Rattle.std.proofs.Common.{◌≡◌, [], map}
use Rattle.std.specs.Prelude.{replicate}
use Rattle.label_queues.proofs.keys.KeyLists.new.Given as goal

abbrev pub invariant-lists : goal.invariant-lists
invariant-lists l = map (λ keys. keys.items) l.lists.items ≡ replicate l._list []
