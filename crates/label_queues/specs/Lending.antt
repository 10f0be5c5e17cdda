-- What the lists end as, where a reference to the front of one is handed out.
use Rattle.std.specs.Prelude.{ℕ, Option, slice_set}
use Rattle.std.specs.Borrow.{LendsIf, Fml, RattleType, MutBor}
use Rattle.label_queues.specs.Lists.{Lists, list_of, with_list}
use Rattle.label_queues.specs.contracts.queues.Queues.{the_row}

-- once the borrow ends, the last value written is the front of the label's list; at None nothing changes
abbrev pub LendsFront : (T : RattleType) → MutBor (Lists T.Denot) → ℕ → Option (MutBor T.Denot) → Fml
LendsFront T q l r = LendsIf (the_row T) T q r (λ w. with_list q.now l (slice_set (list_of q.now l) 0 w)) q.now
