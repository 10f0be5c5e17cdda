use Rattle.std.proofs.Common.{◌≡◌, ◌+◌, ◌^◌, ◌<◌, length}
use Rattle.toml.specs.View.{members_view}
use Rattle.label_lattice.specs.Order.{count}
use Rattle.policy_toml.specs.Rows.{members_of}
use Rattle.policy_toml.specs.Channels.{channel_row, IsChannel}
use Rattle.policy_toml.proofs.Rows.{SoFar, Named}
use Rattle.policy_toml.proofs.channels.channel_rows.Given as goal

abbrev pub invariant-rows : goal.invariant-rows
invariant-rows l =
    (goal.iterator-rows).can_next l.key-iterator ×
    (goal.iterator-rows).is_finite l.key-iterator ×
    SoFar (channel_row l.lattice.names l.functions) (members_of (members_view l.table.entries)) (members_of (members_view l.key-iterator)) l.channels ×
    Named (λ c. c.0) (IsChannel (count l.lattice) (length l.functions)) l.channels (members_view l.key-iterator) (members_view l.table.entries) ×
    (l.row ≡ length l.channels + 1) ×
    (l.row + length l.key-iterator < 2 ^ 63 + 1)
