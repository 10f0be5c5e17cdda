use Rattle.std.proofs.Common.{◌≡◌, ◌<◌, ◌+◌, ◌^◌, length, not}
use Rattle.std.specs.List.{position_from}
use Rattle.toml.specs.View.{members_view}
use Rattle.policy_toml.specs.Rows.{is_key_of, extra_key, members_of}
use Rattle.policy_toml.proofs.tables.extra_key.Given as goal

-- the first among those left, counted on, is the first of all
abbrev pub invariant-keys : goal.invariant-keys
invariant-keys l =
    (goal.iterator-keys).can_next l.key-iterator ×
    (goal.iterator-keys).is_finite l.key-iterator ×
    (l.place + length l.key-iterator < 2 ^ 63 + 1) ×
    (position_from (λ row. not (is_key_of l.part row.0)) l.place (members_of (members_view l.key-iterator)) ≡ extra_key l.part (members_view l.table.entries))
