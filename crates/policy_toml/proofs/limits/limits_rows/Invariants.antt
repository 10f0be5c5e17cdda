use Rattle.std.specs.Prelude.{All}
use Rattle.toml.specs.View.{members_view}
use Rattle.label_lattice.specs.Order.{count}
use Rattle.policy_toml.specs.Rows.{members_of}
use Rattle.policy_toml.specs.Limits.{limits_row, IsRowOf}
use Rattle.policy_toml.proofs.Rows.{SoFar}
use Rattle.policy_toml.proofs.limits.limits_rows.Given as goal

abbrev pub invariant-rows : goal.invariant-rows
invariant-rows l =
    (goal.iterator-rows).can_next l.key-iterator ×
    (goal.iterator-rows).is_finite l.key-iterator ×
    SoFar (limits_row l.lattice.names) (members_of (members_view l.table.entries)) (members_of (members_view l.key-iterator)) l.limits.items ×
    All (IsRowOf (count l.lattice)) l.limits.items
