use Rattle.toml.specs.View.{members_view}
use Rattle.policy_toml.specs.Rows.{members_of}
use Rattle.policy_toml.specs.Functions.{function_row, IsFunction}
use Rattle.policy_toml.proofs.Rows.{SoFar, Named}
use Rattle.policy_toml.proofs.functions.function_rows.Given as goal

abbrev pub invariant-rows : goal.invariant-rows
invariant-rows l =
    (goal.iterator-rows).can_next l.key-iterator ×
    (goal.iterator-rows).is_finite l.key-iterator ×
    SoFar function_row (members_of (members_view l.table.entries)) (members_of (members_view l.key-iterator)) l.functions.items ×
    Named (λ f. f.0) IsFunction l.functions.items (members_view l.key-iterator) (members_view l.table.entries)
