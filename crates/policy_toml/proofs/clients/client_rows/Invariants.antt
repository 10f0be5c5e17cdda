use Rattle.toml.specs.View.{members_view}
use Rattle.label_lattice.specs.Order.{count}
use Rattle.policy_toml.specs.Rows.{members_of}
use Rattle.policy_toml.specs.Clients.{client_row, IsClient}
use Rattle.policy_toml.proofs.Rows.{SoFar, Named}
use Rattle.policy_toml.proofs.clients.client_rows.Given as goal

abbrev pub invariant-rows : goal.invariant-rows
invariant-rows l =
    (goal.iterator-rows).can_next l.key-iterator ×
    (goal.iterator-rows).is_finite l.key-iterator ×
    SoFar (client_row l.lattice.names) (members_of (members_view l.table.entries)) (members_of (members_view l.key-iterator)) l.clients.items ×
    Named (λ c. c.0) (IsClient (count l.lattice)) l.clients.items (members_view l.key-iterator) (members_view l.table.entries)
