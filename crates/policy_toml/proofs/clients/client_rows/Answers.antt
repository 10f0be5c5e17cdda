use Rattle.std.proofs.Common.{◌≡◌, ◌+◌, [], ◌∷◌, ◌++◌, Ok, length, string_bytes, ap, rules}
use Rattle.toml.specs.View.{view, members_view}
use Rattle.label_lattice.specs.Order.{count}
use Rattle.policy_toml.specs.Rows.{members_of}
use Rattle.policy_toml.specs.Clients.{client_row, IsClient}
use Rattle.policy_toml.proofs.Rows.{SoFar-begin, SoFar-next, Named-begin, Named-next, SoFar-count}
use Rattle.policy_toml.proofs.clients.client_rows.Goals as goal

pub rows-init : goal.rows-init
rows-init c =
    let given = c.into_iter-key-iterator.ensures.into_iter_gives in (
      tt,
      tt,
      SoFar-begin (client_row c.args.lattice.now.names) (members_of (members_view c.args.table.now.entries)) (members_of (members_view c.into_iter-key-iterator.result)) c.new-clients.result.items (ap (λ es. members_of (members_view es)) given.0) c.new-clients.ensures.items,
      Named-begin (λ f. f.0) (IsClient (count c.args.lattice.now)) c.args.table.now.entries c.into_iter-key-iterator.result c.new-clients.result.items given.0 c.new-clients.ensures.items given.5,
    )

pub rows-preserved : goal.rows-preserved
rows-preserved c =
    let step : c.rows.key-iterator ≡ (c.in-Some.key.now, c.in-Some.value.now) ∷ c.next.new.self = search rules in
    let is : (client_row c.args.lattice.now.names) (length c.rows.clients.items + 1) (string_bytes c.in-Some.key.now, view c.in-Some.value.now) ≡ Ok c.in_ok-row.row = search rules in
    let name : c.in_ok-row.row.0 ≡ string_bytes c.in-Some.key.now = search rules in
    let pushed : c.push.new.self.items ≡ c.rows.clients.items ++ c.in_ok-row.row ∷ [] = search rules in (
      tt,
      tt,
      SoFar-next (client_row c.args.lattice.now.names) (members_of (members_view c.args.table.now.entries)) c.rows.key-iterator c.next.new.self c.in-Some.key.now c.in-Some.value.now c.rows.clients.items c.push.new.self.items c.in_ok-row.row c.rows.invariant.2 step is pushed,
      Named-next (λ f. f.0) (IsClient (count c.args.lattice.now)) c.rows.key-iterator c.next.new.self c.args.table.now.entries c.in-Some.key.now c.in-Some.value.now c.rows.clients.items c.push.new.self.items c.in_ok-row.row c.rows.invariant.3 step name c.in_ok-row.ensures.clearance pushed,
    )

pub returns-clause-count : goal.returns-clause-count
returns-clause-count c = SoFar-count (client_row c.args.lattice.now.names) (members_of (members_view c.args.table.now.entries)) c.rows.key-iterator c.rows.clients.items c.rows.invariant.2 c.in-None.ensures.steps.0
