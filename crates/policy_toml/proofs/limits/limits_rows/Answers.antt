use Rattle.std.proofs.Common.{◌≡◌, ℕ, ◌+◌, sym, subst, List, [], ◌∷◌, ◌++◌, Ok, length, string_bytes, ap, rules}
use Rattle.std.specs.Prelude.{All}
use Rattle.toml.specs.View.{view, members_view}
use Rattle.label_lattice.specs.Order.{count}
use Rattle.label_limits.specs.declared.limits.Limits.{Limits}
use Rattle.policy_toml.specs.Rows.{members_of}
use Rattle.policy_toml.specs.Limits.{limits_row, IsRowOf}
use Rattle.policy_toml.proofs.Rows.{SoFar-begin, SoFar-next, all_none, all_more}
use Rattle.policy_toml.proofs.limits.limits_rows.Goals as goal

pub rows-init : goal.rows-init
rows-init c =
    let given = c.into_iter-key-iterator.ensures.into_iter_gives in (
      tt,
      tt,
      SoFar-begin (limits_row c.args.lattice.now.names) (members_of (members_view c.args.table.now.entries)) (members_of (members_view c.into_iter-key-iterator.result)) c.new-limits.result.items (ap (λ es. members_of (members_view es)) given.0) c.new-limits.ensures.items,
      subst (λ (x : List (ℕ × Limits)). All (IsRowOf (count c.args.lattice.now)) x) (sym c.new-limits.ensures.items) (all_none (IsRowOf (count c.args.lattice.now))),
    )

pub rows-preserved : goal.rows-preserved
rows-preserved c =
    let step : c.rows.key-iterator ≡ (c.in-Some.key.now, c.in-Some.value.now) ∷ c.next.new.self = search rules in
    let so_many : c.len.result ≡ length c.rows.limits.items = search rules in
    let text : c.as_str.result.now ≡ string_bytes c.in-Some.key.now = search rules in
    let is : limits_row c.args.lattice.now.names (length c.rows.limits.items + 1) (string_bytes c.in-Some.key.now, view c.in-Some.value.now) ≡ Ok c.in_ok-row.row =
    subst (λ (x : ℕ). limits_row c.args.lattice.now.names (x + 1) (string_bytes c.in-Some.key.now, view c.in-Some.value.now) ≡ Ok c.in_ok-row.row) so_many
    (subst (λ (x : List ℕ). limits_row c.args.lattice.now.names (c.len.result + 1) (x, view c.in-Some.value.now) ≡ Ok c.in_ok-row.row) text c.in_ok-row.ensures.read) in
    let pushed : c.push.new.self.items ≡ c.rows.limits.items ++ c.in_ok-row.row ∷ [] = search rules in (
      tt,
      tt,
      SoFar-next (limits_row c.args.lattice.now.names) (members_of (members_view c.args.table.now.entries)) c.rows.key-iterator c.next.new.self c.in-Some.key.now c.in-Some.value.now c.rows.limits.items c.push.new.self.items c.in_ok-row.row c.rows.invariant.2 step is pushed,
      subst (λ (x : List (ℕ × Limits)). All (IsRowOf (count c.args.lattice.now)) x) (sym pushed) (all_more (IsRowOf (count c.args.lattice.now)) c.rows.limits.items c.in_ok-row.row c.rows.invariant.3 c.in_ok-row.ensures.row),
    )
