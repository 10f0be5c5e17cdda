use Rattle.std.proofs.Common.{◌≡◌, ℕ, ◌+◌, List, [], ◌∷◌, ◌++◌, Ok, length, string_bytes, ◌∙◌, ap, arith, rules}
use Rattle.std.proofs.lemmas.List.{length-append}
use Rattle.toml.specs.View.{view, members_view}
use Rattle.label_lattice.specs.Order.{count}
use Rattle.labelled_channel.specs.declared.channels.Channel.{Channel}
use Rattle.policy_toml.specs.Rows.{members_of}
use Rattle.policy_toml.specs.Channels.{channel_row, IsChannel}
use Rattle.policy_toml.proofs.Rows.{SoFar-begin, SoFar-next, Named-begin, Named-next, Named-fresh}
use Rattle.policy_toml.proofs.channels.channel_rows.Goals as goal

pub rows-init : goal.rows-init
rows-init c =
    let given = c.into_iter-key-iterator.ensures.into_iter_gives in (
      tt,
      tt,
      SoFar-begin (channel_row c.args.lattice.now.names c.args.functions.now) (members_of (members_view c.args.table.now.entries)) (members_of (members_view c.into_iter-key-iterator.result)) c.new-channels.result (ap (λ es. members_of (members_view es)) given.0) c.new-channels.ensures,
      Named-begin (λ x. x.0) (IsChannel (count c.args.lattice.now) (length c.args.functions.now)) c.args.table.now.entries c.into_iter-key-iterator.result c.new-channels.result given.0 c.new-channels.ensures given.5,
      (let none = ap length c.new-channels.ensures in omega arith),
      (let all = ap length given.0 in let few = given.1 in omega arith),
    )

pub add-requires : goal.add-requires
add-requires c =
    let step : c.rows.key-iterator ≡ (c.in-Some.key.now, c.in-Some.value.now) ∷ c.next.new.self = search rules in
    let name : c.in_ok-name.name ≡ string_bytes c.in-Some.key.now = search rules in
    record { fresh = Named-fresh (IsChannel (count c.args.lattice.now) (length c.args.functions.now)) c.rows.key-iterator c.next.new.self c.args.table.now.entries c.in-Some.key.now c.in-Some.value.now c.rows.channels c.in_ok-name.name c.rows.invariant.3 step name }

pub rows-preserved : goal.rows-preserved
rows-preserved c =
    let row : List ℕ × Channel = (c.in_ok-name.name, record { at = c.in_ok-name.at; function = c.in_ok-name.function }) in
    let step : c.rows.key-iterator ≡ (c.in-Some.key.now, c.in-Some.value.now) ∷ c.next.new.self = search rules in
    let here : channel_row c.args.lattice.now.names c.args.functions.now c.rows.row (string_bytes c.in-Some.key.now, view c.in-Some.value.now) ≡ Ok row = search rules in
    let is : channel_row c.args.lattice.now.names c.args.functions.now (length c.rows.channels + 1) (string_bytes c.in-Some.key.now, view c.in-Some.value.now) ≡ Ok row = rw (← c.rows.invariant.4) here in
    let name : c.in_ok-name.name ≡ string_bytes c.in-Some.key.now = search rules in
    let pushed : c.add.new.self ≡ c.rows.channels ++ row ∷ [] = search rules in (
      tt,
      tt,
      SoFar-next (channel_row c.args.lattice.now.names c.args.functions.now) (members_of (members_view c.args.table.now.entries)) c.rows.key-iterator c.next.new.self c.in-Some.key.now c.in-Some.value.now c.rows.channels c.add.new.self row c.rows.invariant.2 step is pushed,
      Named-next (λ x. x.0) (IsChannel (count c.args.lattice.now) (length c.args.functions.now)) c.rows.key-iterator c.next.new.self c.args.table.now.entries c.in-Some.key.now c.in-Some.value.now c.rows.channels c.add.new.self row c.rows.invariant.3 step name c.in_ok-name.ensures.below pushed,
      (let longer = ap length pushed ∙ length-append c.rows.channels (row ∷ []) in let so = c.rows.invariant.4 in omega arith),
      (let shorter = ap length step in let so = c.rows.invariant.5 in omega arith),
    )
