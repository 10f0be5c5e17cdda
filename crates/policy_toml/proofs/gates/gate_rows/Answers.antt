use Rattle.std.proofs.Common.{◌≡◌, ℕ, ◌+◌, List, [], ◌∷◌, ◌++◌, Ok, length, string_bytes, ◌∙◌, ap, arith, rules}
use Rattle.std.proofs.lemmas.List.{length-append}
use Rattle.toml.specs.View.{view, members_view}
use Rattle.label_lattice.specs.Order.{count}
use Rattle.gate_rules.specs.declared.gate.Gate.{Gate}
use Rattle.policy_toml.specs.Rows.{members_of}
use Rattle.policy_toml.specs.Gates.{gate_row, IsGate}
use Rattle.policy_toml.proofs.Rows.{SoFar-begin, SoFar-next, Named-begin, Named-next, Named-fresh}
use Rattle.policy_toml.proofs.gates.gate_rows.Goals as goal

pub rows-init : goal.rows-init
rows-init c =
    let given = c.into_iter-key-iterator.ensures.into_iter_gives in (
      tt,
      tt,
      SoFar-begin (gate_row c.args.lattice.now.names c.args.functions.now) (members_of (members_view c.args.table.now.entries)) (members_of (members_view c.into_iter-key-iterator.result)) c.new-gates.result (ap (λ es. members_of (members_view es)) given.0) c.new-gates.ensures,
      Named-begin (λ x. x.0) (IsGate (count c.args.lattice.now) (length c.args.functions.now)) c.args.table.now.entries c.into_iter-key-iterator.result c.new-gates.result given.0 c.new-gates.ensures given.5,
      (let none = ap length c.new-gates.ensures in omega arith),
      (let all = ap length given.0 in let few = given.1 in omega arith),
    )

pub add-requires : goal.add-requires
add-requires c =
    let step : c.rows.key-iterator ≡ (c.in-Some.key.now, c.in-Some.value.now) ∷ c.next.new.self = search rules in
    let name : c.in_ok-name.name ≡ string_bytes c.in-Some.key.now = search rules in
    record { fresh = Named-fresh (IsGate (count c.args.lattice.now) (length c.args.functions.now)) c.rows.key-iterator c.next.new.self c.args.table.now.entries c.in-Some.key.now c.in-Some.value.now c.rows.gates c.in_ok-name.name c.rows.invariant.3 step name }

pub rows-preserved : goal.rows-preserved
rows-preserved c =
    let row : List ℕ × Gate = (c.in_ok-name.name, c.in_ok-name.gate) in
    let step : c.rows.key-iterator ≡ (c.in-Some.key.now, c.in-Some.value.now) ∷ c.next.new.self = search rules in
    let here : gate_row c.args.lattice.now.names c.args.functions.now c.rows.row (string_bytes c.in-Some.key.now, view c.in-Some.value.now) ≡ Ok row = search rules in
    let is : gate_row c.args.lattice.now.names c.args.functions.now (length c.rows.gates + 1) (string_bytes c.in-Some.key.now, view c.in-Some.value.now) ≡ Ok row = rw (← c.rows.invariant.4) here in
    let name : c.in_ok-name.name ≡ string_bytes c.in-Some.key.now = search rules in
    let pushed : c.add.new.self ≡ c.rows.gates ++ row ∷ [] = search rules in (
      tt,
      tt,
      SoFar-next (gate_row c.args.lattice.now.names c.args.functions.now) (members_of (members_view c.args.table.now.entries)) c.rows.key-iterator c.next.new.self c.in-Some.key.now c.in-Some.value.now c.rows.gates c.add.new.self row c.rows.invariant.2 step is pushed,
      Named-next (λ x. x.0) (IsGate (count c.args.lattice.now) (length c.args.functions.now)) c.rows.key-iterator c.next.new.self c.args.table.now.entries c.in-Some.key.now c.in-Some.value.now c.rows.gates c.add.new.self row c.rows.invariant.3 step name c.in_ok-name.ensures.below pushed,
      (let longer = ap length pushed ∙ length-append c.rows.gates (row ∷ []) in let so = c.rows.invariant.4 in omega arith),
      (let shorter = ap length step in let so = c.rows.invariant.5 in omega arith),
    )
