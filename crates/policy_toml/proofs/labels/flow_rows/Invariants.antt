use Rattle.std.proofs.Common.{drop}
use Rattle.toml.specs.View.{items_view}
use Rattle.policy_toml.specs.Rows.{items_of}
use Rattle.policy_toml.specs.Labels.{flow_row}
use Rattle.policy_toml.proofs.Rows.{SoFar}
use Rattle.policy_toml.proofs.labels.flow_rows.Given as goal

abbrev pub invariant-rows : goal.invariant-rows
invariant-rows l = SoFar flow_row (items_of (items_view l.values)) (items_of (items_view (drop l.value-index l.values))) l.flows.items
