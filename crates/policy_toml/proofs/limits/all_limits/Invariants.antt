use Rattle.std.proofs.Common.{◌≡◌}
use Rattle.policy_toml.specs.PolicyOf.{limits_by_label}
use Rattle.policy_toml.proofs.limits.all_limits.Given as goal

abbrev pub invariant-labels : goal.invariant-labels
invariant-labels l = l.all.items ≡ limits_by_label l.label l.rows
