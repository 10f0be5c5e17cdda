use Rattle.std.proofs.Common.{◌∙◌}
use Rattle.trapeze_exercise.proofs.Policies.{built_parts, built_is}
use Rattle.trapeze_exercise.proofs.policy.built_in_policy.Goals as goal

pub from_parts-requires : goal.from_parts-requires
from_parts-requires c =
    built_is _ (built_parts _ _ _ _ _ _ _ _ c.in_ok-lattice.ensures c.in_ok-limits.ensures c.in_ok-channels.ensures c.in_ok-functions.ensures.names c.in_ok-functions.ensures.files
    c.in_ok-clients.ensures.names c.in_ok-clients.ensures.clearances c.new.ensures)

pub returns : goal.returns
returns c =
    c.from_parts.ensures ∙ built_parts _ _ _ _ _ _ _ _ c.in_ok-lattice.ensures c.in_ok-limits.ensures c.in_ok-channels.ensures c.in_ok-functions.ensures.names
    c.in_ok-functions.ensures.files c.in_ok-clients.ensures.names c.in_ok-clients.ensures.clearances c.new.ensures
