-- The rules of a policy that was read.
use Rattle.label_lattice.specs.Order.{count}
use Rattle.label_lattice.specs.Reach.{flows}
use Rattle.label_lattice.specs.Joins.{join}
use Rattle.label_lattice.specs.Sound.{IsSound}
use Rattle.policy_toml.specs.Parts.{Parts}
use Rattle.host_rules.specs.Rules.{Rules, IsOrdered}

-- what the rules see of the parts of a policy
abbrev pub rules_of : Parts → Rules
rules_of parts = record {
  labels = parts.lattice.names;
  flows = flows parts.lattice;
  join = join (count parts.lattice) (flows parts.lattice);
  limits = parts.limits;
  functions = parts.functions;
  channels = parts.channels;
  clients = parts.clients;
  clearances = parts.clearances;
  gates = parts.gates;
}

-- the labels of every policy are ordered
abbrev pub AreOrdered : Type 0
AreOrdered = (parts : Parts) → IsSound parts.lattice → IsOrdered (rules_of parts)
