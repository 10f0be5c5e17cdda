-- How a policy keeps its parts.
use Rattle.policy_toml.specs.Parts.{Parts, IsPolicy, parts_of}
use Rattle.policy_toml.specs.declared.policy.Policy.TheInside.{Inside}

abbrev pub kept_parts : Inside → Parts
kept_parts p = parts_of p.lattice p.limits.items p.channels p.functions.items p.files.items p.clients.items p.clearances.items p.gates

abbrev pub IsSound : Inside → Type 0
IsSound p = IsPolicy (kept_parts p)
