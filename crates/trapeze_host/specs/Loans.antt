-- What a host is lent.
use Rattle.std.specs.Prelude.{ℕ, List}
use Rattle.event_file.specs.Known.{Known}
use Rattle.policy_toml.specs.Parts.{Parts}
use Rattle.wasm_ast.specs.declared.modules.Module.{Module}
use Rattle.wasm_semantics.specs.Threads.{Thread}
use Rattle.host_rules.specs.Rules.{Rules}
use Rattle.host_rules.specs.Policies.{rules_of}
use Rattle.host_rules.specs.Guests.{Guest}
use Rattle.host_rules.specs.Modules.{module_at, guest_of}

-- a policy, and the modules of its functions
pub record Loan : Type 0 where
  pub policy : Parts
  pub modules : List Module

-- what the reader of events knows of a policy
abbrev pub known_in : Parts → Known
known_in parts = record { labels = parts.lattice.names; clients = parts.clients; functions = parts.functions }

-- what the rules see of it
abbrev pub rules_in : Loan → Rules
rules_in loan = rules_of loan.policy

abbrev pub guest_in : Loan → Guest Thread
guest_in loan = guest_of loan.modules

-- the module of a function
abbrev pub module_in : Loan → ℕ → Module
module_in loan f = module_at loan.modules f
