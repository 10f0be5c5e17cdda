use Rattle.std.proofs.Common.{◌≡◌, map}
use Rattle.policy_toml.proofs.clients.names_and_clearances.Given as goal

abbrev pub invariant-clients : goal.invariant-clients
invariant-clients l =
    (goal.iterator-clients).can_next l.client-iterator ×
    (l.names.items ≡ map (λ c. c.0) l.yielded) ×
    (map (λ s. s.number) l.clearances.items ≡ map (λ c. c.1) l.yielded)
