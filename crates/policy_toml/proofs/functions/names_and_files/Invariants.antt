use Rattle.std.proofs.Common.{◌≡◌, map, string_bytes}
use Rattle.policy_toml.proofs.functions.names_and_files.Given as goal

abbrev pub invariant-functions : goal.invariant-functions
invariant-functions l =
    (goal.iterator-functions).can_next l.function-iterator ×
    (l.names.items ≡ map (λ f. f.0) l.yielded) ×
    (map (λ s. string_bytes s) l.files.items ≡ map (λ f. f.1) l.yielded)
