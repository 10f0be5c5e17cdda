-- What a file says as a policy, and a name as a label.
use Rattle.std.specs.Prelude.{◌≡◌, ℕ, List, Option, Some, None, Result, Ok, Err}
use Rattle.label_lattice.specs.Order.{place_of}
use Rattle.label_lattice.specs.declared.label.Label.{Label as LabelNumber}
use Rattle.policy_toml.specs.Parts.{Parts}
use Rattle.policy_toml.specs.PolicyOf.{policy_of}
use Rattle.policy_toml.specs.declared.error.PolicyError.{PolicyError}
use Rattle.file_calls.specs.declared.error.FileError.{FileError}
use Rattle.file_calls.specs.declared.error.FileError.TheVariants.{Refused}
use Rattle.file_calls.specs.Sources.{Source}
use Rattle.file_calls.specs.Steps.{Step, one_file, no_file, and_then}
use Rattle.read_setting.specs.declared.refusal.Refusal.{Refusal}
use Rattle.read_setting.specs.declared.refusal.Refusal.TheVariants.{Policy, Label}

-- the most bytes of a policy file
abbrev pub policy_limit : ℕ
policy_limit = 1048576

abbrev pub policy_source : List ℕ → Source
policy_source name = record { name = name; limit = policy_limit }

abbrev pub accepted : ℕ → Result Parts PolicyError → Result Parts (FileError Refusal)
accepted place (Ok policy) = Ok policy
accepted place (Err fault) = Err (Refused place (Policy fault))

-- the policy that the bytes of the file at a place say, or its first fault
abbrev pub policy_said : ℕ → List ℕ → Result Parts (FileError Refusal)
policy_said place bytes = accepted place (policy_of bytes)

abbrev pub policy_step : ℕ → List ℕ → Step Parts Refusal
policy_step place name = and_then (one_file place (policy_source name)) (λ bytes. no_file (λ r. policy_said place bytes ≡ r))

abbrev pub label_at : ℕ → Option ℕ → Result LabelNumber (FileError Refusal)
label_at place None = Err (Refused place Label)
label_at place (Some number) = Ok (record { number = number })

-- the label of a name among those of the policy at a place
abbrev pub label_said : ℕ → List (List ℕ) → List ℕ → Result LabelNumber (FileError Refusal)
label_said place labels name = label_at place (place_of name labels)
