-- The clients of a policy.
use Rattle.std.specs.Prelude.{ℕ, ◌<◌, List, ok_or, Result, Ok, codes}
use Rattle.toml.specs.Data.{Data, as_table, Members, get_member}
use Rattle.trapeze_io.specs.Answers.{◌>>=◌}
use Rattle.policy_toml.specs.declared.place.Part.TheVariants as part
use Rattle.policy_toml.specs.declared.error.PolicyError.{PolicyError}
use Rattle.policy_toml.specs.declared.error.PolicyError.TheVariants.{WrongKind}
use Rattle.policy_toml.specs.Places.{whole, field_of}
use Rattle.policy_toml.specs.Fields.{label_at}
use Rattle.policy_toml.specs.Rows.{at_most, name_of, each_row, members_of, where_written, row_table}

-- a client has a name and a clearance, which is a label
abbrev pub client_row : List (List ℕ) → ℕ → List ℕ × Data → Result (List ℕ × ℕ) PolicyError
client_row names row entry =
    name_of part.Clients row entry.0 >>= (λ name.
    row_table part.Clients row entry.1 >>= (λ table.
    label_at names (codes "clearance") (field_of part.Clients row 1) table >>= (λ label. Ok (name, label))))

-- the clients, where they are written, are a table of at most 65,536
abbrev pub clients_in : List (List ℕ) → Data → Result (List (List ℕ × ℕ)) PolicyError
clients_in names d =
    ok_or (as_table d) (WrongKind (whole part.Clients)) >>= (λ table.
    at_most 65536 part.Clients table >>= (λ _. each_row (client_row names) 1 (members_of table)))

unfoldable pub clients_of : List (List ℕ) → Members → Result (List (List ℕ × ℕ)) PolicyError
clients_of names root = where_written (get_member (codes "clients") root) (clients_in names)

-- a client's clearance is below this count
abbrev pub IsClient : ℕ → List ℕ × ℕ → Type 0
IsClient labels client = client.1 < labels
