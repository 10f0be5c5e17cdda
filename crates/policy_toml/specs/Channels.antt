-- The channels of a policy.
use Rattle.std.specs.Prelude.{ℕ, ◌<◌, List, ok_or, Result, Ok, codes}
use Rattle.label_lattice.specs.declared.label.Label.{Label}
use Rattle.toml.specs.Data.{Data, as_table, Members, get_member}
use Rattle.trapeze_io.specs.Answers.{◌>>=◌}
use Rattle.labelled_channel.specs.declared.channels.Channel.{Channel}
use Rattle.policy_toml.specs.declared.place.Part.TheVariants as part
use Rattle.policy_toml.specs.declared.error.PolicyError.{PolicyError}
use Rattle.policy_toml.specs.declared.error.PolicyError.TheVariants.{WrongKind}
use Rattle.policy_toml.specs.Places.{whole, field_of}
use Rattle.policy_toml.specs.Functions.{function_at}
use Rattle.policy_toml.specs.Fields.{label_at}
use Rattle.policy_toml.specs.Rows.{name_of, each_row, members_of, where_written, row_table}

-- a channel has a name, a label and a function
abbrev pub channel_row : List (List ℕ) → List (List ℕ) → ℕ → List ℕ × Data → Result (List ℕ × Channel) PolicyError
channel_row names functions row entry =
    name_of part.Channels row entry.0 >>= (λ name.
    row_table part.Channels row entry.1 >>= (λ table.
    label_at names (codes "label") (field_of part.Channels row 1) table >>= (λ label.
    function_at functions (codes "function") (field_of part.Channels row 2) table >>= (λ function.
    Ok (name, record { at = record { number = label }; function = function })))))

-- the channels, where they are written, are a table
abbrev pub channels_in : List (List ℕ) → List (List ℕ) → Data → Result (List (List ℕ × Channel)) PolicyError
channels_in names functions d =
    ok_or (as_table d) (WrongKind (whole part.Channels)) >>= (λ table. each_row (channel_row names functions) 1 (members_of table))

unfoldable pub channels_of : List (List ℕ) → List (List ℕ) → Members → Result (List (List ℕ × Channel)) PolicyError
channels_of names functions root = where_written (get_member (codes "channels") root) (channels_in names functions)

-- a channel as it is read
abbrev pub shown_channel : List ℕ × Label × ℕ → List ℕ × Channel
shown_channel row = (row.0, record { at = row.1; function = row.2 })

-- a channel's label and function are below these counts
abbrev pub IsChannel : ℕ → ℕ → List ℕ × Channel → Type 0
IsChannel labels functions channel = (channel.1.at.number < labels) × (channel.1.function < functions)
