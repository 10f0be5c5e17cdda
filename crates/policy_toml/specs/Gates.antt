-- The gates of a policy.
use Rattle.std.specs.Prelude.{ℕ, ◌<◌, List, Option, Some, None, ok_or, Result, Ok, codes, if◌then◌else◌}
use Rattle.std.specs.Str.{bytes_eq}
use Rattle.toml.specs.Data.{Data, as_table, Members, get_member}
use Rattle.trapeze_io.specs.Answers.{◌>>=◌}
use Rattle.gate_rules.specs.declared.filter.Filter.{Filter}
use Rattle.gate_rules.specs.declared.filter.Filter.TheVariants as filter
use Rattle.gate_rules.specs.declared.gate.Gate.{Gate}
use Rattle.policy_toml.specs.declared.place.Part.TheVariants as part
use Rattle.policy_toml.specs.declared.place.Place.{Place}
use Rattle.policy_toml.specs.declared.error.PolicyError.{PolicyError}
use Rattle.policy_toml.specs.declared.error.PolicyError.TheVariants.{WrongKind}
use Rattle.policy_toml.specs.Places.{whole, field_of}
use Rattle.policy_toml.specs.Functions.{function_at}
use Rattle.policy_toml.specs.Fields.{text_at, number_at, label_at}
use Rattle.policy_toml.specs.Rows.{name_of, each_row, members_of, where_written, row_table}

-- the most bytes of which a gate may let through the first ones
abbrev pub largest_count : ℕ
largest_count = 65536

-- the filter of a text, with the largest count
abbrev pub filter_named : List ℕ → Option Filter
filter_named text =
    if bytes_eq text (codes "all") then Some filter.All
    else if bytes_eq text (codes "length") then Some filter.Length
    else if bytes_eq text (codes "first") then Some (filter.First largest_count)
    else None

-- a field that is one of the three texts
abbrev pub filter_at : List ℕ → Place → Members → Result Filter PolicyError
filter_at key place table = text_at key place table >>= (λ text. ok_or (filter_named text) (WrongKind place))

-- a count is of the first bytes alone
abbrev pub with_count : Filter → ℕ → Filter
with_count filter.All count = filter.All
with_count filter.Length count = filter.Length
with_count (filter.First most) count = filter.First count

-- a gate has a source and a target, which are labels, a function, a filter and a count
unfoldable pub gate_fields : List (List ℕ) → List (List ℕ) → ℕ → Members → Result Gate PolicyError
gate_fields names functions row table = do
  source ← label_at names (codes "source") (field_of part.Gates row 1) table
  target ← label_at names (codes "target") (field_of part.Gates row 2) table
  function ← function_at functions (codes "function") (field_of part.Gates row 3) table
  lets ← filter_at (codes "filter") (field_of part.Gates row 4) table
  count ← number_at (codes "count") (0, largest_count) largest_count (field_of part.Gates row 5) table
  Ok (record {
    source = record { number = source };
    target = record { number = target };
    function = function;
    filter = with_count lets count;
  })

-- a gate has a name, and its row is a table
abbrev pub gate_row : List (List ℕ) → List (List ℕ) → ℕ → List ℕ × Data → Result (List ℕ × Gate) PolicyError
gate_row names functions row entry =
    name_of part.Gates row entry.0 >>= (λ name.
    row_table part.Gates row entry.1 >>= (λ table.
    gate_fields names functions row table >>= (λ gate. Ok (name, gate))))

-- the gates, where they are written, are a table
abbrev pub gates_in : List (List ℕ) → List (List ℕ) → Data → Result (List (List ℕ × Gate)) PolicyError
gates_in names functions d =
    ok_or (as_table d) (WrongKind (whole part.Gates)) >>= (λ table. each_row (gate_row names functions) 1 (members_of table))

unfoldable pub gates_of : List (List ℕ) → List (List ℕ) → Members → Result (List (List ℕ × Gate)) PolicyError
gates_of names functions root = where_written (get_member (codes "gates") root) (gates_in names functions)

-- a gate's labels and function are below these counts
abbrev pub IsGate : ℕ → ℕ → List ℕ × Gate → Type 0
IsGate labels functions gate =
    (gate.1.source.number < labels) × (gate.1.target.number < labels) × (gate.1.function < functions)
