-- The limits of a policy.
use Rattle.std.specs.Prelude.{ℕ, ◌-◌, ◌<◌, List, ok_or, Result, Ok, codes}
use Rattle.std.specs.List.{slice_index_or}
use Rattle.toml.specs.Data.{Data, as_table, Members, get_member}
use Rattle.trapeze_io.specs.Answers.{◌>>=◌}
use Rattle.label_lattice.specs.Order.{place_of}
use Rattle.label_limits.specs.Ranges.{ranges, usual, AreWithin}
use Rattle.label_limits.specs.declared.limits.Limits.{Limits}
use Rattle.policy_toml.specs.declared.place.Part.TheVariants as part
use Rattle.policy_toml.specs.declared.error.PolicyError.{PolicyError}
use Rattle.policy_toml.specs.declared.error.PolicyError.TheVariants.{WrongKind, UnknownLabel}
use Rattle.policy_toml.specs.Places.{whole, row_place, field_of}
use Rattle.policy_toml.specs.Fields.{number_at}
use Rattle.policy_toml.specs.Rows.{each_row, members_of, where_written, row_table}

-- the range of a limit, which are counted from 1
abbrev pub range_of : ℕ → ℕ × ℕ
range_of limit = slice_index_or ranges (limit - 1) (0, 0)

-- the six limits of a row
unfoldable pub row_limits : ℕ → Members → Result Limits PolicyError
row_limits row table = do
  quantum ← number_at (codes "quantum") (range_of 1) usual.quantum (field_of part.Limits row 1) table
  fuel ← number_at (codes "fuel") (range_of 2) usual.fuel (field_of part.Limits row 2) table
  pages ← number_at (codes "pages") (range_of 3) usual.pages (field_of part.Limits row 3) table
  queue ← number_at (codes "queue") (range_of 4) usual.queue (field_of part.Limits row 4) table
  facets ← number_at (codes "facets") (range_of 5) usual.facets (field_of part.Limits row 5) table
  bytes ← number_at (codes "bytes") (range_of 6) usual.bytes (field_of part.Limits row 6) table
  Ok (record { quantum = quantum; fuel = fuel; pages = pages; queue = queue; facets = facets; bytes = bytes })

-- a row of limits is of a label, and a table
abbrev pub limits_row : List (List ℕ) → ℕ → List ℕ × Data → Result (ℕ × Limits) PolicyError
limits_row names row entry =
    ok_or (place_of entry.0 names) (UnknownLabel (row_place part.Limits row)) >>= (λ label.
    row_table part.Limits row entry.1 >>= (λ table.
    row_limits row table >>= (λ limits. Ok (label, limits))))

-- the limits, where they are written, are a table
abbrev pub limits_in : List (List ℕ) → Data → Result (List (ℕ × Limits)) PolicyError
limits_in names d =
    ok_or (as_table d) (WrongKind (whole part.Limits)) >>= (λ table. each_row (limits_row names) 1 (members_of table))

unfoldable pub limits_of : List (List ℕ) → Members → Result (List (ℕ × Limits)) PolicyError
limits_of names root = where_written (get_member (codes "limits") root) (limits_in names)

-- a row of limits is of a label below this count, and within the ranges
pub record IsRowOf (labels : ℕ) (row : ℕ × Limits) : Type 0 where
  pub label : row.0 < labels
  pub limits : AreWithin row.1
