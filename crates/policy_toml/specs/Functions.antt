-- The functions of a policy.
use Rattle.std.specs.Prelude.{IsTrue, ℕ, Bool, ◌&&◌, nat_le, List, length, ok_or, Result, Ok, Err, codes, if◌then◌else◌}
use Rattle.toml.specs.Data.{Data, as_str, as_table, Members, get_member}
use Rattle.trapeze_io.specs.Answers.{◌>>=◌}
use Rattle.label_lattice.specs.Order.{place_of}
use Rattle.policy_toml.specs.declared.place.Part.TheVariants as part
use Rattle.policy_toml.specs.declared.place.Place.{Place}
use Rattle.policy_toml.specs.declared.error.PolicyError.{PolicyError}
use Rattle.policy_toml.specs.declared.error.PolicyError.TheVariants.{WrongKind, UnknownFunction, OutOfRange}
use Rattle.policy_toml.specs.Places.{whole, row_place}
use Rattle.policy_toml.specs.Fields.{text_at}
use Rattle.policy_toml.specs.Rows.{at_most, name_of, each_row, members_of, where_written}

-- a function has a name, and a file name of 1 to 255 bytes
abbrev pub is_file_name : List ℕ → Bool
is_file_name file = nat_le 1 (length file) && nat_le (length file) 255

abbrev pub function_row : ℕ → List ℕ × Data → Result (List ℕ × List ℕ) PolicyError
function_row row entry =
    name_of part.Functions row entry.0 >>= (λ name.
    ok_or (as_str entry.1) (WrongKind (row_place part.Functions row)) >>= (λ file.
    if is_file_name file then Ok (name, file) else Err (OutOfRange (row_place part.Functions row))))

-- the functions, where they are written, are a table of at most 256
abbrev pub functions_in : Data → Result (List (List ℕ × List ℕ)) PolicyError
functions_in d =
    ok_or (as_table d) (WrongKind (whole part.Functions)) >>= (λ table.
    at_most 256 part.Functions table >>= (λ _. each_row function_row 1 (members_of table)))

unfoldable pub functions_of : Members → Result (List (List ℕ × List ℕ)) PolicyError
functions_of root = where_written (get_member (codes "functions") root) functions_in

-- a field that is the name of a function: its number
abbrev pub function_at : List (List ℕ) → List ℕ → Place → Members → Result ℕ PolicyError
function_at functions key place table =
    text_at key place table >>= (λ name. ok_or (place_of name functions) (UnknownFunction place))

-- a function has a file name of 1 to 255 bytes
abbrev pub IsFunction : List ℕ × List ℕ → Type 0
IsFunction function = IsTrue (is_file_name function.1)
