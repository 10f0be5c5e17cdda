-- The fields of a row, by their keys: texts, numbers within a range, labels.
use Rattle.std.specs.Prelude.{ℕ, nat_abs, List, Option, Some, None, ok_or, Result, Ok, Err, ℤ, if◌then◌else◌}
use Rattle.toml.specs.Data.{Data, as_str, as_integer, Members, get_member}
use Rattle.trapeze_io.specs.Answers.{◌>>=◌}
use Rattle.label_lattice.specs.Order.{place_of}
use Rattle.label_limits.specs.Ranges.{is_within}
use Rattle.policy_toml.specs.declared.place.Place.{Place}
use Rattle.policy_toml.specs.declared.error.PolicyError.{PolicyError}
use Rattle.policy_toml.specs.declared.error.PolicyError.TheVariants.{Missing, WrongKind, UnknownLabel, OutOfRange}

-- the text at a key that has to be there
abbrev pub text_at : List ℕ → Place → Members → Result (List ℕ) PolicyError
text_at key place table = ok_or (get_member key table) (Missing place) >>= (λ d. ok_or (as_str d) (WrongKind place))

-- a whole number within a range
abbrev pub number_within : ℕ × ℕ → Place → ℤ → Result ℕ PolicyError
number_within range place number = if is_within range number then Ok (nat_abs number) else Err (OutOfRange place)

-- a field that is a number within a range, and the default where it is not written
abbrev pub number_in : ℕ × ℕ → ℕ → Place → Option Data → Result ℕ PolicyError
number_in range default place None = Ok default
number_in range default place (Some d) = ok_or (as_integer d) (WrongKind place) >>= number_within range place

abbrev pub number_at : List ℕ → ℕ × ℕ → ℕ → Place → Members → Result ℕ PolicyError
number_at key range default place table = number_in range default place (get_member key table)

-- a field that is the name of a label: its number
abbrev pub label_at : List (List ℕ) → List ℕ → Place → Members → Result ℕ PolicyError
label_at names key place table =
    text_at key place table >>= (λ name. ok_or (place_of name names) (UnknownLabel place))
