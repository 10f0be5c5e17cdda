-- The rows of a part, read one by one: what they say, or the first fault among them.
use Rattle.std.specs.Prelude.{ℕ, ◌+◌, Bool, not, List, [], ◌∷◌, Option, Some, None, ok_or, Result, Ok, Err, codes, nat_eq, nat_le, length, if◌then◌else◌}
use Rattle.std.specs.List.{list_any, position_from}
use Rattle.std.specs.Cmp.Lexicographic.{pointwise}
use Rattle.trapeze_io.specs.Answers.{◌>>=◌}
use Rattle.toml.specs.Data.{Data, as_table, Items, no_items, item, Members, no_members, member}
use Rattle.policy_toml.specs.declared.place.Part.{Part}
use Rattle.policy_toml.specs.declared.place.Part.TheVariants as part
use Rattle.policy_toml.specs.declared.place.Place.{Place}
use Rattle.policy_toml.specs.declared.error.PolicyError.{PolicyError}
use Rattle.policy_toml.specs.declared.error.PolicyError.TheVariants.{Extra, WrongKind, BadName, OutOfRange}
use Rattle.policy_toml.specs.Places.{row_place, whole}
use Rattle.trapeze_io.specs.Names.{is_name}

-- a test that gives nothing but its fault
abbrev pub unless : Option PolicyError → Result (Unit {0}) PolicyError
unless None = Ok tt
unless (Some fault) = Err fault

-- each row in order, by its number
abbrev pub each_row : {X Y : Type 0} → (ℕ → X → Result Y PolicyError) → ℕ → List X → Result (List Y) PolicyError
each_row read row [] = Ok []
each_row read row (x ∷ others) = read row x >>= (λ y. each_row read (row + 1) others >>= (λ ys. Ok (y ∷ ys)))

-- the members of an array, and of a table in byte order of their keys
abbrev pub items_of : Items → List Data
items_of no_items = []
items_of (item d others) = d ∷ items_of others

abbrev pub members_of : Members → List (List ℕ × Data)
members_of no_members = []
members_of (member key d others) = (key, d) ∷ members_of others

-- nothing where a part is not written
abbrev pub where_written : {X : Type 0} → Option Data → (Data → Result (List X) PolicyError) → Result (List X) PolicyError
where_written None read = Ok []
where_written (Some d) read = read d

-- the keys of the root, and of the rows of a part
abbrev pub keys_of : Part → List (List ℕ)
keys_of part.Root = codes "labels" ∷ codes "flows" ∷ codes "limits" ∷
    codes "functions" ∷ codes "channels" ∷ codes "clients" ∷ codes "gates" ∷ []
keys_of part.Labels = []
keys_of part.Flows = []
keys_of part.Limits = codes "quantum" ∷ codes "fuel" ∷ codes "pages" ∷ codes "queue" ∷ codes "facets" ∷ codes "bytes" ∷ []
keys_of part.Functions = []
keys_of part.Channels = codes "label" ∷ codes "function" ∷ []
keys_of part.Clients = codes "clearance" ∷ []
keys_of part.Gates = codes "source" ∷ codes "target" ∷ codes "function" ∷ codes "filter" ∷ codes "count" ∷ []

abbrev pub is_key_of : Part → List ℕ → Bool
is_key_of part key = list_any (pointwise nat_eq key) (keys_of part)

-- the first key of a table that is none of the part's, by its place from 1
abbrev pub extra_key : Part → Members → Option ℕ
extra_key part table = position_from (λ row. not (is_key_of part row.0)) 1 (members_of table)

abbrev pub extra_in_row : Place → Option ℕ → Result (Unit {0}) PolicyError
extra_in_row place None = Ok tt
extra_in_row place (Some _) = Err (Extra place)

-- a row's table, which has no key but the part's
abbrev pub row_table : Part → ℕ → Data → Result Members PolicyError
row_table part row d =
    ok_or (as_table d) (WrongKind (row_place part row)) >>= (λ table.
    extra_in_row (row_place part row) (extra_key part table) >>= (λ _. Ok table))

-- a part has at most so many rows
abbrev pub at_most : ℕ → Part → Members → Result (Unit {0}) PolicyError
at_most most part table = if nat_le (length (members_of table)) most then Ok tt else Err (OutOfRange (whole part))

-- a row's key is a name
abbrev pub name_of : Part → ℕ → List ℕ → Result (List ℕ) PolicyError
name_of part row key = if is_name key then Ok key else Err (BadName (row_place part row))
