-- The labels of a policy and the flows between them.
use Rattle.std.specs.Prelude.{ℕ, List, Option, None, option_map, option_and_then, ok_or, Result, Ok, codes}
use Rattle.toml.specs.Data.{Data, as_str, as_array, Items, no_items, item, Members, get_member}
use Rattle.trapeze_io.specs.Answers.{◌>>=◌}
use Rattle.label_lattice.specs.Order.{Order}
use Rattle.label_lattice.specs.Reach.{order_of}
use Rattle.label_lattice.specs.Faults.{first_fault}
use Rattle.policy_toml.specs.declared.place.Part.TheVariants as part
use Rattle.policy_toml.specs.declared.error.PolicyError.{PolicyError}
use Rattle.policy_toml.specs.declared.error.PolicyError.TheVariants.{Missing, WrongKind, Lattice}
use Rattle.policy_toml.specs.Places.{whole, row_place}
use Rattle.policy_toml.specs.Rows.{unless, each_row, items_of, where_written}

-- a label is a text
abbrev pub label_row : ℕ → Data → Result (List ℕ) PolicyError
label_row row d = ok_or (as_str d) (WrongKind (row_place part.Labels row))

-- the labels are there, an array
unfoldable pub labels_of : Members → Result (List (List ℕ)) PolicyError
labels_of root =
    ok_or (get_member (codes "labels") root) (Missing (whole part.Labels)) >>= (λ d.
    ok_or (as_array d) (WrongKind (whole part.Labels)) >>= (λ items.
    each_row label_row 1 (items_of items)))

-- an array of exactly two texts
abbrev pub two_texts : Items → Option (List ℕ × List ℕ)
two_texts (item from (item to no_items)) = option_and_then (λ a. option_map (λ b. (a, b)) (as_str to)) (as_str from)
two_texts _ = None

abbrev pub pair_of : Data → Option (List ℕ × List ℕ)
pair_of d = option_and_then two_texts (as_array d)

-- a flow is an array of two texts
abbrev pub flow_row : ℕ → Data → Result (List ℕ × List ℕ) PolicyError
flow_row row d = ok_or (pair_of d) (WrongKind (row_place part.Flows row))

-- the flows, where they are written, are an array
abbrev pub flows_in : Data → Result (List (List ℕ × List ℕ)) PolicyError
flows_in d = ok_or (as_array d) (WrongKind (whole part.Flows)) >>= (λ items. each_row flow_row 1 (items_of items))

unfoldable pub flows_of : Members → Result (List (List ℕ × List ℕ)) PolicyError
flows_of root = where_written (get_member (codes "flows") root) flows_in

-- the order of the labels and flows, which is a lattice
unfoldable pub lattice_of : List (List ℕ) → List (List ℕ × List ℕ) → Result Order PolicyError
lattice_of names pairs = unless (option_map Lattice (first_fault names pairs)) >>= (λ _. Ok (order_of names pairs))
