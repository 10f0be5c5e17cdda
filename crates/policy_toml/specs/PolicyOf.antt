-- The policy that the bytes of a file are.
use Rattle.std.specs.Prelude.{ℕ, ◌==◌, List, find, map, option_map, unwrap_or, Result, Ok}
use Rattle.std.specs.List.{range_with_len}
use Rattle.toml.specs.Data.{Members}
use Rattle.label_lattice.specs.Order.{Order, count}
use Rattle.label_limits.specs.Ranges.{usual}
use Rattle.label_limits.specs.declared.limits.Limits.{Limits}
use Rattle.trapeze_io.specs.Answers.{◌>>=◌}
use Rattle.policy_toml.specs.declared.error.PolicyError.{PolicyError}
use Rattle.policy_toml.specs.Document.{document_of, root_keys}
use Rattle.policy_toml.specs.Labels.{labels_of, flows_of, lattice_of}
use Rattle.policy_toml.specs.Limits.{limits_of}
use Rattle.policy_toml.specs.Functions.{functions_of}
use Rattle.policy_toml.specs.Channels.{channels_of}
use Rattle.policy_toml.specs.Clients.{clients_of}
use Rattle.policy_toml.specs.Gates.{gates_of}
use Rattle.policy_toml.specs.Parts.{Parts}

-- the limits of a label: those of its row, or the usual ones
abbrev pub limits_written : List (ℕ × Limits) → ℕ → Limits
limits_written rows label = unwrap_or (option_map (λ row. row.1) (find (λ row. row.0 == label) rows)) usual

abbrev pub limits_by_label : ℕ → List (ℕ × Limits) → List Limits
limits_by_label labels rows = map (limits_written rows) (range_with_len 0 labels)

-- the lattice of a root table, or the first fault of its keys, labels and flows
unfoldable pub table_lattice : Members → Result Order PolicyError
table_lattice root = do
  known ← root_keys root
  names ← labels_of root
  flows ← flows_of root
  lattice_of names flows

-- the policy that a root table is, or its first fault
unfoldable pub table_policy : Members → Result Parts PolicyError
table_policy root = do
  lattice ← table_lattice root
  limits ← limits_of lattice.names root
  functions ← functions_of root
  channels ← channels_of lattice.names (map (λ f. f.0) functions) root
  clients ← clients_of lattice.names root
  gates ← gates_of lattice.names (map (λ f. f.0) functions) root
  Ok (record {
    lattice = lattice;
    limits = limits_by_label (count lattice) limits;
    channels = channels;
    functions = map (λ f. f.0) functions;
    files = map (λ f. f.1) functions;
    clients = map (λ c. c.0) clients;
    clearances = map (λ c. c.1) clients;
    gates = gates;
  })

-- the policy that the bytes are, or their first fault
abbrev pub policy_of : List ℕ → Result Parts PolicyError
policy_of bytes = document_of bytes >>= table_policy
