-- What a policy holds, and what holds of it.
use Rattle.std.specs.Prelude.{◌≡◌, ℕ, ◌<◌, ◌≤◌, List, All, IsTrue, String, length, map, string_bytes}
use Rattle.std.specs.Global.{Global}
use Rattle.label_lattice.specs.Order.{Order, count}
use Rattle.label_lattice.specs.declared.label.Label.{Label}
use Rattle.label_limits.specs.Ranges.{AreWithin}
use Rattle.label_limits.specs.declared.limits.Limits.{Limits}
use Rattle.labelled_channel.specs.declared.channels.Channel.{Channel}
use Rattle.gate_rules.specs.declared.gate.Gate.{Gate}
use Rattle.trapeze_io.specs.Names.{Ascend}
use Rattle.policy_toml.specs.Functions.{is_file_name}
use Rattle.policy_toml.specs.Channels.{IsChannel}
use Rattle.policy_toml.specs.Gates.{IsGate}

-- the parts of a policy; functions and clients are numbered by position
pub record Parts : Type 0 where
  pub lattice : Order
  pub limits : List Limits
  pub channels : List (List ℕ × Channel)
  pub functions : List (List ℕ)
  pub files : List (List ℕ)
  pub clients : List (List ℕ)
  pub clearances : List ℕ
  pub gates : List (List ℕ × Gate)

-- the parts as the code keeps them: file names as texts, clearances as labels
abbrev pub parts_of :
    Order → List Limits → List (List ℕ × Channel) → List (List ℕ) → List (String Global) →
    List (List ℕ) → List Label → List (List ℕ × Gate) → Parts
parts_of lattice limits channels functions files clients clearances gates = record {
  lattice = lattice;
  limits = limits;
  channels = channels;
  functions = functions;
  files = map string_bytes files;
  clients = clients;
  clearances = map (λ label. label.number) clearances;
  gates = gates;
}

-- a row of limits for each label, a file for each function, a clearance for each client; names in byte order; no number out of range
pub record IsPolicy (parts : Parts) : Type 0 where
  pub one_row_per_label : length parts.limits ≡ count parts.lattice
  pub limits : All AreWithin parts.limits
  pub channels : All (IsChannel (count parts.lattice) (length parts.functions)) parts.channels
  pub functions : Ascend parts.functions
  pub few_functions : length parts.functions ≤ 256
  pub one_file_per_function : length parts.files ≡ length parts.functions
  pub files : All (λ file. IsTrue (is_file_name file)) parts.files
  pub clients : Ascend parts.clients
  pub few_clients : length parts.clients ≤ 65536
  pub one_clearance_per_client : length parts.clearances ≡ length parts.clients
  pub clearances : All (λ label. label < count parts.lattice) parts.clearances
  pub gates : All (IsGate (count parts.lattice) (length parts.functions)) parts.gates
