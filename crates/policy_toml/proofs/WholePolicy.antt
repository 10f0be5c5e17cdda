-- The whole of a policy, from its parts.
use Rattle.std.proofs.Common.{◌≡◌, ℕ, ◌≤◌, ◌<◌, List, Ok, length, map, refl, sym, ◌∙◌, ap, subst}
use Rattle.std.specs.Prelude.{All, IsTrue}
use Rattle.std.proofs.lemmas.List.{length-map}
use Rattle.std.proofs.lemmas.List.Elements.{All-map}
use Rattle.toml.specs.Data.{Members}
use Rattle.label_lattice.specs.Order.{Order, count}
use Rattle.label_limits.specs.Ranges.{AreWithin}
use Rattle.label_limits.specs.declared.limits.Limits.{Limits}
use Rattle.labelled_channel.specs.declared.channels.Channel.{Channel}
use Rattle.gate_rules.specs.declared.gate.Gate.{Gate}
use Rattle.trapeze_io.specs.Names.{Ascend}
use Rattle.policy_toml.specs.Limits.{limits_of}
use Rattle.policy_toml.specs.Functions.{functions_of, is_file_name, IsFunction}
use Rattle.policy_toml.specs.Channels.{channels_of, IsChannel}
use Rattle.policy_toml.specs.Clients.{clients_of, IsClient}
use Rattle.policy_toml.specs.Gates.{gates_of, IsGate}
use Rattle.policy_toml.specs.Parts.{Parts, IsPolicy}
use Rattle.policy_toml.specs.PolicyOf.{table_lattice, table_policy, limits_by_label}

-- what holds of the functions and the clients that were read
pub record FunctionsRead (rows : List (List ℕ × List ℕ)) (names : List (List ℕ)) (files : List (List ℕ)) : Type 0 where
  pub names_are : names ≡ map (λ row. row.0) rows
  pub files_are : files ≡ map (λ row. row.1) rows
  pub ascend : Ascend (map (λ row. row.0) rows)
  pub each : All IsFunction rows
  pub few : length rows ≤ 256

pub record ClientsRead (labels : ℕ) (rows : List (List ℕ × ℕ)) (names : List (List ℕ)) (clearances : List ℕ) : Type 0 where
  pub names_are : names ≡ map (λ row. row.0) rows
  pub clearances_are : clearances ≡ map (λ row. row.1) rows
  pub ascend : Ascend (map (λ row. row.0) rows)
  pub each : All (IsClient labels) rows
  pub few : length rows ≤ 65536

pub is_policy : (order : Order) (limits : List Limits) (channels : List (List ℕ × Channel)) (functions files clients : List (List ℕ)) (clearances : List ℕ) (gates : List (List ℕ × Gate)) (function_rows : List (List ℕ × List ℕ)) (client_rows : List (List ℕ × ℕ))
    → length limits ≡ count order → All AreWithin limits → All (IsChannel (count order) (length functions)) channels
    → FunctionsRead function_rows functions files → ClientsRead (count order) client_rows clients clearances → All (IsGate (count order) (length functions)) gates
    → IsPolicy (record { lattice = order; limits = limits; channels = channels; functions = functions; files = files; clients = clients; clearances = clearances; gates = gates })
is_policy order limits channels functions files clients clearances gates function_rows client_rows one_row within below f c lead =
    let functions_count : length functions ≡ length function_rows = ap length f.names_are ∙ length-map function_rows (λ row. row.0) in
    let files_count : length files ≡ length function_rows = ap length f.files_are ∙ length-map function_rows (λ row. row.1) in
    let clients_count : length clients ≡ length client_rows = ap length c.names_are ∙ length-map client_rows (λ row. row.0) in
    let clearances_count : length clearances ≡ length client_rows = ap length c.clearances_are ∙ length-map client_rows (λ row. row.1) in
    let few_functions : length functions ≤ 256 = rw functions_count f.few in
    let few_clients : length clients ≤ 65536 = rw clients_count c.few in
    record {
      one_row_per_label = one_row;
      limits = within;
      channels = below;
      functions = subst Ascend (sym f.names_are) f.ascend;
      few_functions = few_functions;
      one_file_per_function = files_count ∙ sym functions_count;
      files = subst (λ (x : List (List ℕ)). All (λ file. IsTrue (is_file_name file)) x) (sym f.files_are) (All-map (λ file. IsTrue (is_file_name file)) (λ row. row.1) function_rows f.each);
      clients = subst Ascend (sym c.names_are) c.ascend;
      few_clients = few_clients;
      one_clearance_per_client = clearances_count ∙ sym clients_count;
      clearances = subst (λ (x : List ℕ). All (λ label. label < count order) x) (sym c.clearances_are) (All-map (λ label. label < count order) (λ row. row.1) client_rows c.each);
      gates = lead;
    }

-- each stage gave a value, so the table is a policy
pub accepted : (root : Members) (lattice : Order) (limits : List (ℕ × Limits)) (functions : List (List ℕ × List ℕ)) (channels : List (List ℕ × Channel)) (clients : List (List ℕ × ℕ)) (gates : List (List ℕ × Gate))
    → table_lattice root ≡ Ok lattice → limits_of lattice.names root ≡ Ok limits → functions_of root ≡ Ok functions
    → channels_of lattice.names (map (λ f. f.0) functions) root ≡ Ok channels → clients_of lattice.names root ≡ Ok clients
    → gates_of lattice.names (map (λ f. f.0) functions) root ≡ Ok gates
    → table_policy root ≡ Ok (record {
      lattice = lattice;
      limits = limits_by_label (count lattice) limits;
      channels = channels;
      functions = map (λ f. f.0) functions;
      files = map (λ f. f.1) functions;
      clients = map (λ c. c.0) clients;
      clearances = map (λ c. c.1) clients;
      gates = gates;
    })
unfolding table_policy
accepted root lattice limits functions channels clients gates a b c d e f = rw (a, b, c, d, e, f) refl

abbrev with_parts : Order → List Limits → List (List ℕ × Channel) → List (List ℕ) → List (List ℕ) → List (List ℕ) → List ℕ → List (List ℕ × Gate) → Parts
with_parts lattice limits channels functions files clients clearances gates =
    record { lattice = lattice; limits = limits; channels = channels; functions = functions; files = files; clients = clients; clearances = clearances; gates = gates }

-- parts that are the same make the same policy
pub parts_same : {lattice : Order} {limits limits' : List Limits} {channels : List (List ℕ × Channel)} {functions functions' files files' clients clients' : List (List ℕ)} {clearances clearances' : List ℕ} {gates : List (List ℕ × Gate)}
    → limits ≡ limits' → functions ≡ functions' → files ≡ files' → clients ≡ clients' → clearances ≡ clearances'
    → with_parts lattice limits channels functions files clients clearances gates ≡ with_parts lattice limits' channels functions' files' clients' clearances' gates
parts_same {lattice} {limits} {limits'} {channels} {functions} {functions'} {files} {files'} {clients} {clients'} {clearances} {clearances'} {gates} l f g c d =
    λ i. with_parts lattice (l i) channels (f i) (g i) (c i) (d i) gates
