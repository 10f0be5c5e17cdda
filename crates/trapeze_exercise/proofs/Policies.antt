-- The policy of the exercise, from its parts.
use Rattle.std.proofs.Common.{◌≡◌, ◌<◌, ℕ, zero, suc, List, [], ◌∷◌, map, refl, sym, subst, arith, lit<, lit≤}
use Rattle.std.specs.Global.{Global}
use Rattle.std.specs.Prelude.{All, IsTrue, String, string_bytes}
use Rattle.std.specs.List.{AllByRecursion}
use Rattle.std.specs.List.Sorted.{IsStrictlySortedBy}
use Rattle.label_lattice.specs.declared.label.Label.{Label}
use Rattle.label_lattice.specs.Order.{Order}
use Rattle.label_lattice.specs.Reach.{order_of}
use Rattle.label_limits.specs.Ranges.{AreWithin}
use Rattle.label_limits.specs.declared.limits.Limits.{Limits}
use Rattle.labelled_channel.specs.declared.channels.Channel.{Channel}
use Rattle.gate_rules.specs.declared.gate.Gate.{Gate}
use Rattle.trapeze_io.specs.Names.{Ascend}
use Rattle.policy_toml.specs.Functions.{is_file_name}
use Rattle.policy_toml.specs.Channels.{IsChannel}
use Rattle.policy_toml.specs.Gates.{IsGate}
use Rattle.policy_toml.specs.Parts.{Parts, IsPolicy, parts_of}
use Rattle.trapeze_exercise.specs.BuiltIn.{labels, flows, built_in}
use Rattle.trapeze_exercise.specs.BuiltIn as built

each : {X : Type 0} (P : X → Type 0) (xs : List X) → AllByRecursion P xs → All P xs
each P [] t k d h = absurd (omega arith)
each P (x ∷ xs) t zero d h = t.0
each P (x ∷ xs) t (suc k) d h = each P xs t.1 k d (omega arith)

functions_ascend : Ascend built.functions
unfolding IsStrictlySortedBy
functions_ascend =
    ((refl, (refl, (refl, (refl, (refl, tt))))), ((refl, (refl, (refl, (refl, tt)))), ((refl, (refl, (refl, tt))), ((refl, (refl, tt)), ((refl, tt), (tt, tt))))))

clients_ascend : Ascend built.clients
unfolding IsStrictlySortedBy
clients_ascend = ((refl, (refl, tt)), ((refl, tt), (tt, tt)))

built_policy : IsPolicy built_in
built_policy = record {
  one_row_per_label = refl;
  limits = each AreWithin built.limits (refl, (refl, (refl, (refl, tt))));
  channels = each (IsChannel 4 6) built.channels ((lit< tt, lit< tt), tt);
  functions = functions_ascend;
  few_functions = lit≤ tt;
  one_file_per_function = refl;
  files = each (λ file. IsTrue (is_file_name file)) built.files (refl, (refl, (refl, (refl, (refl, (refl, tt))))));
  clients = clients_ascend;
  few_clients = lit≤ tt;
  one_clearance_per_client = refl;
  clearances = each (λ label. label < 4) built.clearances (lit< tt, (lit< tt, (lit< tt, tt)));
  gates = each (IsGate 4 6) [] tt;
}

-- its parts, as the calls make them
pub built_parts : (lattice : Order) (limits : List Limits) (channels : List (List ℕ × Channel)) (functions : List (List ℕ)) (files : List (String Global)) (clients : List (List ℕ))
    (clearances : List Label) (gates : List (List ℕ × Gate)) → lattice ≡ order_of labels flows → limits ≡ built.limits → channels ≡ built.channels → functions ≡ built.functions
    → map (λ file. string_bytes file) files ≡ built.files → clients ≡ built.clients → map (λ label. label.number) clearances ≡ built.clearances → gates ≡ []
    → parts_of lattice limits channels functions files clients clearances gates ≡ built_in
built_parts lattice limits channels functions files clients clearances gates a b c d e f g h =
    λ i. record { lattice = a i; limits = b i; channels = c i; functions = d i; files = e i; clients = f i; clearances = g i; gates = h i }

-- so they may be put together
pub built_is : (parts : Parts) → parts ≡ built_in → IsPolicy parts
built_is parts same = subst IsPolicy (sym same) built_policy
