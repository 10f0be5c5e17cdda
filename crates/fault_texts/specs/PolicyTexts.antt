-- The lines of the faults of a policy.
use Rattle.std.specs.Prelude.{ℕ, List, ◌++◌, codes, decimal}
use Rattle.label_lattice.specs.declared.label.Label.{Label}
use Rattle.label_lattice.specs.declared.error.LatticeError.{LatticeError}
use Rattle.label_lattice.specs.declared.error.LatticeError.TheVariants as lattice
use Rattle.policy_toml.specs.declared.place.Part.{Part}
use Rattle.policy_toml.specs.declared.place.Part.TheVariants as part
use Rattle.policy_toml.specs.declared.place.Place.{Place}
use Rattle.policy_toml.specs.declared.error.PolicyError.{PolicyError}
use Rattle.policy_toml.specs.declared.error.PolicyError.TheVariants as policy

-- a part of a policy
abbrev pub part_name : Part → List ℕ
part_name part.Root = codes "root"
part_name part.Labels = codes "labels"
part_name part.Flows = codes "flows"
part_name part.Limits = codes "limits"
part_name part.Functions = codes "functions"
part_name part.Channels = codes "channels"
part_name part.Clients = codes "clients"
part_name part.Gates = codes "gates"

-- a fault of a policy at its place: the part, the row and the item
abbrev pub place_text : List ℕ → Place → List ℕ
place_text kind place =
    codes "policy: " ++ kind ++ codes " " ++ part_name place.part ++ codes " "
    ++ decimal place.row ++ codes " " ++ decimal place.item ++ codes "\n"

-- a fault of a lattice at a position of its list, or of two labels
abbrev pub position_text : List ℕ → ℕ → List ℕ
position_text kind position = codes "policy: lattice " ++ kind ++ codes " " ++ decimal position ++ codes "\n"

abbrev pub pair_text : List ℕ → Label → Label → List ℕ
pair_text kind a b = codes "policy: lattice " ++ kind ++ codes " " ++ decimal a.number ++ codes " " ++ decimal b.number ++ codes "\n"

-- the line of a lattice's fault
abbrev pub lattice_text : LatticeError → List ℕ
lattice_text lattice.NoLabels = codes "policy: lattice no-labels\n"
lattice_text lattice.TooMany = codes "policy: lattice too-many\n"
lattice_text (lattice.BadName position) = position_text (codes "bad-name") position
lattice_text (lattice.Repeated position) = position_text (codes "repeated") position
lattice_text (lattice.UnknownLabel position) = position_text (codes "unknown-label") position
lattice_text (lattice.Cycle a b) = pair_text (codes "cycle") a b
lattice_text (lattice.NoJoin a b) = pair_text (codes "no-join") a b
lattice_text (lattice.NoMeet a b) = pair_text (codes "no-meet") a b
lattice_text lattice.NoMemory = codes "out of memory\n"

-- the line of a policy's fault
abbrev pub policy_text : PolicyError → List ℕ
policy_text policy.Toml = codes "policy: toml\n"
policy_text (policy.Extra place) = place_text (codes "extra") place
policy_text (policy.Missing place) = place_text (codes "missing") place
policy_text (policy.WrongKind place) = place_text (codes "wrong-kind") place
policy_text (policy.Lattice fault) = lattice_text fault
policy_text (policy.BadName place) = place_text (codes "bad-name") place
policy_text (policy.UnknownLabel place) = place_text (codes "unknown-label") place
policy_text (policy.UnknownFunction place) = place_text (codes "unknown-function") place
policy_text (policy.OutOfRange place) = place_text (codes "out-of-range") place
policy_text policy.NoMemory = codes "out of memory\n"
