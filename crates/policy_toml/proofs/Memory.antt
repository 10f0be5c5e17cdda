-- Being out of memory is no fault of a policy.
use Rattle.std.proofs.Common.{◌≢◌, ℕ, ◌+◌, List, [], ◌∷◌, Bool, true, false, Some, None, Ok, Err, subst, ap, ◌∙◌}
use Rattle.std.specs.Prelude.{⊤, Option, Result, IfErr, IfSome, ok_or, option_map, if◌then◌else◌}
use Rattle.std.specs.Option.{option_or}
use Rattle.toml.specs.Data.{Data, Members}
use Rattle.label_lattice.specs.declared.error.LatticeError.{LatticeError}
use Rattle.label_lattice.specs.declared.error.LatticeError.TheVariants as lattice
use Rattle.label_lattice.specs.Faults.{first_of, first_fault}
use Rattle.trapeze_io.specs.Answers.{◌>>=◌}
use Rattle.policy_toml.specs.declared.error.PolicyError.{PolicyError}
use Rattle.policy_toml.specs.declared.error.PolicyError.TheVariants.{Extra, Lattice, NoMemory}
use Rattle.policy_toml.specs.declared.place.Part.TheVariants as part
use Rattle.policy_toml.specs.declared.place.Place.{Place}
use Rattle.policy_toml.specs.Places.{row_place}
use Rattle.trapeze_io.specs.Answers.{AnswersBy}
use Rattle.policy_toml.specs.Faults.{fault_of}
use Rattle.policy_toml.specs.Rows.{unless, each_row, where_written, extra_key, extra_in_row}
use Rattle.policy_toml.specs.Fields.{number_in}
use Rattle.policy_toml.specs.Document.{root_keys}
use Rattle.policy_toml.specs.Labels.{labels_of, flows_of, lattice_of}
use Rattle.policy_toml.specs.Limits.{row_limits, limits_of}
use Rattle.policy_toml.specs.Functions.{functions_of}
use Rattle.policy_toml.specs.Channels.{channels_of}
use Rattle.policy_toml.specs.Clients.{clients_of}
use Rattle.policy_toml.specs.Gates.{gate_fields, gates_of}
use Rattle.policy_toml.specs.Parts.{Parts}
use Rattle.policy_toml.specs.PolicyOf.{policy_of, table_lattice, table_policy}

-- an error that says what is wrong with names and pairs
abbrev IsLatticeFault : LatticeError → Type 0
IsLatticeFault lattice.NoMemory = ⊥
IsLatticeFault _ = ⊤

-- an error that says what is wrong with a policy
abbrev IsFault : PolicyError → Type 0
IsFault (Lattice fault) = IsLatticeFault fault
IsFault NoMemory = ⊥
IsFault _ = ⊤

-- an answer that is a value or such a fault
record OnlyFaults {X : Type 0} (answer : Result X PolicyError) : Type 0 where
  pub fault : IfErr answer IsFault

faults_none : {X : Type 0} (x : X) → OnlyFaults (Ok x)
faults_none x = record { fault = tt }

faults_or : {X : Type 0} (o : Option X) (e : PolicyError) → IsFault e → OnlyFaults (ok_or o e)
faults_or (Some x) e here = record { fault = tt }
faults_or None e here = record { fault = here }

faults_if : {X : Type 0} (b : Bool) (answer : Result X PolicyError) (e : PolicyError) → OnlyFaults answer → IsFault e → OnlyFaults (if b then answer else Err e)
faults_if true answer e here other = here
faults_if false answer e here other = record { fault = other }

faults_then : {X Y : Type 0} (answer : Result X PolicyError) (next : X → Result Y PolicyError) → OnlyFaults answer → ((x : X) → OnlyFaults (next x)) → OnlyFaults (answer >>= next)
faults_then (Ok x) next here there = there x
faults_then (Err e) next here there = record { fault = here.fault }

faults_rows : {X Y : Type 0} (read : ℕ → X → Result Y PolicyError) (row : ℕ) (rows : List X) → ((row : ℕ) (x : X) → OnlyFaults (read row x)) → OnlyFaults (each_row read row rows)
faults_rows read row [] each = faults_none []
faults_rows read row (x ∷ rows) each =
    faults_then (read row x) (λ y. each_row read (row + 1) rows >>= (λ ys. Ok (y ∷ ys))) (each row x) (λ y.
    faults_then (each_row read (row + 1) rows) (λ ys. Ok (y ∷ ys)) (faults_rows read (row + 1) rows each) (λ ys. faults_none (y ∷ ys)))

faults_written : {X : Type 0} (written : Option Data) (read : Data → Result (List X) PolicyError) → ((d : Data) → OnlyFaults (read d)) → OnlyFaults (where_written written read)
faults_written None read each = faults_none []
faults_written (Some d) read each = each d

faults_key : (place : Place) (key : Option ℕ) → OnlyFaults (extra_in_row place key)
faults_key place None = faults_none tt
faults_key place (Some k) = record { fault = tt }

faults_number : (range : ℕ × ℕ) (default : ℕ) (place : Place) (written : Option Data) → OnlyFaults (number_in range default place written)
faults_number range default place None = faults_none default
faults_number range default place (Some d) = search (faults_none, faults_or, faults_if, faults_then)

-- by these the definitions are read
ruleset faults = (faults_none, faults_or, faults_if, faults_then, faults_rows, faults_written, faults_key, faults_number)

-- the faults of names and pairs
record OnlyLatticeFaults (found : Option LatticeError) : Type 0 where
  pub fault : IfSome found IsLatticeFault

found_none : OnlyLatticeFaults None
found_none = record { fault = tt }

found_one : (fault : LatticeError) → IsLatticeFault fault → OnlyLatticeFaults (Some fault)
found_one fault here = record { fault = here }

found_if : (b : Bool) (first next : Option LatticeError) → OnlyLatticeFaults first → OnlyLatticeFaults next → OnlyLatticeFaults (if b then first else next)
found_if true first next here there = here
found_if false first next here there = there

found_or : (first next : Option LatticeError) → OnlyLatticeFaults first → OnlyLatticeFaults next → OnlyLatticeFaults (option_or first next)
found_or None next here there = there
found_or (Some fault) next here there = here

found_map : {X : Type 0} (fault_of : X → LatticeError) (found : Option X) → ((x : X) → IsLatticeFault (fault_of x)) → OnlyLatticeFaults (option_map fault_of found)
found_map fault_of None each = found_none
found_map fault_of (Some x) each = record { fault = each x }

found_first : {X : Type 0} (fault_of : X → Option LatticeError) (xs : List X) → ((x : X) → OnlyLatticeFaults (fault_of x)) → OnlyLatticeFaults (first_of fault_of xs)
found_first fault_of [] each = found_none
found_first fault_of (x ∷ xs) each = found_or (fault_of x) (first_of fault_of xs) (each x) (found_first fault_of xs each)

lattice_found : (names : List (List ℕ)) (pairs : List (List ℕ × List ℕ)) → OnlyLatticeFaults (first_fault names pairs)
lattice_found names pairs = search (found_none, found_one, found_if, found_or, found_map, found_first) depth 12

faults_unless : (fault : Option LatticeError) → OnlyLatticeFaults fault → OnlyFaults (unless (option_map Lattice fault))
faults_unless None found = faults_none tt
faults_unless (Some fault) found = record { fault = found.fault }

-- each stage
root_faults : (root : Members) → OnlyFaults (root_keys root)
unfolding root_keys
root_faults root = elim (extra_key part.Root root) as (λ key. OnlyFaults (unless (option_map (λ row. Extra (row_place part.Root row)) key))) [ None ↦ faults_none tt | Some row ↦ record { fault = tt } ]

labels_faults : (root : Members) → OnlyFaults (labels_of root)
unfolding labels_of
labels_faults root = search faults depth 16

flows_faults : (root : Members) → OnlyFaults (flows_of root)
unfolding flows_of
flows_faults root = search faults depth 16

limits_faults : (names : List (List ℕ)) (root : Members) → OnlyFaults (limits_of names root)
unfolding limits_of row_limits
limits_faults names root = search faults depth 16

functions_faults : (root : Members) → OnlyFaults (functions_of root)
unfolding functions_of
functions_faults root = search faults depth 16

channels_faults : (names functions : List (List ℕ)) (root : Members) → OnlyFaults (channels_of names functions root)
unfolding channels_of
channels_faults names functions root = search faults depth 16

clients_faults : (names : List (List ℕ)) (root : Members) → OnlyFaults (clients_of names root)
unfolding clients_of
clients_faults names root = search faults depth 16

gates_faults : (names functions : List (List ℕ)) (root : Members) → OnlyFaults (gates_of names functions root)
unfolding gates_of gate_fields
gates_faults names functions root = search faults depth 16

lattice_faults : (names : List (List ℕ)) (pairs : List (List ℕ × List ℕ)) → OnlyFaults (lattice_of names pairs)
unfolding lattice_of
lattice_faults names pairs = search (faults_none, faults_then, faults_unless, lattice_found)

table_lattice_faults : (root : Members) → OnlyFaults (table_lattice root)
unfolding table_lattice
table_lattice_faults root = search (faults_none, faults_then, root_faults, labels_faults, flows_faults, lattice_faults) depth 16

table_faults : (root : Members) → OnlyFaults (table_policy root)
unfolding table_policy
table_faults root = search (faults_none, faults_then, table_lattice_faults, limits_faults, functions_faults, channels_faults, clients_faults, gates_faults) depth 16

policy_faults : (bytes : List ℕ) → OnlyFaults (policy_of bytes)
policy_faults bytes = search (faults_or, faults_then, faults_if, table_faults)

-- the fault of a policy is never that memory was refused to its lattice
pub no_memory_fault : (bytes : List ℕ) → policy_of bytes ≢ Err (Lattice lattice.NoMemory)
no_memory_fault bytes is = subst (λ (r : Result Parts PolicyError). IfErr r IsFault) is (policy_faults bytes).fault

pub not_of_memory : {T : Type 0} (shown : T → Parts) (bytes : List ℕ) (result : Result T PolicyError) → AnswersBy fault_of shown (policy_of bytes) result
    → IfErr result (λ e. e ≢ Lattice lattice.NoMemory)
not_of_memory shown bytes (Ok x) read = tt
not_of_memory shown bytes (Err e) read = λ is. no_memory_fault bytes (read (Lattice lattice.NoMemory) (ap fault_of is))
