-- Which error is the fault of a policy.
use Rattle.std.specs.Prelude.{Option, Some, None}
use Rattle.policy_toml.specs.declared.error.PolicyError.{PolicyError}
use Rattle.policy_toml.specs.declared.error.PolicyError.TheVariants.{Toml, Extra, Missing, WrongKind, Lattice, BadName, UnknownLabel, UnknownFunction, OutOfRange, NoMemory}

-- each error but out of memory
abbrev pub fault_of : PolicyError → Option PolicyError
fault_of NoMemory = None
fault_of Toml = Some Toml
fault_of (Extra place) = Some (Extra place)
fault_of (Missing place) = Some (Missing place)
fault_of (WrongKind place) = Some (WrongKind place)
fault_of (Lattice fault) = Some (Lattice fault)
fault_of (BadName place) = Some (BadName place)
fault_of (UnknownLabel place) = Some (UnknownLabel place)
fault_of (UnknownFunction place) = Some (UnknownFunction place)
fault_of (OutOfRange place) = Some (OutOfRange place)
