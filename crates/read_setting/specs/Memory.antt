-- Being out of memory is an end of its own, and no fault of a policy or of a module.
use Rattle.std.specs.Prelude.{◌≡◌, ◌≢◌, ◌⊎◌, ⊤, ℕ}
use Rattle.label_lattice.specs.declared.error.LatticeError.TheVariants.{NoMemory as lattice_no_memory}
use Rattle.policy_toml.specs.declared.error.PolicyError.TheVariants.{Lattice, NoMemory as policy_no_memory}
use Rattle.wasm_code.specs.declared.error.DecodeError.TheVariants.{NoMemory as decode_no_memory}
use Rattle.wasm_validate.specs.declared.invalid.Invalid.TheVariants.{NoMemory as invalid_no_memory}
use Rattle.file_calls.specs.declared.error.FileError.{FileError}
use Rattle.file_calls.specs.declared.error.FileError.TheVariants.{Refused, TooLong, Fault, NoMemory}
use Rattle.read_setting.specs.declared.refusal.Refusal.{Refusal}
use Rattle.read_setting.specs.declared.refusal.Refusal.TheVariants.{Policy, Label, Module}
use Rattle.fault_texts.specs.declared.modules.ModuleFault.TheVariants.{Decode, Invalid}

abbrev pub IsOther : Refusal → Type 0
IsOther (Policy fault) = (fault ≢ policy_no_memory) × (fault ≢ Lattice lattice_no_memory)
IsOther Label = ⊤
IsOther (Module (Decode fault)) = fault ≢ decode_no_memory
IsOther (Module (Invalid fault)) = fault ≢ invalid_no_memory

abbrev pub TellsMemory : FileError Refusal → Type 0
TellsMemory (Refused place refusal) = IsOther refusal
TellsMemory (TooLong place) = ⊤
TellsMemory (Fault place) = ⊤
TellsMemory NoMemory = ⊤

-- an end tells a refusal at a place, or that memory was refused where that is what the refusal would tell
abbrev pub IsTold : ℕ → Refusal → Type 0 → FileError Refusal → Type 0
IsTold place refusal memory error = ((error ≡ NoMemory) × memory) ⊎ ((error ≡ Refused place refusal) × ¬ memory)
