-- What files say as the modules of functions.
use Rattle.std.specs.Prelude.{◌≡◌, ℕ, ◌+◌, List, [], ◌∷◌, Some, Result, Ok, Err}
use Rattle.wasm_ast.specs.declared.modules.Module.{Module as Program}
use Rattle.wasm_ast.specs.Faults.{Fault as ValidityFault}
use Rattle.wasm_ast.specs.Validity.{Valid, Invalidity}
use Rattle.wasm_decode.specs.Grammar.{Spells}
use Rattle.wasm_decode.specs.Sections.{Fails}
use Rattle.wasm_validate.specs.Invalids.{fault_of}
use Rattle.file_calls.specs.declared.error.FileError.{FileError}
use Rattle.file_calls.specs.declared.error.FileError.TheVariants.{Refused}
use Rattle.file_calls.specs.Sources.{Source}
use Rattle.file_calls.specs.Steps.{Step, one_file, no_file, and_then}
use Rattle.read_setting.specs.declared.refusal.Refusal.{Refusal}
use Rattle.read_setting.specs.declared.refusal.Refusal.TheVariants.{Module}
use Rattle.fault_texts.specs.declared.modules.ModuleFault.{ModuleFault}
use Rattle.fault_texts.specs.declared.modules.ModuleFault.TheVariants.{Decode, Invalid}

-- the most bytes of a module
abbrev pub module_limit : ℕ
module_limit = 4194304

abbrev pub module_source : List ℕ → Source
module_source name = record { name = name; limit = module_limit }

-- a module that is not valid, with its first fault
abbrev pub IsUnfit : Program → ModuleFault → Type 0
IsUnfit program (Decode fault) = ⊥
IsUnfit program (Invalid told) = (fault : ValidityFault) × (fault_of told ≡ Some fault) × Invalidity program fault

-- bytes that are no module of a function: the first fault of the bytes, or that of the module that they spell
abbrev pub IsFaulty : List ℕ → ModuleFault → Type 0
IsFaulty bytes (Decode fault) = Fails bytes fault
IsFaulty bytes (Invalid told) = (program : Program) × Spells program bytes × IsUnfit program (Invalid told)

-- what the bytes of the file at a place give: the module that they spell, which is valid, or their fault
abbrev pub IsModule : ℕ → List ℕ → Result Program (FileError Refusal) → Type 0
IsModule place bytes (Ok program) = Spells program bytes × Valid program
IsModule place bytes (Err error) = (fault : ModuleFault) × (error ≡ Refused place (Module fault)) × IsFaulty bytes fault

-- so of a module that was decoded
abbrev pub IsAccepted : ℕ → Program → Result Program (FileError Refusal) → Type 0
IsAccepted place program (Ok valid) = (valid ≡ program) × Valid program
IsAccepted place program (Err error) = (fault : ModuleFault) × (error ≡ Refused place (Module fault)) × IsUnfit program fault

abbrev pub module_step : ℕ → List ℕ → Step Program Refusal
module_step place name = and_then (one_file place (module_source name)) (λ bytes. no_file (IsModule place bytes))

-- the modules of the files of these names, of which the first is at this place
abbrev pub modules_step : ℕ → List (List ℕ) → Step (List Program) Refusal
modules_step place [] = no_file (λ r. r ≡ Ok [])
modules_step place (name ∷ names) = and_then (module_step place name)
    (λ program. and_then (modules_step (place + 1) names) (λ programs. no_file (λ r. r ≡ Ok (program ∷ programs))))
