-- What is told of the bytes of a function's file.
use Rattle.std.specs.Prelude.{◌≡◌, ◌⊎◌, ℕ, List, Some, Result, Ok, Err}
use Rattle.wasm_ast.specs.declared.modules.Module.{Module as Program}
use Rattle.wasm_ast.specs.Faults.{Fault}
use Rattle.wasm_ast.specs.Validity.{Valid, Invalidity}
use Rattle.wasm_decode.specs.Grammar.{Spells}
use Rattle.wasm_validate.specs.Invalids.{fault_of}
use Rattle.wasm_validate.specs.declared.invalid.Invalid.{Invalid as InvalidFault}
use Rattle.fault_texts.specs.declared.modules.ModuleFault.TheVariants.{Invalid}
use Rattle.trapeze_cli.specs.declared.status.Status.{Status}
use Rattle.trapeze_cli.specs.declared.status.Status.TheVariants.{Module, NoMemory}
use Rattle.fault_texts.specs.declared.modules.ModuleFault.{ModuleFault}
use Rattle.trapeze_cli.specs.Command.{IsFaulty}

-- a status tells a fault, or out of memory where that is what the fault is
abbrev pub IsTold : Status → Type 0 → Status → Type 0
IsTold told memory status = ((status ≡ NoMemory) × memory) ⊎ ((status ≡ told) × ¬ memory)

-- a module that is not valid is told with its first fault, or the call is out of memory
abbrev pub IsUnfit : ℕ → Program → Status → Type 0
IsUnfit function program status =
    (status ≡ NoMemory)
    ⊎ ((told : InvalidFault) × (fault : Fault) × (status ≡ Module function (Invalid told)) × (fault_of told ≡ Some fault)
    × Invalidity program fault)

-- the module that they spell, which is valid; their fault; or out of memory
abbrev pub IsJudged : ℕ → List ℕ → Result Program Status → Type 0
IsJudged function bytes (Ok program) = Spells program bytes × Valid program
IsJudged function bytes (Err status) =
    (status ≡ NoMemory) ⊎ ((fault : ModuleFault) × (status ≡ Module function fault) × IsFaulty bytes fault)
