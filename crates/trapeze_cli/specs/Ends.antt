-- How a call ends that says a text or plays a file.
use Rattle.std.specs.Prelude.{◌≡◌, ◌⊎◌, ℕ, List, [], Option, Some, IfSome}
use Rattle.trapeze_io.specs.Causes.{Rose}
use Rattle.trapeze_io.specs.Seen.{Held, OpenFile}
use Rattle.trapeze_cli.specs.declared.status.Status.{Status}
use Rattle.trapeze_cli.specs.declared.status.Status.TheVariants.{Done, ReadFault, WriteFault, NoMemory}
use Rattle.trapeze_cli.specs.declared.status.Input.TheVariants.{Events as events_input}
use Rattle.trapeze_io.specs.Appends.{AppendsAll, AppendsLess}
use Rattle.trapeze_cli.specs.Playing.{file_in}

-- the file that is held under a name is the open one, or it could not be read
abbrev pub IsFileOf : Option Held → List ℕ → Option OpenFile → Status → Type 0
IsFileOf held name current status =
    IfSome held (λ h. IfSome current (λ r. (h name ≡ Some (file_in r)) ⊎ (status ≡ ReadFault events_input)))

-- a text was written whole, or a prefix of it that is not all, and the output failed
abbrev pub SaysText : List ℕ → Status → Option (List ℕ) → Option (List ℕ) → ℕ → ℕ → Type 0
SaysText said status old new before now =
    ((status ≡ Done) × AppendsAll said old new)
    ⊎ ((status ≡ WriteFault) × AppendsLess [] said old new × Rose before now)

-- the same, or out of memory before anything was written
abbrev pub SaysOrRefuses : List ℕ → Status → Option (List ℕ) → Option (List ℕ) → ℕ → ℕ → Type 0
SaysOrRefuses said status old new before now =
    ((status ≡ NoMemory) × (new ≡ old)) ⊎ SaysText said status old new before now
