-- A step of a call: what some of its files say, and how it ends.
use Rattle.std.specs.Prelude.{◌≡◌, ◌⊎◌, ⊤, ℕ, List, length, nat_lt, if◌then◌else◌, Option, None, Some, IfSome, Result, Ok, Err}
use Rattle.trapeze_io.specs.Seen.{Seen, Held}
use Rattle.file_calls.specs.declared.error.FileError.{FileError}
use Rattle.file_calls.specs.declared.error.FileError.TheVariants.{Refused, TooLong, Fault, NoMemory}
use Rattle.file_calls.specs.Sources.{Source, OpensEach, OpensUpTo, FaultsRose}

-- what files that are held say: a value, or the first error; and that the file at a place is reached, since all before it is accepted
pub record Step (X R : Type 0) : Type 1 where
  pub says : Held → Result X (FileError R) → Type 0
  pub reaches : Held → ℕ → Type 0

-- the bytes of the file at a place, where it is held and within its limit
abbrev pub within : {R : Type 0} → ℕ → ℕ → Option (List ℕ) → Result (List ℕ) (FileError R)
within place limit None = Err (Fault place)
within place limit (Some bytes) = if nat_lt limit (length bytes) then Err (TooLong place) else Ok bytes

abbrev pub file_at : {R : Type 0} → ℕ → Source → Held → Result (List ℕ) (FileError R)
file_at place source held = within place source.limit (held source.name)

-- the step that reads one file
abbrev pub one_file : {R : Type 0} → ℕ → Source → Step (List ℕ) R
one_file place source = record { says = λ held r. file_at place source held ≡ r; reaches = λ held at. at ≡ place }

-- a step, and then one that goes by its value
abbrev pub SaysInTurn : {X Y R : Type 0} → Step X R → (X → Step Y R) → Held → Result Y (FileError R) → Type 0
SaysInTurn {X} first next held (Ok y) = (x : X) × first.says held (Ok x) × (next x).says held (Ok y)
SaysInTurn {X} first next held (Err error) = first.says held (Err error) ⊎ ((x : X) × first.says held (Ok x) × (next x).says held (Err error))

abbrev pub ReachesInTurn : {X Y R : Type 0} → Step X R → (X → Step Y R) → Held → ℕ → Type 0
ReachesInTurn {X} first next held place = first.reaches held place ⊎ ((x : X) × first.says held (Ok x) × (next x).reaches held place)

abbrev pub and_then : {X Y R : Type 0} → Step X R → (X → Step Y R) → Step Y R
and_then first next = record { says = SaysInTurn first next; reaches = ReachesInTurn first next }

-- a step over no file, by a test of what it gives
abbrev pub no_file : {X R : Type 0} → (Result X (FileError R) → Type 0) → Step X R
no_file test = record { says = λ held r. test r; reaches = λ held at. ⊥ }

-- why an error came: the files that are held say it, and a fault is counted
abbrev pub IsCaused : {X R : Type 0} → Step X R → Seen → Seen → FileError R → Type 0
IsCaused step old new (Refused place refusal) = IfSome old.held (λ held. step.says held (Err (Refused place refusal)))
IsCaused step old new (TooLong place) = IfSome old.held (λ held. step.says held (Err (TooLong place)))
IsCaused step old new (Fault place) = FaultsRose old new × IfSome old.held (λ held. step.reaches held place)
IsCaused step old new NoMemory = ⊤

-- an error that is no refusal of what a file says
abbrev pub IsNoRefusal : {R : Type 0} → FileError R → Type 0
IsNoRefusal (Refused place refusal) = ⊥
IsNoRefusal (TooLong place) = ⊤
IsNoRefusal (Fault place) = ⊤
IsNoRefusal NoMemory = ⊤

-- P of the place of an error, or of some place, where memory was refused
abbrev pub AtPlace : {R : Type 0} → FileError R → (ℕ → Type 0) → Type 0
AtPlace (Refused place refusal) P = P place
AtPlace (TooLong place) P = P place
AtPlace (Fault place) P = P place
AtPlace NoMemory P = (place : ℕ) × P place

-- a step over these files, of which the first has this place, ended the call
pub record Ends {X R : Type 0} (first : ℕ) (sources : List Source) (step : Step X R) (old new : Seen) (error : FileError R) : Type 0 where
  pub opened : AtPlace error (λ place. OpensUpTo first sources place old new)
  pub caused : IsCaused step old new error

-- a step opened its files and goes on with the value that they say, or ended the call; shown is what the definition says of a value
abbrev pub StepsBy : {A X R : Type 0} → (A → X) → ℕ → List Source → Step X R → Seen → Seen → Result A (FileError R) → Type 0
StepsBy shown first sources step old new (Ok value) =
    OpensEach sources old new × IfSome old.held (λ held. step.says held (Ok (shown value)))
StepsBy shown first sources step old new (Err error) = Ends first sources step old new error

-- the same of a value that is what the definition says
abbrev pub Steps : {X R : Type 0} → ℕ → List Source → Step X R → Seen → Seen → Result X (FileError R) → Type 0
Steps = StepsBy (λ value. value)

-- what was made of the bytes of the file at a place: a value, or a refusal at that place, that a test of them says; or memory was refused
abbrev pub JudgesBy : {A X R : Type 0} → (A → X) → ℕ → (Result X (FileError R) → Type 0) → Result A (FileError R) → Type 0
JudgesBy shown place test (Ok value) = test (Ok (shown value))
JudgesBy shown place test (Err (Refused at refusal)) = (at ≡ place) × test (Err (Refused at refusal))
JudgesBy shown place test (Err (TooLong at)) = ⊥
JudgesBy shown place test (Err (Fault at)) = ⊥
JudgesBy shown place test (Err NoMemory) = ⊤

abbrev pub Judges : {X R : Type 0} → ℕ → (Result X (FileError R) → Type 0) → Result X (FileError R) → Type 0
Judges = JudgesBy (λ value. value)

-- what files say is one thing
abbrev pub IsSingle : {X R : Type 0} → Step X R → Type 0
IsSingle {X} {R} step = (held : Held) (a b : Result X (FileError R)) → step.says held a → step.says held b → a ≡ b
