-- How a call ended: which of its files were opened, and what became of its task.
use Rattle.std.specs.Prelude.{◌≡◌, ◌⊎◌, ⊤, ℕ, List, Option, IfSome, Result, Ok, Err}
use Rattle.trapeze_io.specs.Seen.{Seen, Held, OpenFile}
use Rattle.file_calls.specs.declared.error.FileError.{FileError}
use Rattle.file_calls.specs.declared.error.FileError.TheVariants.{NoMemory}
use Rattle.file_calls.specs.declared.task_end.TaskEnd.{TaskEnd}
use Rattle.file_calls.specs.declared.task_end.TaskEnd.TheVariants.{Finished, Unread, WriteFailed, OutOfMemory}
use Rattle.file_calls.specs.Sources.{Source, OpensEach, FaultsRose}
use Rattle.file_calls.specs.Steps.{Step, Ends}

-- the files say a task, of which this holds
abbrev pub OfTask : {T R : Type 0} → Step T R → Held → (T → Type 0) → Type 0
OfTask {T} step held P = (task : T) × step.says held (Ok task) × P task

-- what a program says of how a task ended: by the files held, the last one as it was read, and what was written before and after
abbrev pub Carrying : Type 0 → Type 0 → Type 1
Carrying T A = Held → T → Option OpenFile → TaskEnd A → Option (List ℕ) → Option (List ℕ) → Type 0

-- a task ended that was begun once these files were opened
pub record EndsTask {T A R : Type 0} (sources : List Source) (step : Step T R) (carried : Carrying T A) (old new : Seen)
    (out out_now : Option (List ℕ)) (how : TaskEnd A) : Type 0 where
  pub opened : OpensEach sources old new
  pub unread : how ≡ Unread → FaultsRose old new
  pub carries : IfSome old.held (λ held. OfTask step held (λ task. carried held task new.current how out out_now))

-- how a call ended that opens these files, of which the first has this place, and does the task that they say
abbrev pub EndsCall : {T A R : Type 0} → ℕ → List Source → Step T R → Carrying T A → Seen → Seen
    → Option (List ℕ) → Option (List ℕ) → Result (TaskEnd A) (FileError R) → Type 0
EndsCall first sources step carried old new out out_now (Ok how) = EndsTask sources step carried old new out out_now how
EndsCall first sources step carried old new out out_now (Err error) = Ends first sources step old new error × (out_now ≡ out)

-- memory was refused
abbrev pub IsOutOfMemory : {A R : Type 0} → Result (TaskEnd A) (FileError R) → Type 0
IsOutOfMemory result = (result ≡ Err NoMemory) ⊎ (result ≡ Ok OutOfMemory)

-- a call ended as the files say: with a whole task, or with their first error
abbrev pub IsGiven : {T A R : Type 0} → Step T R → Carrying T A → Option OpenFile → Option (List ℕ) → Option (List ℕ)
    → Result (TaskEnd A) (FileError R) → Held → Type 0
IsGiven {T} {A} step carried current out out_now (Ok how) held =
    (end : A) × (how ≡ Finished end) × OfTask step held (λ task. carried held task current (Finished end) out out_now)
IsGiven step carried current out out_now (Err error) held = step.says held (Err error) × (out_now ≡ out)
