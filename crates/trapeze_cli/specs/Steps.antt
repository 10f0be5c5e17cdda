-- How a step of a call that reads some of its files ends.
use Rattle.std.specs.Prelude.{◌≡◌, ◌<◌, ⊤, ℕ, List, length, take, IfSome, Option, Result, Ok, Err}
use Rattle.trapeze_io.specs.Causes.{Rose}
use Rattle.trapeze_io.specs.Seen.{Seen, Held, OpensAll, OpenFile}
use Rattle.wasm_ast.specs.declared.modules.Module.{Module as Program}
use Rattle.event_file.specs.declared.fault.LineError.{LineError}
use Rattle.trapeze_cli.specs.declared.status.Status.{Status}
use Rattle.trapeze_cli.specs.declared.status.Status.TheVariants.{Events, ReadFault}
use Rattle.trapeze_cli.specs.declared.status.Input.{Input}
use Rattle.trapeze_cli.specs.declared.status.Input.TheVariants.{Module as module_input, Events as events_input}
use Rattle.trapeze_cli.specs.Forms.{Source}
use Rattle.trapeze_cli.specs.Command.{AreModules, Task}
use Rattle.trapeze_cli.specs.Whys.{Why, Finished, Refused, ReadFailed, WriteFailed, OutOfMemory, why, given_of, IsAnswered, Writes}
use Rattle.trapeze_cli.specs.Opens.{names_of, OpensTo}
use Rattle.trapeze_cli.specs.Promises.{OfTask, IsPrivateIn, IsClean, IsStopped}

-- the count of faults rose, and since the last open
pub record FaultsRose (old new : Seen) : Type 0 where
  pub rose : Rose old.faults new.faults
  pub marked : Rose new.mark new.faults

-- what holds of a step that ended the call, by the reason of the status: a refusal is one that the files say
abbrev pub HasReason : {X : Type 0} → (Held → Result X Status → Type 0) → Seen → Seen → Status → Why → Type 0
HasReason step old new status Finished = ⊥
HasReason step old new status Refused = IfSome old.held (λ held. step held (Err status))
HasReason step old new status (ReadFailed input) = FaultsRose old new
HasReason step old new status WriteFailed = ⊥
HasReason step old new status OutOfMemory = ⊤

-- a step over these files ended the call with a status: they were opened up to the one that the status is of
pub record Ends {X : Type 0} (sources : List Source) (step : Held → Result X Status → Type 0)
    (status : Status) (old new : Seen) : Type 0 where
  pub opens : OpensTo sources status old new
  pub refused : HasReason step old new status (why status)

-- a step over these files opened them all and goes on, or ended the call
abbrev pub Steps : {A X : Type 0} → List Source → (Held → Result X Status → Type 0) → Seen → Seen → Result A Status → Type 0
Steps sources step old new (Ok x) = OpensAll (names_of sources) old new
Steps sources step old new (Err status) = Ends sources step status old new

-- the file of a function, of those of which the files are these, was reached: the modules before it were accepted
pub record IsReachedModule (held : Held) (files : List (List ℕ)) (input : Input) : Type 0 where
  pub function : ℕ
  pub is_input : input ≡ module_input function
  pub few : function < length files
  pub programs : List Program
  pub before : AreModules held 0 (take function files) (Ok programs)

-- how a call ends by its tasks: what it answered, what was written, that it is private, that no bad line was heard where a read failed, and
-- how far the event file was read where it has one
pub record CallEnds (tasks : Held → Result Task Status → Type 0) (held : Option Held)
    (current : Option OpenFile) (status : Status) (old new : Option (List ℕ)) : Type 0 where
  pub answered : IsAnswered tasks held (why status) status
  pub written : Writes tasks held (given_of current) (why status) old new
  pub private : why status ≡ Finished → IfSome held (λ h. OfTask tasks h (λ task. IsPrivateIn h task status old new))
  pub clean : status ≡ ReadFault events_input → IfSome held (λ h. OfTask tasks h (IsClean (given_of current)))
  pub stopped : (bad : LineError) → status ≡ Events bad → IfSome held (λ h. OfTask tasks h (IsStopped current bad))
