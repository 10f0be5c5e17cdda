-- Why a call ends with a status, and what it has answered and written when it ends: one row for each reason.
use Rattle.std.specs.Prelude.{◌≡◌, ⊤, ℕ, List, [], Option, Some, None, IfSome, Result}
use Rattle.trapeze_io.specs.Seen.{Held, OpenFile}
use Rattle.trapeze_cli.specs.declared.status.Status.{Status}
use Rattle.trapeze_cli.specs.declared.status.Status.TheVariants.{Done, Usage, Policy, Module, Events, ReadFault, WriteFault, NoMemory, TooLong}
use Rattle.trapeze_cli.specs.declared.status.Input.{Input}
use Rattle.trapeze_cli.specs.declared.status.Input.TheVariants.{Policy as policy_input, Module as module_input, Events as events_input}
use Rattle.trapeze_cli.specs.Command.{Task, Answer, IsAnswerOf, Texts, texts_by}
use Rattle.trapeze_io.specs.Appends.{AppendsAll, AppendsPrefix, AppendsLess}

-- the task was done, for a file of events up to its end, to a bad line or past its limit; the words or another file were refused; a read
-- or a write failed; or the call is out of memory
pub data Why : Type 0 where
  Finished : Why
  Refused : Why
  ReadFailed : Input → Why
  WriteFailed : Why
  OutOfMemory : Why

abbrev pub why : Status → Why
why Done = Finished
why Usage = Refused
why (Policy fault) = Refused
why (Module function fault) = Refused
why (Events error) = Finished
why (ReadFault input) = ReadFailed input
why WriteFault = WriteFailed
why NoMemory = OutOfMemory
why (TooLong policy_input) = Refused
why (TooLong (module_input f)) = Refused
why (TooLong events_input) = Finished

-- the status is the one that the words and the files say, by the tasks that these are
abbrev pub IsSaid : (Held → Result Task Status → Type 0) → Held → Status → Type 0
IsSaid tasks held status = (answer : Answer) × IsAnswerOf tasks held answer × (status ≡ answer.status)

-- so it is where it tells that the task was done or something was refused
abbrev pub IsAnswered : (Held → Result Task Status → Type 0) → Option Held → Why → Status → Type 0
IsAnswered tasks held Finished status = IfSome held (λ h. IsSaid tasks h status)
IsAnswered tasks held Refused status = IfSome held (λ h. IsSaid tasks h status)
IsAnswered tasks held (ReadFailed input) status = ⊤
IsAnswered tasks held WriteFailed status = ⊤
IsAnswered tasks held OutOfMemory status = ⊤

-- the bytes given of the open file, none where they are not told
abbrev pub given_of : Option OpenFile → List ℕ
given_of None = []
given_of (Some file) = file.given

-- what is told by the texts of the task
abbrev pub OfTexts : (Held → Result Task Status → Type 0) → Option Held → List ℕ → (Texts → Type 0) → Type 0
OfTexts tasks held given P = IfSome held (λ h. (task : Result Task Status) × tasks h task × P (texts_by h task given))

-- what was written, where these were given of the open file: the whole text of the answer; nothing; the text of the lines heard in the
-- bytes given of the event file; a prefix of the whole text that is not all and holds the text of the lines heard but for the last piece;
-- a prefix
abbrev pub Writes : (Held → Result Task Status → Type 0) → Option Held → List ℕ → Why → Option (List ℕ) → Option (List ℕ) → Type 0
Writes tasks held given Finished old new = OfTexts tasks held given (λ t. AppendsAll t.all old new)
Writes tasks held given Refused old new = new ≡ old
Writes tasks held given (ReadFailed policy_input) old new = new ≡ old
Writes tasks held given (ReadFailed (module_input f)) old new = new ≡ old
Writes tasks held given (ReadFailed events_input) old new = OfTexts tasks held given (λ t. AppendsAll t.heard old new)
Writes tasks held given WriteFailed old new = OfTexts tasks held given (λ t. AppendsLess t.before t.all old new)
Writes tasks held given OutOfMemory old new =
    IfSome held (λ h. (task : Result Task Status) → tasks h task → AppendsPrefix [] (texts_by h task given).all old new)

-- P of an input that could not be read
abbrev pub IfReadFailed : Why → (Input → Type 0) → Type 0
IfReadFailed Finished P = ⊤
IfReadFailed Refused P = ⊤
IfReadFailed (ReadFailed input) P = P input
IfReadFailed WriteFailed P = ⊤
IfReadFailed OutOfMemory P = ⊤
