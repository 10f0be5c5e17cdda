-- What the top call promises of its answers.
use Rattle.std.specs.Prelude.{◌≡◌, ◌≢◌, ◌⊎◌, ℕ, ◌-◌, ◌≤◌, ⊤, List, [], length, take, IfSome, Option, Some, None, Result, Ok}
use Rattle.trapeze_io.specs.Seen.{Held, OpenFile}
use Rattle.label_lattice.specs.declared.error.LatticeError.TheVariants.{NoMemory as lattice_no_memory}
use Rattle.policy_toml.specs.declared.error.PolicyError.TheVariants.{Lattice, NoMemory as no_memory}
use Rattle.wasm_code.specs.declared.error.DecodeError.TheVariants.{NoMemory as decode_no_memory}
use Rattle.wasm_validate.specs.declared.invalid.Invalid.TheVariants.{NoMemory as invalid_no_memory}
use Rattle.event_file.specs.Known.{Known}
use Rattle.event_file.specs.Script.{entries_of}
use Rattle.event_file.specs.Heard.{heard}
use Rattle.event_file.specs.declared.fault.LineError.{LineError}
use Rattle.trapeze_lines.specs.declared.line.Line.{Line}
use Rattle.trapeze_lines.specs.Texts.{text}
use Rattle.host_rules.specs.Rules.{HasNoGates}
use Rattle.host_rules.specs.States.{Item, start}
use Rattle.host_rules.specs.Play.{items_of}
use Rattle.host_rules.specs.Views.{visible, visible_events, view}
use Rattle.trapeze_cli.specs.declared.status.Status.{Status}
use Rattle.trapeze_cli.specs.declared.status.Status.TheVariants.{Done, Usage, Policy, Module, Events, ReadFault, WriteFault, NoMemory, TooLong}
use Rattle.fault_texts.specs.declared.modules.ModuleFault.TheVariants.{Decode, Invalid}
use Rattle.trapeze_cli.specs.Forms.{Show, Run, Trace, View, Form, Check, Play, Command, Exercise, OnFiles}
use Rattle.trapeze_cli.specs.Played.{FileEnd, Played, played_of, events_of}
use Rattle.trapeze_cli.specs.Runs.{Setting, shown_lines, lines_to}
use Rattle.trapeze_cli.specs.Command.{events_limit, piece, Task, Plays, Says, Answer, IsAnswerOf, status_at}
use Rattle.trapeze_io.specs.Appends.{AppendsAll}

-- the lines that a setting shows of items, up to an end
abbrev pub shown_of : Setting → FileEnd → List Item → List Line
shown_of g end items = shown_lines g.rules g.shown (lines_to end g.rules g.guest items)

-- noninterference of a call: what was appended is the text of some lines of which, for each o, those that flow to o are exactly those
-- that the rules give for the view of o, which is the events that flow to o and, in place of each other one, its releases into o; and,
-- where the policy has no gate, for the events that flow to o alone. A number that is no label's flows to itself alone
pub record IsPrivate (g : Setting) (played : Played) (status : Status) (old new : Option (List ℕ)) : Type 0 where
  pub ended : status ≡ status_at played.end
  pub lines : List Line
  pub written : AppendsAll (text g.rules.labels lines) old new
  pub private : (o : ℕ) → visible g.rules o lines
      ≡ visible g.rules o (shown_of g played.end (view g.rules g.guest o (start []) (events_of played.entries)))
  pub alone : HasNoGates g.rules → (o : ℕ) → visible g.rules o lines
      ≡ visible g.rules o (shown_of g played.end (items_of (visible_events g.rules o (events_of played.entries))))

-- so it is of a task that plays a file
abbrev pub IsPrivateIn : Held → Task → Status → Option (List ℕ) → Option (List ℕ) → Type 0
IsPrivateIn held (Plays g events) status old new =
    IfSome (held events) (λ file. IsPrivate g (played_of events_limit g.known file) status old new)
IsPrivateIn held (Says said) status old new = ⊤

-- the task is one of which this holds
abbrev pub OfTask : (Held → Result Task Status → Type 0) → Held → (Task → Type 0) → Type 0
OfTask tasks held P = (task : Task) × tasks held (Ok task) × P task

-- no bad line is heard in the bytes given of the event file, and they are not too many
abbrev pub IsClean : List ℕ → Task → Type 0
IsClean given (Plays g events) = ((heard g.known given).bad ≡ None) × (length given ≤ events_limit)
IsClean given (Says said) = ⊤

-- an event file was read no further than the piece in which its bad line ends: the line is heard in the bytes given, or they are all of the
-- file, and it is its last one; and no bad line is heard in them without the last piece
pub record StopsAt (known : Known) (bad : LineError) (file : OpenFile) : Type 0 where
  pub met : ((heard known file.given).bad ≡ Some bad) ⊎ ((file.rest ≡ []) × ((entries_of known file.given).bad ≡ Some bad))
  pub before : (heard known (take (length file.given - piece) file.given)).bad ≡ None

-- so it is of a task that plays a file
abbrev pub IsStopped : Option OpenFile → LineError → Task → Type 0
IsStopped current bad (Plays g events) = IfSome current (StopsAt g.known bad)
IsStopped current bad (Says said) = ⊤

-- the status and the whole text are those of the answer
pub record GivesAnswer (answer : Answer) (status : Status) (old new : Option (List ℕ)) : Type 0 where
  pub answered : status ≡ answer.status
  pub whole : AppendsAll answer.out old new

-- the words and the files say this answer, by the tasks that these are
abbrev pub IsGiven : (Held → Result Task Status → Type 0) → Held → Status → Option (List ℕ) → Option (List ℕ) → Type 0
IsGiven tasks held status old new = (answer : Answer) × IsAnswerOf tasks held answer × GivesAnswer answer status old new

-- the open file was read to its end, and is the one that is held under this name, where these are told
abbrev pub ReadsAll : Option Held → List ℕ → Option OpenFile → Type 0
ReadsAll held name current = IfSome current (λ r. (r.rest ≡ []) × IfSome held (λ files. files name ≡ Some r.given))

-- so was the event file of a form that plays one
abbrev pub ReadsEvents : Option Form → Option Held → Option OpenFile → Type 0
ReadsEvents None held current = ⊤
ReadsEvents (Some (Check policy)) held current = ⊤
ReadsEvents (Some (Play show policy events)) held current = ReadsAll held events current

-- a label is named
abbrev pub IsOfLabel : Show → Type 0
IsOfLabel Run = ⊥
IsOfLabel Trace = ⊥
IsOfLabel (View label) = ⊤

-- a usage refusal is of words without a command, or of those that name a label
abbrev pub IsRefusedCommand : Option Command → Type 0
IsRefusedCommand None = ⊤
IsRefusedCommand (Some (Exercise number)) = ⊥
IsRefusedCommand (Some (OnFiles (Check policy))) = ⊥
IsRefusedCommand (Some (OnFiles (Play show policy events))) = IsOfLabel show

-- an exercise is done, or the output failed, or the call is out of memory
abbrev pub EndsExercise : Option Command → Status → Type 0
EndsExercise None status = ⊤
EndsExercise (Some (Exercise number)) status = (status ≡ Done) ⊎ ((status ≡ WriteFault) ⊎ (status ≡ NoMemory))
EndsExercise (Some (OnFiles form)) status = ⊤

-- being out of memory is a status of its own, and no fault of a policy or a module
abbrev pub TellsMemory : Status → Type 0
TellsMemory (Policy fault) = (fault ≢ no_memory) × (fault ≢ Lattice lattice_no_memory)
TellsMemory (Module function (Decode fault)) = fault ≢ decode_no_memory
TellsMemory (Module function (Invalid fault)) = fault ≢ invalid_no_memory
TellsMemory Done = ⊤
TellsMemory Usage = ⊤
TellsMemory (Events error) = ⊤
TellsMemory (ReadFault input) = ⊤
TellsMemory WriteFault = ⊤
TellsMemory NoMemory = ⊤
TellsMemory (TooLong input) = ⊤
