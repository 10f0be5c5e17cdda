-- What a call of the program answers, by its words and the files that are held.
use Rattle.std.specs.Prelude.{◌≡◌, ℕ, ◌-◌, ◌+◌, ◌⊎◌, List, [], ◌∷◌, ◌++◌, codes, decimal, length, take, nat_lt, if◌then◌else◌}
use Rattle.std.specs.Prelude.{Option, Some, None, Result, Ok, Err, IsOk}
use Rattle.trapeze_io.specs.Answers.{◌>>=◌}
use Rattle.trapeze_io.specs.Seen.{Held}
use Rattle.label_lattice.specs.Order.{count, place_of}
use Rattle.policy_toml.specs.Parts.{Parts}
use Rattle.policy_toml.specs.PolicyOf.{policy_of}
use Rattle.policy_toml.specs.declared.error.PolicyError.{PolicyError}
use Rattle.wasm_ast.specs.declared.modules.Module.{Module as Program}
use Rattle.wasm_ast.specs.Faults.{Fault}
use Rattle.wasm_ast.specs.Validity.{Valid, Invalidity}
use Rattle.wasm_decode.specs.Grammar.{Spells}
use Rattle.wasm_decode.specs.Sections.{Fails}
use Rattle.wasm_validate.specs.Invalids.{fault_of}
use Rattle.trapeze_cli.specs.declared.status.Status.{Status}
use Rattle.trapeze_cli.specs.declared.status.Status.TheVariants.{Done, Usage, Policy, Module, Events, ReadFault, TooLong}
use Rattle.trapeze_cli.specs.declared.status.Input.{Input}
use Rattle.trapeze_cli.specs.declared.status.Input.TheVariants.{Policy as policy_input, Module as module_input, Events as events_input}
use Rattle.fault_texts.specs.declared.modules.ModuleFault.{ModuleFault}
use Rattle.fault_texts.specs.declared.modules.ModuleFault.TheVariants.{Decode, Invalid}
use Rattle.trapeze_cli.specs.declared.shown.Shown.{Shown}
use Rattle.trapeze_cli.specs.declared.shown.Shown.TheVariants.{RunKinds, AllKinds, VisibleTo}
use Rattle.trapeze_cli.specs.Exercise.{exercise_text}
use Rattle.trapeze_cli.specs.Forms.{Show, Run, Trace, View, Form, Check, Play, policy_name, Command, Exercise, OnFiles}
use Rattle.trapeze_cli.specs.Played.{FileEnd, AtEnd, AtBad, PastLimit, played_of}
use Rattle.trapeze_cli.specs.Runs.{Setting, setting_of, text_of, text_heard}

-- the most bytes of a policy file, of a module's, and of an event file
abbrev pub policy_limit : ℕ
policy_limit = 1048576

abbrev pub module_limit : ℕ
module_limit = 4194304

abbrev pub events_limit : ℕ
events_limit = 67108864

-- the most bytes of an event file that are read at a time
abbrev pub piece : ℕ
piece = 65536

abbrev pub within : ℕ → Input → Option (List ℕ) → Result (List ℕ) Status
within limit input None = Err (ReadFault input)
within limit input (Some bytes) = if nat_lt limit (length bytes) then Err (TooLong input) else Ok bytes

-- the bytes of a file that is held and within its limit
abbrev pub file_of : Held → List ℕ → ℕ → Input → Result (List ℕ) Status
file_of held name limit input = within limit input (held name)

abbrev pub accepted : Result Parts PolicyError → Result Parts Status
accepted (Ok policy) = Ok policy
accepted (Err fault) = Err (Policy fault)

-- the policy of a file
abbrev pub policy_in : Held → List ℕ → Result Parts Status
policy_in held name = file_of held name policy_limit policy_input >>= (λ bytes. accepted (policy_of bytes))

-- lines that have to flow to a label, if it is one
abbrev pub shown_to : Option ℕ → Result Shown Status
shown_to None = Err Usage
shown_to (Some label) = Ok (VisibleTo (record { number = label }))

-- which lines are shown, where these are the names of the labels
abbrev pub shown_by : List (List ℕ) → Show → Result Shown Status
shown_by labels Run = Ok RunKinds
shown_by labels Trace = Ok AllKinds
shown_by labels (View label) = shown_to (place_of label labels)

abbrev pub shown_in : List (List ℕ) → Form → Result Shown Status
shown_in labels (Check policy) = Ok AllKinds
shown_in labels (Play show policy events) = shown_by labels show

-- bytes that are no module of a function: the first fault of the bytes, or that of the module that they spell
abbrev pub IsFaulty : List ℕ → ModuleFault → Type 0
IsFaulty bytes (Decode fault) = Fails bytes fault
IsFaulty bytes (Invalid told) =
    (program : Program) × (fault : Fault) × Spells program bytes × (fault_of told ≡ Some fault) × Invalidity program fault

-- what the file of a function gives: the module that it spells, which is valid; or it is not there, too long, or faulty
abbrev pub IsModule : Held → ℕ → List ℕ → Result Program Status → Type 0
IsModule held f name (Ok program) =
    (bytes : List ℕ) × (file_of held name module_limit (module_input f) ≡ Ok bytes) × Spells program bytes × Valid program
IsModule held f name (Err status) =
    (file_of held name module_limit (module_input f) ≡ Err status)
    ⊎ ((bytes : List ℕ) × (fault : ModuleFault) × (file_of held name module_limit (module_input f) ≡ Ok bytes)
    × (status ≡ Module f fault) × IsFaulty bytes fault)

-- what the files of the functions give, of which the first has this number: all modules, or the first refusal
abbrev pub AreModules : Held → ℕ → List (List ℕ) → Result (List Program) Status → Type 0
AreModules held f [] r = r ≡ Ok []
AreModules held f (name ∷ names) (Ok []) = ⊥
AreModules held f (name ∷ names) (Ok (program ∷ programs)) =
    IsModule held f name (Ok program) × AreModules held (f + 1) names (Ok programs)
AreModules held f (name ∷ names) (Err status) =
    IsModule held f name (Err status)
    ⊎ ((program : Program) × IsModule held f name (Ok program) × AreModules held (f + 1) names (Err status))

-- what a call has read before the event file, beside the policy
pub record Prepared : Type 0 where
  pub shown : Shown
  pub modules : List Program

-- what is read under a policy before the event file, or the first refusal: of the label, and then of the modules
abbrev pub IsPrepared : Held → Form → Parts → Result Prepared Status → Type 0
IsPrepared held form policy (Ok ready) =
    (shown_in policy.lattice.names form ≡ Ok ready.shown) × AreModules held 0 policy.files (Ok ready.modules)
IsPrepared held form policy (Err status) =
    (shown_in policy.lattice.names form ≡ Err status)
    ⊎ (IsOk (shown_in policy.lattice.names form) × AreModules held 0 policy.files (Err status))

-- what a call does once all its files but the event file are read: it plays the event file of a name, or says a text
pub data Task : Type 0 where
  Plays : Setting → List ℕ → Task
  Says : List ℕ → Task

-- the line of a policy that is accepted
abbrev pub check_text : ℕ → ℕ → ℕ → ℕ → List ℕ
check_text labels functions channels clients =
    codes "ok: " ++ decimal labels ++ codes " labels, " ++ decimal functions ++ codes " functions, "
    ++ decimal channels ++ codes " channels, " ++ decimal clients ++ codes " clients\n"

abbrev pub task_under : Form → Parts → Prepared → Task
task_under (Check name) policy ready =
    Says (check_text (count policy.lattice) (length policy.functions) (length policy.channels) (length policy.clients))
task_under (Play show name events) policy ready = Plays (setting_of policy ready.modules ready.shown) events

-- the task of a form under a policy, or the first refusal
abbrev pub IsTaskUnder : Held → Form → Parts → Result Task Status → Type 0
IsTaskUnder held form policy (Ok task) =
    (ready : Prepared) × IsPrepared held form policy (Ok ready) × (task ≡ task_under form policy ready)
IsTaskUnder held form policy (Err status) = IsPrepared held form policy (Err status)

-- so it is of a policy that was read, or was refused
abbrev pub IsTaskBy : Held → Form → Result Parts Status → Result Task Status → Type 0
IsTaskBy held form (Ok policy) task = IsTaskUnder held form policy task
IsTaskBy held form (Err status) task = task ≡ Err status

-- the task of words, or the first refusal, in the order of the words, the policy, the label and the modules; an exercise reads no file
abbrev pub IsTask : Option Command → Held → Result Task Status → Type 0
IsTask None held task = task ≡ Err Usage
IsTask (Some (Exercise number)) held task = task ≡ Ok (Says (exercise_text number))
IsTask (Some (OnFiles form)) held task = IsTaskBy held form (policy_in held (policy_name form)) task

-- how a call ends whose playing ends so
abbrev pub status_at : FileEnd → Status
status_at AtEnd = Done
status_at (AtBad bad) = Events bad
status_at PastLimit = TooLong events_input

-- a status, and the text that is written beside it
pub record Answer : Type 0 where
  pub status : Status
  pub out : List ℕ

abbrev pub answer_of_file : Setting → Option (List ℕ) → Answer
answer_of_file g None = record { status = ReadFault events_input; out = [] }
answer_of_file g (Some file) = record {
  status = status_at (played_of events_limit g.known file).end;
  out = text_of g (played_of events_limit g.known file);
}

-- what a call answers by its task, where no file and no sink fails and there is memory
abbrev pub answer_of : Held → Result Task Status → Answer
answer_of held (Err status) = record { status = status; out = [] }
answer_of held (Ok (Says said)) = record { status = Done; out = said }
answer_of held (Ok (Plays g events)) = answer_of_file g (held events)

-- what a call answers whose tasks are these
pub record IsAnswerOf (tasks : Held → Result Task Status → Type 0) (held : Held) (answer : Answer) : Type 0 where
  pub task : Result Task Status
  pub is_task : tasks held task
  pub answered : answer ≡ answer_of held task

-- the texts by which what was written is told: the whole text of the answer, that of the lines heard in the bytes given of the event
-- file, and that of the lines heard in them without the last piece
pub record Texts : Type 0 where
  pub all : List ℕ
  pub heard : List ℕ
  pub before : List ℕ

abbrev pub heard_by : Result Task Status → List ℕ → List ℕ
heard_by (Err status) given = []
heard_by (Ok (Says said)) given = []
heard_by (Ok (Plays g events)) given = text_heard g given

abbrev pub texts_by : Held → Result Task Status → List ℕ → Texts
texts_by held task given = record {
  all = (answer_of held task).out;
  heard = heard_by task given;
  before = heard_by task (take (length given - piece) given);
}
