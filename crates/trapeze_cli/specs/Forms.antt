-- The words of a call, and the files that they name.
use Rattle.std.specs.Prelude.{ℕ, ◌+◌, List, [], ◌∷◌, ◌++◌, codes, option_map, slice_index_or, if◌then◌else◌, Option, Some, None}
use Rattle.std.specs.Str.{bytes_eq}
use Rattle.trapeze_cli.specs.Numbers.{number_said}
use Rattle.trapeze_cli.specs.declared.status.Input.{Input}
use Rattle.trapeze_cli.specs.declared.status.Input.TheVariants.{Policy as policy_input, Module as module_input, Events as events_input}

-- which lines of a run are asked for: those that `run` prints, all, or those of `run` that flow to the label of a name
pub data Show : Type 0 where
  Run : Show
  Trace : Show
  View : List ℕ → Show

-- what is asked of files: to check a policy and its modules, or to play an event file under a policy; each file by its name
pub data Form : Type 0 where
  Check : List ℕ → Form
  Play : Show → List ℕ → List ℕ → Form

-- what words ask for: to play the exercise of a number, or what is asked of files
pub data Command : Type 0 where
  Exercise : ℕ → Command
  OnFiles : Form → Command

-- what words ask for, by the first of them and how many they are
abbrev pub command_of : List (List ℕ) → Option Command
command_of (first ∷ second ∷ []) =
    if bytes_eq first (codes "check") then Some (OnFiles (Check second))
    else if bytes_eq first (codes "exercise") then option_map Exercise (number_said second)
    else None
command_of (first ∷ policy ∷ events ∷ []) =
    if bytes_eq first (codes "run") then Some (OnFiles (Play Run policy events))
    else if bytes_eq first (codes "trace") then Some (OnFiles (Play Trace policy events))
    else None
command_of (first ∷ policy ∷ events ∷ label ∷ []) =
    if bytes_eq first (codes "view") then Some (OnFiles (Play (View label) policy events)) else None
command_of words = None

-- what is asked of files, by a command that reads some
abbrev pub on_files : Option Command → Option Form
on_files None = None
on_files (Some (Exercise number)) = None
on_files (Some (OnFiles form)) = Some form

-- what words ask of files, where they do
abbrev pub form_of : List (List ℕ) → Option Form
form_of words = on_files (command_of words)

-- the name of the policy's file
abbrev pub policy_name : Form → List ℕ
policy_name (Check policy) = policy
policy_name (Play show policy events) = policy

-- the name of the event file, of a form that has none no byte
abbrev pub events_name : Form → List ℕ
events_name (Check policy) = []
events_name (Play show policy events) = events

-- a file that a call reads: which of its inputs it is, and its name
pub record Source : Type 0 where
  pub input : Input
  pub name : List ℕ

-- the files of the functions, of which the first has this number
abbrev pub module_sources : ℕ → List (List ℕ) → List Source
module_sources f [] = []
module_sources f (name ∷ names) = record { input = module_input f; name = name } ∷ module_sources (f + 1) names

-- the event file, of a form that plays one
abbrev pub event_sources : Form → List Source
event_sources (Check policy) = []
event_sources (Play show policy events) = record { input = events_input; name = events } ∷ []

-- the files that a call reads, in the order in which it opens them: the policy, the file of each function of the policy, the events
abbrev pub sources_of : Form → List (List ℕ) → List Source
sources_of form files =
    (record { input = policy_input; name = policy_name form } ∷ module_sources 0 files) ++ event_sources form

-- the name of the file that an input is, where these are the files of the functions
abbrev pub file_name : Option Form → List (List ℕ) → Input → List ℕ
file_name None files input = []
file_name (Some form) files policy_input = policy_name form
file_name (Some form) files (module_input f) = slice_index_or files f []
file_name (Some form) files events_input = events_name form
