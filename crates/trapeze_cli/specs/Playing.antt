-- What was played of a file so far, and what a status then says of it.
use Rattle.std.specs.Prelude.{◌≡◌, ℕ, ◌+◌, ◌*◌, ◌-◌, ◌≤◌, ⊤, Bool, false, List, [], ◌++◌, length, take, OnOk, Option, None, Some, Result, Ok, Err}
use Rattle.trapeze_io.specs.Causes.{Rose}
use Rattle.trapeze_io.specs.Seen.{OpenFile, Gives}
use Rattle.wasm_semantics.specs.Threads.{Thread}
use Rattle.policy_toml.specs.Parts.{Parts}
use Rattle.event_file.specs.Known.{Known}
use Rattle.event_file.specs.Script.{after, entries_of}
use Rattle.event_file.specs.Heard.{heard, heard_with}
use Rattle.event_file.specs.Reader.{Reader, entries_with}
use Rattle.event_file.specs.Calls.{IsShort}
use Rattle.event_file.specs.declared.entry.Entry.{Entry}
use Rattle.event_file.specs.declared.entry.Event.{Event}
use Rattle.event_file.specs.declared.fault.LineError.{LineError}
use Rattle.trapeze_lines.specs.declared.line.Line.{Line}
use Rattle.trapeze_lines.specs.Texts.{text}
use Rattle.host_rules.specs.States.{State, Item}
use Rattle.host_rules.specs.Play.{play, trace, whole, items_of}
use Rattle.trapeze_host.specs.Standing.{known_in}
use Rattle.trapeze_cli.specs.declared.halt.Halt.{Halt}
use Rattle.trapeze_cli.specs.declared.halt.Halt.TheVariants.{Write, NoMemory as no_memory}
use Rattle.trapeze_cli.specs.declared.status.Status.{Status}
use Rattle.trapeze_cli.specs.declared.status.Status.TheVariants.{Done, Events, WriteFault, NoMemory, TooLong}
use Rattle.trapeze_cli.specs.declared.status.Input.TheVariants.{Policy as policy_input, Module as module_input, Events as events_input}
use Rattle.trapeze_cli.specs.Played.{FileEnd, AtEnd, AtBad, PastLimit, Played, played_of, events_of}
use Rattle.trapeze_cli.specs.Runs.{Setting, shown_lines, text_of, text_heard}
use Rattle.trapeze_cli.specs.Command.{events_limit, piece, status_at, Texts}
use Rattle.trapeze_io.specs.Appends.{AppendsAll, AppendsPrefix, AppendsLess}
use Rattle.trapeze_cli.specs.Promises.{StopsAt}
use Rattle.trapeze_cli.specs.Whys.{Why, Finished, Refused, ReadFailed, WriteFailed, OutOfMemory, why}

-- what a step appended of its text: all, or a prefix where it halted
abbrev pub AppendsBy : {A : Type 0} → Result A Halt → List ℕ → Option (List ℕ) → Option (List ℕ) → Type 0
AppendsBy (Ok a) said old new = AppendsAll said old new
AppendsBy (Err Write) said old new = AppendsLess [] said old new
AppendsBy (Err no_memory) said old new = AppendsPrefix [] said old new

-- the count of an output's faults did not fall, and rose where a write failed
pub record CountsWrites {A : Type 0} (result : Result A Halt) (before now : ℕ) : Type 0 where
  pub later : before ≤ now
  pub failed : result ≡ Err Write → Rose before now

-- the text of the lines that a setting shows
abbrev pub said_of : Setting → List Line → List ℕ
said_of g lines = text g.rules.labels (shown_lines g.rules g.shown lines)

-- the text of items from a state
abbrev pub text_from : Setting → State Thread → List Item → List ℕ
text_from g s items = said_of g (trace g.rules g.guest s items)

-- the events were played from the states for which a host stood, and their lines written; or, where the step halted, a prefix of their text
pub record PlaysOn {A : Type 0} (g : Setting) (before now : State Thread → Type 0) (events : List Event)
    (result : Result A Halt) (old new : Option (List ℕ)) : Type 0 where
  pub state : OnOk result ((s : State Thread) → before s → now (play g.rules g.guest s (items_of events)).state)
  pub lines : (s : State Thread) → before s → AppendsBy result (text_from g s (items_of events)) old new

-- a host was lent this policy, and can play on
pub record CanPlay (policy lent : Parts) (spent : Bool) : Type 0 where
  pub is_lent : lent ≡ policy
  pub unspent : spent ≡ false

-- the most turns that a line can ask for
abbrev pub most_turns : ℕ
most_turns = 1000000

-- a reader of the events of a policy has been fed within the limit, and each entry that was played took a byte at least
pub record IsPaced (policy : Parts) (reader : Reader) (played : ℕ) : Type 0 where
  pub known : reader.known ≡ known_in policy
  pub fed : reader.fed ≤ events_limit
  pub few : played + most_turns * length reader.kept ≤ most_turns * reader.fed

-- the lines of events from a state: with those of the facets where a file is played to its end, and else without
abbrev pub lines_from : Setting → FileEnd → State Thread → List Event → List Line
lines_from g AtEnd s events = whole g.rules g.guest s (items_of events)
lines_from g (AtBad bad) s events = trace g.rules g.guest s (items_of events)
lines_from g PastLimit s events = trace g.rules g.guest s (items_of events)

-- some bytes left the rest of the open file for those given
abbrev pub GivesSome : Option OpenFile → Option OpenFile → Type 0
GivesSome old new = (bytes : List ℕ) × Gives old new bytes

-- a reader passed lines that say these entries: they come first, whatever bytes follow, be it the end or not
pub record HasPassed (old new : Reader) (entries : List Entry) : Type 0 where
  pub known : new.known ≡ old.known
  pub finished : new.finished ≡ old.finished
  pub fed : new.fed ≡ old.fed
  pub all : (more : List ℕ) → entries_with old more ≡ after entries (entries_with new more)
  pub counted : (more : List ℕ) → heard_with old more ≡ after entries (heard_with new more)

-- entries, and then a bad line, whatever bytes follow
pub record FailsAt (old : Reader) (entries : List Entry) (bad : LineError) : Type 0 where
  pub all : (more : List ℕ) → entries_with old more ≡ record { entries = entries; bad = Some bad }
  pub counted : (more : List ℕ) → heard_with old more ≡ record { entries = entries; bad = Some bad }

-- nothing is kept but a part of a line that is not too long
pub record IsDry (reader : Reader) : Type 0 where
  pub good : reader.bad ≡ None
  pub short : IsShort reader

-- the lines kept were passed up to the end, up to a bad line, or up to a halt
abbrev pub Drains : Reader → Reader → List Entry → Result (Option LineError) Halt → Type 0
Drains old new entries (Ok None) = HasPassed old new entries × IsDry new
Drains old new entries (Ok (Some bad)) = FailsAt old entries bad
Drains old new entries (Err halt) = HasPassed old new entries

-- lines were drained, and their events played
pub record PlaysLines (g : Setting) (before now : State Thread → Type 0) (old new : Reader)
    (result : Result (Option LineError) Halt) (out out_now : Option (List ℕ)) : Type 0 where
  pub entries : List Entry
  pub drains : Drains old new entries result
  pub plays : PlaysOn g before now (events_of entries) result out out_now

-- a reader that was fed these bytes has passed these entries
pub record HasFollowed (known : Known) (given : List ℕ) (entries : List Entry) (reader : Reader) : Type 0 where
  pub knows : reader.known ≡ known
  pub feeding : reader.finished ≡ false
  pub fed : reader.fed ≡ length given
  pub all : (more : List ℕ) → entries_of known (given ++ more) ≡ after entries (entries_with reader more)
  pub counted : (more : List ℕ) → heard known (given ++ more) ≡ after entries (heard_with reader more)

-- the file of a reading
abbrev pub file_in : OpenFile → List ℕ
file_in r = r.given ++ r.rest

-- what is played of it
abbrev pub played_in_file : Setting → OpenFile → Played
played_in_file g r = played_of events_limit g.known (file_in r)

abbrev pub texts_of : Setting → OpenFile → Texts
texts_of g r = record {
  all = text_of g (played_in_file g r);
  heard = text_heard g r.given;
  before = text_heard g (take (length r.given - piece) r.given);
}

-- what a status says of a file that was read so far: how its playing ends, or that no bad line is heard in the bytes given and they are
-- not too many
abbrev pub TellsOfFile : Setting → OpenFile → Status → Why → Type 0
TellsOfFile g r status Finished = status ≡ status_at (played_in_file g r).end
TellsOfFile g r status Refused = ⊥
TellsOfFile g r status (ReadFailed input) = (input ≡ events_input) × ((heard g.known r.given).bad ≡ None) × (length r.given ≤ events_limit)
TellsOfFile g r status WriteFailed = ⊤
TellsOfFile g r status OutOfMemory = ⊤

-- what was written of its text
abbrev pub WritesOf : Texts → Why → Option (List ℕ) → Option (List ℕ) → Type 0
WritesOf t Finished old new = AppendsAll t.all old new
WritesOf t Refused old new = ⊥
WritesOf t (ReadFailed events_input) old new = AppendsAll t.heard old new
WritesOf t (ReadFailed policy_input) old new = ⊥
WritesOf t (ReadFailed (module_input f)) old new = ⊥
WritesOf t WriteFailed old new = AppendsLess t.before t.all old new
WritesOf t OutOfMemory old new = AppendsPrefix [] t.all old new

-- the answer of the playing of a file
pub record PlaysFile (g : Setting) (r : OpenFile) (status : Status) (old new : Option (List ℕ)) : Type 0 where
  pub tells : TellsOfFile g r status (why status)
  pub ended : status ≡ Done → r.rest ≡ []
  pub past : status ≡ TooLong events_input → length r.given ≡ events_limit + 1
  pub stopped : (bad : LineError) → status ≡ Events bad → StopsAt g.known bad r
  pub writes : WritesOf (texts_of g r) (why status) old new

-- how a call ends that plays a file
abbrev pub status_of : Result (Option LineError) Halt → Status
status_of (Ok None) = Done
status_of (Ok (Some bad)) = Events bad
status_of (Err Write) = WriteFault
status_of (Err no_memory) = NoMemory

-- the playing of a file ends it: done, at a bad line or past the limit, by a fault of its own file or of the output, or out of memory
abbrev pub IsOfPlay : Status → Why → Type 0
IsOfPlay status Finished = ⊤
IsOfPlay status Refused = ⊥
IsOfPlay status (ReadFailed input) = input ≡ events_input
IsOfPlay status WriteFailed = ⊤
IsOfPlay status OutOfMemory = ⊤
