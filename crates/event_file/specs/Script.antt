-- What an event file says: the entries of its lines up to the first bad one.
use Rattle.std.specs.Prelude.{ℕ, ◌+◌, ◌<◌, ◌≤◌, IsTrue, List, [], ◌∷◌, ◌++◌, length, if◌then◌else◌, codes, Option, None, Some, Result, Ok, Err}
use Rattle.std.specs.Str.{bytes_eq}
use Rattle.event_file.specs.Lines.{lines_of, is_too_long, is_remark}
use Rattle.trapeze_io.specs.Answers.{◌>>=◌}
use Rattle.trapeze_io.specs.Names.{is_name}
use Rattle.trapeze_io.specs.Sizes.{IsKey, IsValue, longest_key, longest_value}
use Rattle.trapeze_io.specs.Words.{words_of}
use Rattle.event_file.specs.Known.{Known}
use Rattle.event_file.specs.Spelling.{label_of, client_of, function_of, id_of, bytes_of, value_of, count_of}
use Rattle.event_file.specs.declared.entry.Entry.{Entry}
use Rattle.event_file.specs.declared.entry.Entry.TheVariants.{One, Turns}
use Rattle.event_file.specs.declared.entry.Event.{Event}
use Rattle.event_file.specs.declared.entry.Event.TheVariants.{Put, Ask, Turn}
use Rattle.event_file.specs.declared.fault.LineFault.{LineFault}
use Rattle.event_file.specs.declared.fault.LineFault.TheVariants.{LineTooLong, Word, Count}
use Rattle.event_file.specs.declared.fault.LineError.{LineError}

-- the put that the words after `put` say: a label, a key and a value
unfoldable pub put_of : Known → List (List ℕ) → Result Event LineFault
put_of known (label ∷ key ∷ value ∷ []) = do
  at ← label_of known.labels label
  under ← bytes_of longest_key key
  put ← value_of value
  Ok (Put at under put)
put_of known words = Err Count

-- the ask that the words after `ask` say: a label, a client, a function, an id and a body
unfoldable pub ask_of : Known → List (List ℕ) → Result Event LineFault
ask_of known (label ∷ client ∷ function ∷ id ∷ body ∷ []) = do
  at ← label_of known.labels label
  for ← client_of known.clients client
  runs ← function_of known.functions function
  under ← id_of id
  sent ← bytes_of longest_value body
  Ok (Ask at for runs under sent)
ask_of known words = Err Count

-- the turns that the words after `turn` say: a label and, if there are several, their number
unfoldable pub turn_of : Known → List (List ℕ) → Result Entry LineFault
turn_of known (label ∷ []) = do
  at ← label_of known.labels label
  Ok (One (Turn at))
turn_of known (label ∷ count ∷ []) = do
  at ← label_of known.labels label
  many ← count_of count
  Ok (Turns at many)
turn_of known words = Err Count

-- one event
abbrev pub alone : Result Event LineFault → Result Entry LineFault
alone event = event >>= (λ e. Ok (One e))

-- the entry that the words of a line say, by the first of them
unfoldable pub entry_of : Known → List (List ℕ) → Result Entry LineFault
entry_of known [] = Err Word
entry_of known (first ∷ others) =
    if bytes_eq first (codes "put") then alone (put_of known others)
    else if bytes_eq first (codes "ask") then alone (ask_of known others)
    else if bytes_eq first (codes "turn") then turn_of known others
    else Err Word

-- an entry that is there
abbrev pub said : Result Entry LineFault → Result (Option Entry) LineFault
said (Ok entry) = Ok (Some entry)
said (Err fault) = Err fault

-- what a line says: a fault, nothing or an entry; a line that is too long is a fault also where it would say nothing
unfoldable pub line_of : Known → List ℕ → Result (Option Entry) LineFault
line_of known line =
    if is_too_long line then Err LineTooLong
    else if is_remark line then Ok None
    else said (entry_of known (words_of line))

-- the entries of the lines before the first bad one, and that one, if there is one
pub record Entries : Type 0 where
  pub entries : List Entry
  pub bad : Option LineError

-- some entries come first
abbrev pub after : List Entry → Entries → Entries
after first others = record { entries = first ++ others.entries; bad = others.bad }

-- a line of this number says this, and these are the entries of the lines below it
abbrev pub onto : ℕ → Result (Option Entry) LineFault → Entries → Entries
onto number (Err fault) others = record { entries = []; bad = Some (record { line = number; fault = fault }) }
onto number (Ok None) others = others
onto number (Ok (Some entry)) others = after (entry ∷ []) others

-- the entries of lines of which the first has this number
abbrev pub entries_from : Known → ℕ → List (List ℕ) → Entries
entries_from known number [] = record { entries = []; bad = None }
entries_from known number (line ∷ lines) =
    onto number (line_of known line) (entries_from known (number + 1) lines)

-- the entries of an event file, whose lines are numbered from 1
abbrev pub entries_of : Known → List ℕ → Entries
entries_of known bytes = entries_from known 1 (lines_of bytes)

-- an event names labels, clients and functions that are known, and its key, value and body are no longer than they may be
abbrev pub IsFit : Known → Event → Type 0
IsFit known (Put label key value) = (label.number < length known.labels) × IsKey key × IsValue value
IsFit known (Ask label client function id body) =
    (label.number < length known.labels) × (client < length known.clients) × (function < length known.functions)
    × IsTrue (is_name id) × (length body ≤ longest_value)
IsFit known (Turn label) = label.number < length known.labels

-- an entry keeps to the limits
abbrev pub IsWithin : Known → Entry → Type 0
IsWithin known (One event) = IsFit known event
IsWithin known (Turns label count) = (label.number < length known.labels) × (1 ≤ count) × (count ≤ 1000000)
