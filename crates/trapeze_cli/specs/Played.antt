-- How far an event file is played.
use Rattle.std.specs.Prelude.{ℕ, List, take, length, replicate, nat_lt, if◌then◌else◌, ◌∷◌, [], Option, None, Some}
use Rattle.std.specs.List.{flat_map}
use Rattle.event_file.specs.Known.{Known}
use Rattle.event_file.specs.Script.{Entries, entries_of}
use Rattle.event_file.specs.Heard.{heard}
use Rattle.event_file.specs.declared.entry.Entry.{Entry}
use Rattle.event_file.specs.declared.entry.Entry.TheVariants.{One, Turns}
use Rattle.event_file.specs.declared.entry.Event.{Event}
use Rattle.event_file.specs.declared.entry.Event.TheVariants.{Turn}
use Rattle.event_file.specs.declared.fault.LineError.{LineError}

-- where the playing of a file ends: at its end, at its first bad line, or past the most bytes that it may have
pub data FileEnd : Type 0 where
  AtEnd : FileEnd
  AtBad : LineError → FileEnd
  PastLimit : FileEnd

-- what is played of a file, and where that ends
pub record Played : Type 0 where
  pub entries : List Entry
  pub end : FileEnd

-- at the bad line, if there is one
abbrev pub end_at : FileEnd → Option LineError → FileEnd
end_at end None = end
end_at end (Some bad) = AtBad bad

abbrev pub up_to : FileEnd → Entries → Played
up_to end read = record { entries = read.entries; end = end_at end read.bad }

-- what is played of a file: all of it; or, where it has more bytes than the limit, the lines that count in the first of them, which are the
-- whole ones, and the last one if it is too long already
abbrev pub played_of : ℕ → Known → List ℕ → Played
played_of limit known file =
    if nat_lt limit (length file) then up_to PastLimit (heard known (take limit file)) else up_to AtEnd (entries_of known file)

-- the events of an entry
abbrev pub entry_events : Entry → List Event
entry_events (One event) = event ∷ []
entry_events (Turns label count) = replicate count (Turn label)

-- the events of the entries, in order
abbrev pub events_of : List Entry → List Event
events_of entries = flat_map entry_events entries
