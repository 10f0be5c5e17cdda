-- What contracts see of a reader of an event file.
use Rattle.std.specs.Prelude.{◌≡◌, ℕ, ◌+◌, List, [], ◌∷◌, ◌++◌, Bool, Option, Result}
use Rattle.event_file.specs.Known.{Known}
use Rattle.event_file.specs.Lines.{lines_of}
use Rattle.event_file.specs.Script.{line_of, Entries, entries_from}
use Rattle.event_file.specs.declared.entry.Entry.{Entry}
use Rattle.event_file.specs.declared.fault.LineFault.{LineFault}
use Rattle.event_file.specs.declared.fault.LineError.{LineError}

-- the names that lines may use, the bytes fed and not yet used, the numbers of lines used and of bytes fed, whether
-- the feeding has ended, and the bad line that was answered
pub record Reader : Type 0 where
  pub known : Known
  pub kept : List ℕ
  pub lines : ℕ
  pub fed : ℕ
  pub finished : Bool
  pub bad : Option LineError

-- what a line says to a reader
abbrev pub said_by : Reader → List ℕ → Result (Option Entry) LineFault
said_by reader line = line_of reader.known line

-- the entries of the bytes kept and of more bytes after them, with the lines numbered on from those used
abbrev pub entries_with : Reader → List ℕ → Entries
entries_with reader more = entries_from reader.known (reader.lines + 1) (lines_of (reader.kept ++ more))

-- the bytes are one line without an end
abbrev pub IsOneLine : List ℕ → Type 0
IsOneLine bytes = lines_of bytes ≡ bytes ∷ []
