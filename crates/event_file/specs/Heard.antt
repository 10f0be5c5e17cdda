-- What bytes say that may go on.
use Rattle.std.specs.Prelude.{ℕ, ◌+◌, List, [], ◌∷◌, ◌++◌, if◌then◌else◌}
use Rattle.event_file.specs.Known.{Known}
use Rattle.event_file.specs.Lines.{lines_of, is_too_long}
use Rattle.event_file.specs.Script.{Entries, entries_from}
use Rattle.event_file.specs.Reader.{Reader}

-- the lines that count where the bytes may go on: the whole ones, and the last one as soon as it is too long
abbrev pub counting : List (List ℕ) → List (List ℕ)
counting [] = []
counting (line ∷ []) = if is_too_long line then line ∷ [] else []
counting (line ∷ next ∷ lines) = line ∷ counting (next ∷ lines)

-- the entries that are heard in bytes that may go on: those of the lines that count
abbrev pub heard : Known → List ℕ → Entries
heard known bytes = entries_from known 1 (counting (lines_of bytes))

-- the entries that are heard in the bytes kept and more bytes after them, with the lines numbered on from those used
abbrev pub heard_with : Reader → List ℕ → Entries
heard_with reader more = entries_from reader.known (reader.lines + 1) (counting (lines_of (reader.kept ++ more)))
