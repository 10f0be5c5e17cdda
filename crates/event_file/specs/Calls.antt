-- What the calls of a reader of an event file do.
use Rattle.std.specs.Prelude.{◌≡◌, ◌≢◌, ℕ, ◌+◌, ◌<◌, ◌==◌, ◌⊎◌, ⊤, List, [], ◌∷◌, ◌++◌, length, true, false, if◌then◌else◌, Option, None, Some, Result, Ok, Err}
use Rattle.event_file.specs.Lines.{lines_of, is_too_long}
use Rattle.event_file.specs.Script.{Entries, after, IsWithin}
use Rattle.event_file.specs.Reader.{Reader, said_by, entries_with, IsOneLine}
use Rattle.event_file.specs.declared.entry.Entry.{Entry}
use Rattle.event_file.specs.declared.fault.LineError.{LineError}
use Rattle.event_file.specs.declared.fault.LineFault.{LineFault}
use Rattle.event_file.specs.declared.fault.LineFault.TheVariants.{LineTooLong}
use Rattle.event_file.specs.declared.next.Next.{Next}
use Rattle.event_file.specs.declared.next.Next.TheVariants as next

-- each of the lines says nothing
abbrev pub SayNothing : Reader → List (List ℕ) → Type 0
SayNothing reader [] = ⊤
SayNothing reader (line ∷ lines) = (said_by reader line ≡ Ok None) × SayNothing reader lines

-- whole lines that say nothing are used and counted, and nothing else changes
pub record Skips (old new : Reader) : Type 0 where
  pub skipped : List (List ℕ)
  pub nothing : SayNothing old skipped
  pub whole : lines_of old.kept ≡ skipped ++ lines_of new.kept
  pub same : new ≡ record old { kept = new.kept; lines = old.lines + length skipped }

-- what is left is a part of a line, and not too long
pub record IsShort (reader : Reader) : Type 0 where
  pub part : IsOneLine reader.kept
  pub short : is_too_long reader.kept ≡ false

-- the next line is whole, says this entry, and is used and counted
pub record Uses (old new : Reader) (entry : Entry) : Type 0 where
  pub line : List ℕ
  pub says : said_by old line ≡ Ok (Some entry)
  pub whole : lines_of old.kept ≡ line ∷ lines_of new.kept
  pub same : new ≡ record old { kept = new.kept; lines = old.lines + 1 }

-- a line and those below it, of which the line is whole or too long already
pub record IsWholeOrLong (line : List ℕ) (below : List (List ℕ)) : Type 0 where
  pub ready : (below ≢ []) ⊎ (is_too_long line ≡ true)

-- the next line, which is whole or too long already, is this bad one
pub record Stops (old new : Reader) (bad : LineError) : Type 0 where
  pub line : List ℕ
  pub below : List (List ℕ)
  pub lines : lines_of old.kept ≡ line ∷ below
  pub ready : IsWholeOrLong line below
  pub faulty : said_by old line ≡ Err bad.fault
  pub number : bad.line ≡ old.lines + 1
  pub same : new ≡ record old { bad = Some bad }

-- the next line is whole and does not say nothing
pub record Waits (reader : Reader) : Type 0 where
  pub line : List ℕ
  pub below : List (List ℕ)
  pub lines : lines_of reader.kept ≡ line ∷ below
  pub whole : below ≢ []
  pub says : said_by reader line ≢ Ok None

-- what `next_line` does once it has used the whole lines that say nothing, where no bad line was answered before
abbrev pub Goes : Reader → Reader → Next → Type 0
Goes old new (next.Entry entry) = Uses old new entry
Goes old new (next.Bad bad) = Stops old new bad
Goes old new next.NoLine = (new ≡ old) × IsShort new
Goes old new next.NoMemory = (new ≡ old) × Waits new

-- what `next_line` does where no bad line was answered before
pub record Advances (old new : Reader) (answer : Next) : Type 0 where
  pub between : Reader
  pub skips : Skips old between
  pub goes : Goes between new answer

-- the bad line that was answered, if any, after an answer
abbrev pub bad_after : Option LineError → Next → Option LineError
bad_after old (next.Entry entry) = old
bad_after old (next.Bad bad) = Some bad
bad_after old next.NoLine = old
bad_after old next.NoMemory = old

-- what a line says, or else what comes after it
abbrev pub or_later : Result (Option Entry) LineFault → Option (Result Entry LineFault) → Option (Result Entry LineFault)
or_later (Ok None) later = later
or_later (Ok (Some entry)) later = Some (Ok entry)
or_later (Err fault) later = Some (Err fault)

-- what the first of the lines held that says something says: a whole one, or the last one as soon as it is too long
abbrev pub first_said : Reader → List (List ℕ) → Option (Result Entry LineFault)
first_said reader [] = None
first_said reader (line ∷ []) = if is_too_long line then Some (Err LineTooLong) else None
first_said reader (line ∷ next ∷ lines) = or_later (said_by reader line) (first_said reader (next ∷ lines))

-- the answer of `next_line` is what the lines held say first, and only being out of memory keeps an entry back
abbrev pub IsDue : Option (Result Entry LineFault) → Next → Type 0
IsDue said (next.Entry entry) = said ≡ Some (Ok entry)
IsDue said (next.Bad bad) = said ≡ Some (Err bad.fault)
IsDue said next.NoLine = said ≡ None
IsDue said next.NoMemory = said ≢ None

-- an entry uses some of the bytes kept, and where no line is there, those left are a part of one
abbrev pub Leaves : Reader → Reader → Next → Type 0
Leaves old new (next.Entry entry) = length new.kept < length old.kept
Leaves old new (next.Bad bad) = ⊤
Leaves old new next.NoLine = IsShort new
Leaves old new next.NoMemory = ⊤

-- how the answer continues the entries that are read or heard, whatever bytes are fed after those kept
abbrev pub Continues : (Reader → List ℕ → Entries) → Reader → Reader → Next → List ℕ → Type 0
Continues entries old new (next.Entry entry) more = entries old more ≡ after (entry ∷ []) (entries new more)
Continues entries old new (next.Bad bad) more = entries old more ≡ record { entries = []; bad = Some bad }
Continues entries old new next.NoLine more = entries old more ≡ entries new more
Continues entries old new next.NoMemory more = entries old more ≡ entries new more

-- the last line, which has no end, is used and counted if it has a byte
abbrev pub used_up : Reader → Reader
used_up old =
    record old { kept = []; lines = old.lines + (if length old.kept == 0 then 0 else 1); finished = true }

-- what `finish` does with the last line, which has no end, where no bad line was answered before
abbrev pub Finishes : Reader → Reader → Next → Type 0
Finishes old new (next.Entry entry) = (said_by old old.kept ≡ Ok (Some entry)) × (new ≡ used_up old)
Finishes old new (next.Bad bad) =
    (said_by old old.kept ≡ Err bad.fault) × (bad.line ≡ old.lines + 1) × (new ≡ record old { finished = true; bad = Some bad })
Finishes old new next.NoLine = (said_by old old.kept ≡ Ok None) × (new ≡ used_up old)
Finishes old new next.NoMemory = (said_by old old.kept ≢ Ok None) × (new ≡ record old { finished = true })

-- how the answer of `finish` completes the entries
abbrev pub Completes : Reader → Reader → Next → Type 0
Completes old new (next.Entry entry) = entries_with old [] ≡ after (entry ∷ []) (entries_with new [])
Completes old new (next.Bad bad) = entries_with old [] ≡ record { entries = []; bad = Some bad }
Completes old new next.NoLine = entries_with old [] ≡ record { entries = []; bad = None }
Completes old new next.NoMemory = entries_with old [] ≡ entries_with new []

-- an entry that is given keeps to the limits
abbrev pub GivesWithin : Reader → Next → Type 0
GivesWithin reader (next.Entry entry) = IsWithin reader.known entry
GivesWithin reader (next.Bad bad) = ⊤
GivesWithin reader next.NoLine = ⊤
GivesWithin reader next.NoMemory = ⊤
