-- Which of the files held in memory is open, and which was named last.
use Rattle.std.specs.Prelude.{◌≡◌, string_bytes, ⊤, ℕ, ◌<◌, ◌≤◌, List, [], length, take, drop, slice_get, None, Some, IfSome}
use Rattle.std.specs.declared.option.Option.{Option}
use Rattle.trapeze_io.specs.Memory.{File}
use Rattle.trapeze_io.specs.Seen.{OpenFile}
use Rattle.trapeze_io.specs.declared.memory_files.LastName.{LastName}
use Rattle.trapeze_io.specs.declared.memory_files.LastName.TheVariants.{Untold, Held, Other}

abbrev pub bytes_of : Option File → List ℕ
bytes_of None = []
bytes_of (Some file) = file.bytes

-- the bytes of the open file, by its place, and none where no file is open
abbrev pub bytes_at : List File → Option ℕ → List ℕ
bytes_at files None = []
bytes_at files (Some place) = bytes_of (slice_get files place)

-- the open file, of which so many bytes were given
abbrev pub open_at : List File → Option ℕ → ℕ → OpenFile
open_at files current count = record { given = take count (bytes_at files current); rest = drop count (bytes_at files current) }

-- an open place is that of a file that is held, and no more was given than it has
pub record IsOpenAt (files : List File) (current : Option ℕ) (count : ℕ) : Type 0 where
  pub held : IfSome current (λ place. place < length files)
  pub given : count ≤ length (bytes_at files current)

abbrev pub name_of : Option File → List ℕ
name_of None = []
name_of (Some file) = file.name

-- the name that was opened last, where it is told: that of the file held at a place, or another
abbrev pub last_name_in : List File → LastName → Option (List ℕ)
last_name_in files Untold = None
last_name_in files (Held place) = Some (name_of (slice_get files place))
last_name_in files (Other name) = Some (string_bytes name)

-- what is kept of a name that is not held: the name, or nothing
abbrev pub IsOther : LastName → List ℕ → Type 0
IsOther Untold text = ⊤
IsOther (Held place) text = ⊥
IsOther (Other name) text = string_bytes name ≡ text

-- a place that is kept of the last name is that of a file that is held
abbrev pub IsNamedIn : List File → LastName → Type 0
IsNamedIn files Untold = ⊤
IsNamedIn files (Held place) = place < length files
IsNamedIn files (Other name) = ⊤
