-- What a line means: who may see it, which lines a run prints, and within which limits its parts lie.
use Rattle.std.specs.Prelude.{ℕ, ◌<◌, ◌≤◌, ◌^◌, ⊤, Bool, true, false, List, All, IfSome, IsTrue, filter, length}
use Rattle.trapeze_io.specs.Names.{is_name}
use Rattle.trapeze_io.specs.Sizes.{IsKey, longest_value}
use Rattle.trapeze_lines.specs.declared.line.Line.{Line}
use Rattle.trapeze_lines.specs.declared.line.Kind.{Kind}
use Rattle.trapeze_lines.specs.declared.line.Kind.TheVariants.{Reply, Turn, Idle, Dropped, Full, Facet, Write, Read, Send, Answer, Start}

-- the line of the label with this number that says this
abbrev pub line_at : ℕ → Kind → Line
line_at label kind = record { label = record { number = label }; kind = kind }

-- the lines whose label flows to o, in order
abbrev pub visible : (ℕ → ℕ → Bool) → ℕ → List Line → List Line
visible flows o lines = filter (λ line. flows line.label.number o) lines

-- a run prints replies, turns, idle turns, dropped activations, writes that did not fit and facets
abbrev pub is_of_run : Kind → Bool
is_of_run (Reply client id bytes) = true
is_of_run (Turn number function id outcome) = true
is_of_run (Idle number) = true
is_of_run (Dropped function id) = true
is_of_run (Full key) = true
is_of_run (Facet key value) = true
is_of_run (Write key value) = false
is_of_run (Read key value) = false
is_of_run (Send channel bytes) = false
is_of_run (Answer client id bytes) = false
is_of_run (Start from function id) = false

-- the lines that a run prints, in order
abbrev pub run_kinds : List Line → List Line
run_kinds lines = filter (λ line. is_of_run line.kind) lines

-- each is a byte
abbrev pub AreBytes : List ℕ → Type 0
AreBytes bytes = All (λ b. b < 256) bytes

-- a list of bytes that is no longer than a key may be
abbrev pub IsKeyBytes : List ℕ → Type 0
IsKeyBytes key = AreBytes key × IsKey key

-- a list of bytes that is no longer than a value, a message or a reply may be
abbrev pub IsContent : List ℕ → Type 0
IsContent bytes = AreBytes bytes × (length bytes ≤ longest_value)

abbrev pub IsName : List ℕ → Type 0
IsName bytes = IsTrue (is_name bytes)

-- the other label that a line names, if it does, is one of so many
abbrev pub IsFrom : ℕ → Kind → Type 0
IsFrom count (Start from function id) = from.number < count
IsFrom count kind = ⊤

-- the labels that a line names are among so many
pub record IsLabelled (count : ℕ) (line : Line) : Type 0 where
  pub at : line.label.number < count
  pub from : IsFrom count line.kind

-- what a line says lies within its limits
abbrev pub IsWithin : Kind → Type 0
IsWithin (Reply client id bytes) = IsName client × IsName id × IsContent bytes
IsWithin (Turn number function id outcome) = (number < 2 ^ 64) × IsName function × IfSome id IsName
IsWithin (Idle number) = number < 2 ^ 64
IsWithin (Dropped function id) = IsName function × IfSome id IsName
IsWithin (Full key) = IsKeyBytes key
IsWithin (Facet key value) = IsKeyBytes key × IfSome value IsContent
IsWithin (Write key value) = IsKeyBytes key × IfSome value IsContent
IsWithin (Read key value) = IsKeyBytes key × IfSome value IsContent
IsWithin (Send channel bytes) = IsName channel × IsContent bytes
IsWithin (Answer client id bytes) = IsName client × IsName id × IsContent bytes
IsWithin (Start from function id) = IsName function × IfSome id IsName

-- a line whose labels are among so many, with its parts within their limits
pub record IsLine (count : ℕ) (line : Line) : Type 0 where
  pub labelled : IsLabelled count line
  pub within : IsWithin line.kind
