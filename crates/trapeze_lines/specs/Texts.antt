-- The text of lines, words with one space between each two and a line feed, and what a call that reads a text answers.
use Rattle.std.specs.Prelude.{◌≡◌, ⊤, ℕ, List, [], ◌∷◌, ◌++◌, Option, Some, None, codes, decimal, slice_index_or}
use Rattle.std.specs.List.{flat_map, join_with_byte}
use Rattle.hex.specs.Hex.{encode_lower}
use Rattle.label_lattice.specs.Order.{Order, count}
use Rattle.label_lattice.specs.declared.label.Label.{Label}
use Rattle.trapeze_lines.specs.declared.line.Line.{Line}
use Rattle.trapeze_lines.specs.declared.line.Kind.{Kind}
use Rattle.trapeze_lines.specs.declared.line.Kind.TheVariants.{Reply, Turn, Idle, Dropped, Full, Facet, Write, Read, Send, Answer, Start}
use Rattle.trapeze_lines.specs.declared.outcome.Outcome.{Outcome}
use Rattle.trapeze_lines.specs.declared.outcome.Outcome.TheVariants.{Ended, Waits, Raised, Trapped}
use Rattle.trapeze_lines.specs.declared.outcome.Cause.{Cause}
use Rattle.trapeze_lines.specs.declared.outcome.Cause.TheVariants as cause
use Rattle.trapeze_lines.specs.declared.read.ReadLine.{ReadLine}
use Rattle.trapeze_lines.specs.declared.read.ReadLine.TheVariants as answer
use Rattle.trapeze_lines.specs.Lines.{IsLine}

-- the name of a label
abbrev pub label_text : List (List ℕ) → Label → List ℕ
label_text names label = slice_index_or names label.number []

-- bytes: an x and two lower-case hexadecimal digits for each
abbrev pub bytes_text : List ℕ → List ℕ
bytes_text bytes = 120 ∷ encode_lower bytes

-- a value: its bytes, or a dash where it is absent
abbrev pub value_text : Option (List ℕ) → List ℕ
value_text None = codes "-"
value_text (Some bytes) = bytes_text bytes

-- the id of a request, or a dash where there is none
abbrev pub id_text : Option (List ℕ) → List ℕ
id_text None = codes "-"
id_text (Some id) = id

abbrev pub cause_text : Cause → List ℕ
cause_text cause.Unreachable = codes "unreachable"
cause_text cause.Memory = codes "memory"
cause_text cause.Divide = codes "divide"
cause_text cause.Overflow = codes "overflow"
cause_text cause.Table = codes "table"
cause_text cause.Empty = codes "empty"
cause_text cause.TypeDiffers = codes "type"
cause_text cause.Stack = codes "stack"
cause_text cause.Pages = codes "pages"
cause_text cause.Fuel = codes "fuel"
cause_text cause.Size = codes "size"
cause_text cause.Unknown = codes "unknown"

-- the first word of an outcome
abbrev pub outcome_text : Outcome → List ℕ
outcome_text Ended = codes "ended"
outcome_text Waits = codes "waits"
outcome_text Raised = codes "raised"
outcome_text (Trapped why) = codes "trapped"

-- the words of an outcome
abbrev pub outcome_words : Outcome → List (List ℕ)
outcome_words Ended = codes "ended" ∷ []
outcome_words Waits = codes "waits" ∷ []
outcome_words Raised = codes "raised" ∷ []
outcome_words (Trapped why) = codes "trapped" ∷ cause_text why ∷ []

-- the first word of a line
abbrev pub kind_word : Kind → List ℕ
kind_word (Reply client id bytes) = codes "reply"
kind_word (Turn number function id outcome) = codes "turn"
kind_word (Idle number) = codes "idle"
kind_word (Dropped function id) = codes "drop"
kind_word (Full key) = codes "full"
kind_word (Facet key value) = codes "facet"
kind_word (Write key value) = codes "write"
kind_word (Read key value) = codes "read"
kind_word (Send channel bytes) = codes "send"
kind_word (Answer client id bytes) = codes "answer"
kind_word (Start from function id) = codes "start"

-- the words after the name of the line's label
abbrev pub other_words : List (List ℕ) → Kind → List (List ℕ)
other_words names (Reply client id bytes) = client ∷ id ∷ bytes_text bytes ∷ []
other_words names (Turn number function id outcome) = decimal number ∷ function ∷ id_text id ∷ outcome_words outcome
other_words names (Idle number) = decimal number ∷ []
other_words names (Dropped function id) = function ∷ id_text id ∷ []
other_words names (Full key) = bytes_text key ∷ []
other_words names (Facet key value) = bytes_text key ∷ value_text value ∷ []
other_words names (Write key value) = bytes_text key ∷ value_text value ∷ []
other_words names (Read key value) = bytes_text key ∷ value_text value ∷ []
other_words names (Send channel bytes) = channel ∷ bytes_text bytes ∷ []
other_words names (Answer client id bytes) = client ∷ id ∷ bytes_text bytes ∷ []
other_words names (Start from function id) = label_text names from ∷ function ∷ id_text id ∷ []

-- the words of a line
abbrev pub line_words : List (List ℕ) → Line → List (List ℕ)
line_words names line = kind_word line.kind ∷ label_text names line.label ∷ other_words names line.kind

-- a line's text without its line feed: its words with one space between each two
abbrev pub bare_text : List (List ℕ) → Line → List ℕ
bare_text names line = join_with_byte 32 (line_words names line)

-- a line's text
abbrev pub line_text : List (List ℕ) → Line → List ℕ
line_text names line = bare_text names line ++ codes "\n"

-- the texts of the lines, joined
abbrev pub text : List (List ℕ) → List Line → List ℕ
text names lines = flat_map (line_text names) lines

-- the text, without its line feed, is that of the line, which lies within its limits
abbrev pub IsTextOf : Order → List ℕ → Line → Type 0
IsTextOf order bytes line = IsLine (count order) line × (bare_text order.names line ≡ bytes)

-- a line is answered where the text is that line's, and that there is none where it is no line's
abbrev pub IsReading : Order → List ℕ → ReadLine → Type 0
IsReading order bytes (answer.Line line) = IsTextOf order bytes line
IsReading order bytes answer.NotALine = (line : Line) → IsTextOf order bytes line → ⊥
IsReading order bytes answer.NoMemory = ⊤
