-- The line that words say, read from the left: the other way round from the text of a line.
use Rattle.std.specs.Prelude.{ℕ, ◌^◌, List, [], ◌∷◌, length, Option, Some, None, Result, Ok, Err, ◌==◌, ◌&&◌, not, nat_le, nat_lt, if◌then◌else◌, codes, decimal, ok_or}
use Rattle.std.specs.List.{find, list_all}
use Rattle.std.specs.Char.{is_ascii_uppercase}
use Rattle.std.specs.Str.{bytes_eq}
use Rattle.std.specs.Str.Parse.{digits_value}
use Rattle.hex.specs.Hex.{decode_of}
use Rattle.hex.specs.declared.error.FromHexError.{FromHexError}
use Rattle.trapeze_io.specs.Answers.{◌>>=◌}
use Rattle.trapeze_io.specs.Names.{is_name}
use Rattle.trapeze_io.specs.Sizes.{longest_key, longest_value}
use Rattle.label_lattice.specs.Order.{place_of}
use Rattle.label_lattice.specs.declared.label.Label.{Label}
use Rattle.trapeze_lines.specs.declared.line.Line.{Line}
use Rattle.trapeze_lines.specs.declared.line.Kind.{Kind}
use Rattle.trapeze_lines.specs.declared.line.Kind.TheVariants.{Reply, Turn, Idle, Dropped, Full, Facet, Write, Read, Send, Answer, Start}
use Rattle.trapeze_lines.specs.declared.outcome.Outcome.{Outcome}
use Rattle.trapeze_lines.specs.declared.outcome.Outcome.TheVariants.{Ended, Waits, Raised, Trapped}
use Rattle.trapeze_lines.specs.declared.outcome.Cause.{Cause}
use Rattle.trapeze_lines.specs.declared.outcome.Cause.TheVariants as cause
use Rattle.trapeze_lines.specs.declared.words.Unread.{Unread}
use Rattle.trapeze_lines.specs.declared.words.Unread.TheVariants.{NotALine, NoMemory}
use Rattle.trapeze_lines.specs.Texts.{cause_text, outcome_text}

-- the one fault of words: they say nothing that a line may say
pub data TextFault : Type 0 where
  SaysNothing : TextFault

-- the fault for which words could not be read, and none where the call was out of memory
abbrev pub fault_of : Unread → Option TextFault
fault_of NotALine = Some SaysNothing
fault_of NoMemory = None

unfoldable pub name_of : List ℕ → Result (List ℕ) TextFault
name_of word = if is_name word then Ok word else Err SaysNothing

-- the id of a request, or a dash where there is none
unfoldable pub id_of : List ℕ → Result (Option (List ℕ)) TextFault
id_of word = if bytes_eq word (codes "-") then Ok None else name_of word >>= (λ name. Ok (Some name))

unfoldable pub label_of : List (List ℕ) → List ℕ → Result Label TextFault
label_of names word = do
  place ← ok_or (place_of word names) SaysNothing
  Ok (record { number = place })

-- the number whose decimal digits the word is
unfoldable pub number_of : List ℕ → Result ℕ TextFault
number_of word =
    if nat_lt (digits_value 10 word) (2 ^ 64) && bytes_eq (decimal (digits_value 10 word)) word then Ok (digits_value 10 word)
    else Err SaysNothing

-- the bytes that were decoded, if they are no more than there may be
abbrev pub bounded : ℕ → Result (List ℕ) FromHexError → Result (List ℕ) TextFault
bounded most (Ok bytes) = if nat_le (length bytes) most then Ok bytes else Err SaysNothing
bounded most (Err bad) = Err SaysNothing

-- the bytes that a word spells, if there are at most so many
unfoldable pub bytes_of : ℕ → List ℕ → Result (List ℕ) TextFault
bytes_of most [] = Err SaysNothing
bytes_of most (mark ∷ digits) =
    if mark == 120 && list_all (λ digit. not (is_ascii_uppercase digit)) digits then bounded most (decode_of digits)
    else Err SaysNothing

-- the value that a word spells, or a dash where it is absent
unfoldable pub value_of : List ℕ → Result (Option (List ℕ)) TextFault
value_of word = if bytes_eq word (codes "-") then Ok None else bytes_of longest_value word >>= (λ bytes. Ok (Some bytes))

-- the twelve causes
abbrev pub causes : List Cause
causes =
    cause.Unreachable ∷ cause.Memory ∷ cause.Divide ∷ cause.Overflow ∷ cause.Table ∷ cause.Empty ∷ cause.TypeDiffers ∷ cause.Stack
    ∷ cause.Pages ∷ cause.Fuel ∷ cause.Size ∷ cause.Unknown ∷ []

unfoldable pub cause_of : List ℕ → Result Cause TextFault
cause_of word = ok_or (find (λ why. bytes_eq (cause_text why) word) causes) SaysNothing

-- the outcomes of one word
abbrev pub outcomes : List Outcome
outcomes = Ended ∷ Waits ∷ Raised ∷ []

unfoldable pub plain_outcome_of : List ℕ → Result Outcome TextFault
plain_outcome_of word = ok_or (find (λ end. bytes_eq (outcome_text end) word) outcomes) SaysNothing

unfoldable pub outcome_of : List (List ℕ) → Result Outcome TextFault
outcome_of (word ∷ []) = plain_outcome_of word
outcome_of (word ∷ why ∷ []) =
    if bytes_eq word (codes "trapped") then cause_of why >>= (λ cause. Ok (Trapped cause)) else Err SaysNothing
outcome_of words = Err SaysNothing

-- a client, an id and bytes
unfoldable pub reply_of : List (List ℕ) → Result (List ℕ × List ℕ × List ℕ) TextFault
reply_of (client ∷ id ∷ bytes ∷ []) = do
  to ← name_of client
  for ← name_of id
  said ← bytes_of longest_value bytes
  Ok (to, for, said)
reply_of words = Err SaysNothing

-- a function and the id of a request or a dash
unfoldable pub activation_of : List (List ℕ) → Result (List ℕ × Option (List ℕ)) TextFault
activation_of (function ∷ id ∷ []) = do
  runs ← name_of function
  for ← id_of id
  Ok (runs, for)
activation_of words = Err SaysNothing

-- a key and a value
unfoldable pub facet_of : List (List ℕ) → Result (List ℕ × Option (List ℕ)) TextFault
facet_of (key ∷ value ∷ []) = do
  under ← bytes_of longest_key key
  holds ← value_of value
  Ok (under, holds)
facet_of words = Err SaysNothing

-- a key
unfoldable pub key_of : List (List ℕ) → Result (List ℕ) TextFault
key_of (key ∷ []) = bytes_of longest_key key
key_of words = Err SaysNothing

-- a channel and bytes
unfoldable pub message_of : List (List ℕ) → Result (List ℕ × List ℕ) TextFault
message_of (channel ∷ bytes ∷ []) = do
  into ← name_of channel
  sent ← bytes_of longest_value bytes
  Ok (into, sent)
message_of words = Err SaysNothing

-- a number alone
unfoldable pub idle_of : List (List ℕ) → Result ℕ TextFault
idle_of (number ∷ []) = number_of number
idle_of words = Err SaysNothing

-- a number, a function, an id or a dash, and an outcome
unfoldable pub turn_of : List (List ℕ) → Result Kind TextFault
turn_of (number ∷ function ∷ id ∷ outcome) = do
  count ← number_of number
  runs ← name_of function
  for ← id_of id
  end ← outcome_of outcome
  Ok (Turn count runs for end)
turn_of words = Err SaysNothing

-- a label, a function and an id or a dash
unfoldable pub start_of : List (List ℕ) → List (List ℕ) → Result Kind TextFault
start_of names (label ∷ words) = do
  from ← label_of names label
  runs ← activation_of words
  Ok (Start from runs.0 runs.1)
start_of names [] = Err SaysNothing

-- what a line with this first word says by the words after the name of its label
unfoldable pub kind_of : List (List ℕ) → List ℕ → List (List ℕ) → Result Kind TextFault
kind_of names first words =
    if bytes_eq first (codes "reply") then reply_of words >>= (λ r. Ok (Reply r.0 r.1 r.2))
    else if bytes_eq first (codes "turn") then turn_of words
    else if bytes_eq first (codes "idle") then idle_of words >>= (λ n. Ok (Idle n))
    else if bytes_eq first (codes "drop") then activation_of words >>= (λ a. Ok (Dropped a.0 a.1))
    else if bytes_eq first (codes "full") then key_of words >>= (λ k. Ok (Full k))
    else if bytes_eq first (codes "facet") then facet_of words >>= (λ f. Ok (Facet f.0 f.1))
    else if bytes_eq first (codes "write") then facet_of words >>= (λ f. Ok (Write f.0 f.1))
    else if bytes_eq first (codes "read") then facet_of words >>= (λ f. Ok (Read f.0 f.1))
    else if bytes_eq first (codes "send") then message_of words >>= (λ m. Ok (Send m.0 m.1))
    else if bytes_eq first (codes "answer") then reply_of words >>= (λ r. Ok (Answer r.0 r.1 r.2))
    else if bytes_eq first (codes "start") then start_of names words
    else Err SaysNothing

-- the line that words say
unfoldable pub line_of : List (List ℕ) → List (List ℕ) → Result Line TextFault
line_of names (first ∷ label ∷ words) = do
  at ← label_of names label
  says ← kind_of names first words
  Ok (record { label = at; kind = says })
line_of names words = Err SaysNothing
