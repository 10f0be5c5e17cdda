-- What the words of an event line spell.
use Rattle.std.specs.Prelude.{ℕ, List, [], ◌∷◌, length, ◌==◌, ◌&&◌, nat_le, if◌then◌else◌, codes, Option, None, Some, Result, Ok, Err}
use Rattle.std.specs.Char.{is_ascii_digit}
use Rattle.std.specs.List.{list_all}
use Rattle.std.specs.Str.{bytes_eq}
use Rattle.std.specs.Str.Parse.{digits_value}
use Rattle.trapeze_io.specs.Answers.{◌>>=◌}
use Rattle.trapeze_io.specs.Names.{is_name}
use Rattle.trapeze_io.specs.Sizes.{longest_value}
use Rattle.label_lattice.specs.Order.{place_of}
use Rattle.label_lattice.specs.declared.label.Label.{Label}
use Rattle.hex.specs.Hex.{decode_of}
use Rattle.hex.specs.declared.error.FromHexError.{FromHexError}
use Rattle.event_file.specs.declared.fault.LineFault.{LineFault}
use Rattle.event_file.specs.declared.fault.LineFault.TheVariants.{UnknownLabel, UnknownClient, UnknownFunction, BadId, BadHex, TooBig, BadNumber}

-- the place that was found, or the fault that there is none
abbrev pub found : LineFault → Option ℕ → Result ℕ LineFault
found missing None = Err missing
found missing (Some place) = Ok place

-- the label that a word names
unfoldable pub label_of : List (List ℕ) → List ℕ → Result Label LineFault
label_of labels word = do
  place ← found UnknownLabel (place_of word labels)
  Ok (record { number = place })

-- the number of the client that a word names
unfoldable pub client_of : List (List ℕ) → List ℕ → Result ℕ LineFault
client_of clients word = found UnknownClient (place_of word clients)

-- the number of the function that a word names
unfoldable pub function_of : List (List ℕ) → List ℕ → Result ℕ LineFault
function_of functions word = found UnknownFunction (place_of word functions)

-- the id that a word is: any name
unfoldable pub id_of : List ℕ → Result (List ℕ) LineFault
id_of word = if is_name word then Ok word else Err BadId

-- the bytes that were decoded, if they are no more than there may be
abbrev pub bounded : ℕ → Result (List ℕ) FromHexError → Result (List ℕ) LineFault
bounded most (Ok bytes) = if nat_le (length bytes) most then Ok bytes else Err TooBig
bounded most (Err bad) = Err BadHex

-- the bytes that a word spells: an `x`, and two hexadecimal digits of either case for each of at most so many bytes
unfoldable pub bytes_of : ℕ → List ℕ → Result (List ℕ) LineFault
bytes_of most [] = Err BadHex
bytes_of most (mark ∷ digits) = if mark == 120 then bounded most (decode_of digits) else Err BadHex

-- bytes that are there
abbrev pub present : Result (List ℕ) LineFault → Result (Option (List ℕ)) LineFault
present (Ok bytes) = Ok (Some bytes)
present (Err fault) = Err fault

-- the value that a word spells: `-` for an absent one, or bytes
unfoldable pub value_of : List ℕ → Result (Option (List ℕ)) LineFault
value_of word = if bytes_eq word (codes "-") then Ok None else present (bytes_of longest_value word)

-- a number of turns is 1 to 1,000,000
abbrev pub counted : ℕ → Result ℕ LineFault
counted count = if nat_le 1 count && nat_le count 1000000 then Ok count else Err BadNumber

-- the number of turns that a word says: 1 to 7 decimal digits
unfoldable pub count_of : List ℕ → Result ℕ LineFault
count_of word =
    if nat_le (length word) 7 && list_all is_ascii_digit word then counted (digits_value 10 word) else Err BadNumber
