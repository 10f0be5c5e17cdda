-- The number that a word says.
use Rattle.std.specs.Prelude.{ℕ, ◌^◌, Bool, List, length, ◌&&◌, nat_le, nat_lt, if◌then◌else◌, Option, Some, None}
use Rattle.std.specs.Char.{is_ascii_digit}
use Rattle.std.specs.List.{list_all}
use Rattle.std.specs.Str.Parse.{digits_value}

-- 1 to 20 decimal digits, with a value below 2^64
abbrev pub says_number : List ℕ → Bool
says_number word =
    nat_le 1 (length word) && nat_le (length word) 20 && (list_all is_ascii_digit word && nat_lt (digits_value 10 word) (2 ^ 64))

-- the number that a word says, where it says one
unfoldable pub number_said : List ℕ → Option ℕ
number_said word = if says_number word then Some (digits_value 10 word) else None
