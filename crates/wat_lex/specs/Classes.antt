-- The bytes of a module's text.
use Rattle.std.specs.Prelude.{ℕ, Bool, not, ◌&&◌, ◌||◌, nat_eq, nat_le, if◌then◌else◌}
use Rattle.wat_lex.specs.declared.classes.Class.{Class}
use Rattle.wat_lex.specs.declared.classes.Class.TheVariants.{Blank, Opening, Closing, Quote, Semicolon, Letter, Other}

-- a space, a tab, a line feed or a carriage return
abbrev pub is_blank : ℕ → Bool
is_blank b = nat_eq b 32 || nat_eq b 9 || nat_eq b 10 || nat_eq b 13

-- what a byte is where a token may begin; a word's bytes are 21 to 7E without brackets, quotes and semicolons
abbrev pub class_of : ℕ → Class
class_of b =
    if is_blank b then Blank else
    if nat_eq b 40 then Opening else
    if nat_eq b 41 then Closing else
    if nat_eq b 34 then Quote else
    if nat_eq b 59 then Semicolon else
    if nat_le 33 b && nat_le b 126 then Letter else Other

-- a byte that stands for itself in a string: 20 to 7E without quotes and backslashes
abbrev pub is_plain : ℕ → Bool
is_plain b = nat_le 32 b && nat_le b 126 && not (nat_eq b 34) && not (nat_eq b 92)

-- a hexadecimal digit
abbrev pub is_hex : ℕ → Bool
is_hex b = (nat_le 48 b && nat_le b 57) || (nat_le 97 b && nat_le b 102) || (nat_le 65 b && nat_le b 70)
