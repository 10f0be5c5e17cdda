-- The lines of an event file.
use Rattle.std.specs.Prelude.{ℕ, List, [], ◌∷◌, length, Bool, true, ◌==◌, nat_lt}
use Rattle.std.specs.List.{slice_split}

-- the lines: the parts before, between and after the line feeds, so the last one is the one that has no end there
abbrev pub lines_of : List ℕ → List (List ℕ)
lines_of bytes = slice_split (λ byte. byte == 10) bytes

-- the most bytes that a line may have, its end not counted
abbrev pub longest_line : ℕ
longest_line = 140000

-- a line has more bytes than it may have
abbrev pub is_too_long : List ℕ → Bool
is_too_long line = nat_lt longest_line (length line)

-- a line says nothing: it is empty or begins with `#`
abbrev pub is_remark : List ℕ → Bool
is_remark [] = true
is_remark (first ∷ others) = first == 35
