-- Reading tokens from the left, a byte at a time: the tokens so far, what the bytes so far end with, and the offset of the next byte.
use Rattle.std.specs.Prelude.{ℕ, ◌+◌, Bool, nat_eq, if◌then◌else◌, List, [], ◌∷◌, ◌++◌, Result, Ok, Err}
use Rattle.wat_lex.specs.declared.pieces.Token.{Token}
use Rattle.wat_lex.specs.declared.pieces.TokenKind.{TokenKind}
use Rattle.wat_lex.specs.declared.pieces.TokenKind.TheVariants as kind
use Rattle.wat_lex.specs.declared.classes.LexState.{LexState}
use Rattle.wat_lex.specs.declared.classes.LexState.TheVariants.{Between, Behind, InWord, InText, Escape, HalfEscape, HalfComment, Comment}
use Rattle.wat_lex.specs.declared.classes.Class.{Class}
use Rattle.wat_lex.specs.declared.classes.Class.TheVariants.{Blank, Opening, Closing, Quote, Semicolon, Letter, Other}
use Rattle.wat_lex.specs.Classes.{class_of, is_plain, is_hex}

-- the tokens and the state behind a byte, or the offset of the fault
abbrev pub LexStep : Type 0
LexStep = Result (List Token × LexState) ℕ

-- one token more
abbrev pub and_token : List Token → ℕ → ℕ → TokenKind → List Token
and_token found start end kind = found ++ record { start = start; end = end; kind = kind } ∷ []

-- a byte where a token may begin
abbrev pub begin : List Token → Class → ℕ → LexStep
begin found Blank at = Ok (found, Between)
begin found Opening at = Ok (and_token found at (at + 1) kind.Left, Between)
begin found Closing at = Ok (and_token found at (at + 1) kind.Right, Between)
begin found Quote at = Ok (found, InText at)
begin found Semicolon at = Ok (found, HalfComment at)
begin found Letter at = Ok (found, InWord at)
begin found Other at = Err at

-- right behind a word or a string: no word and no string
abbrev pub apart : List Token → Class → ℕ → LexStep
apart found Blank at = begin found Blank at
apart found Opening at = begin found Opening at
apart found Closing at = begin found Closing at
apart found Quote at = Err at
apart found Semicolon at = begin found Semicolon at
apart found Letter at = Err at
apart found Other at = begin found Other at

-- behind the begin of a word
abbrev pub in_word : List Token → ℕ → Class → ℕ → LexStep
in_word found start Blank at = apart (and_token found start at kind.Word) Blank at
in_word found start Opening at = apart (and_token found start at kind.Word) Opening at
in_word found start Closing at = apart (and_token found start at kind.Word) Closing at
in_word found start Quote at = apart (and_token found start at kind.Word) Quote at
in_word found start Semicolon at = apart (and_token found start at kind.Word) Semicolon at
in_word found start Letter at = Ok (found, InWord start)
in_word found start Other at = apart (and_token found start at kind.Word) Other at

-- behind a string's opening quote
abbrev pub in_text : List Token → ℕ → ℕ → ℕ → LexStep
in_text found start b at =
    if nat_eq b 34 then Ok (and_token found start (at + 1) kind.Text, Behind) else
    if nat_eq b 92 then Ok (found, Escape start) else
    if is_plain b then Ok (found, InText start) else Err start

-- one byte more
abbrev pub step : List Token → LexState → ℕ → ℕ → LexStep
step found Between b at = begin found (class_of b) at
step found Behind b at = apart found (class_of b) at
step found (InWord start) b at = in_word found start (class_of b) at
step found (InText start) b at = in_text found start b at
step found (Escape start) b at = if is_hex b then Ok (found, HalfEscape start) else Err start
step found (HalfEscape start) b at = if is_hex b then Ok (found, InText start) else Err start
step found (HalfComment start) b at = if nat_eq b 59 then Ok (found, Comment) else Err start
step found Comment b at = if nat_eq b 10 then Ok (found, Between) else Ok (found, Comment)

-- the end of the text
abbrev pub finish : List Token → LexState → ℕ → Result (List Token) ℕ
finish found Between at = Ok found
finish found Behind at = Ok found
finish found Comment at = Ok found
finish found (InWord start) at = Ok (and_token found start at kind.Word)
finish found (InText start) at = Err start
finish found (Escape start) at = Err start
finish found (HalfEscape start) at = Err start
finish found (HalfComment start) at = Err start

-- go on, unless there was a fault
abbrev pub go_on : LexStep → (List Token → LexState → Result (List Token) ℕ) → Result (List Token) ℕ
go_on (Ok next) more = more next.0 next.1
go_on (Err at) more = Err at

-- the tokens so far and those of the rest
unfoldable pub lex : List Token → LexState → ℕ → List ℕ → Result (List Token) ℕ
lex found state at [] = finish found state at
lex found state at (b ∷ bytes) = go_on (step found state b at) (λ found state. lex found state (at + 1) bytes)

-- the tokens of a text, or the offset of its fault
abbrev pub tokens : List ℕ → Result (List Token) ℕ
tokens text = lex [] Between 0 text
