-- What the code answers.
use Rattle.std.specs.Prelude.{ℕ, ◌≡◌, ◌⊎◌, List, Result, Ok, Err}
use Rattle.wat_lex.specs.declared.pieces.Token.{Token}
use Rattle.wat_lex.specs.declared.classes.LexState.{LexState}
use Rattle.wat_lex.specs.declared.error.LexError.{LexError}
use Rattle.wat_lex.specs.declared.error.LexError.TheVariants.{At, NoMemory}
use Rattle.wat_lex.specs.Lexing.{LexStep}

-- the code goes on as the definition does, or stops
abbrev pub LexesOn : List Token → Result LexState LexError → LexStep → Type 0
LexesOn new (Ok state) next = next ≡ Ok (new, state)
LexesOn new (Err (At at)) next = next ≡ Err at
LexesOn new (Err NoMemory) next = Unit {0}

-- the tokens so far are all, or the text's end is a fault
abbrev pub LexesToEnd : List Token → Result (Unit {0}) LexError → Result (List Token) ℕ → Type 0
LexesToEnd new (Ok t) all = all ≡ Ok new
LexesToEnd new (Err (At at)) all = all ≡ Err at
LexesToEnd new (Err NoMemory) all = Unit {0}

-- the tokens or the fault, unless the call is out of memory
abbrev pub Lexed : Result (List Token) LexError → Result (List Token) ℕ → Type 0
Lexed (Ok list) found = found ≡ Ok list
Lexed (Err (At at)) found = found ≡ Err at
Lexed (Err NoMemory) found = Unit {0}

-- this answer, or out of memory
abbrev pub OrNoMemory : Result (List Token) LexError → Result (List Token) LexError → Type 0
OrNoMemory result answer = (result ≡ answer) ⊎ (result ≡ Err NoMemory)

-- this is so of the offset that the call answers, if it does
abbrev pub IfAt : Result (List Token) LexError → (ℕ → Type 0) → Type 0
IfAt (Ok list) P = Unit {0}
IfAt (Err (At at)) P = P at
IfAt (Err NoMemory) P = Unit {0}
