-- Which tokens a text has, and at which byte it can have none.
use Rattle.std.specs.Prelude.{ℕ, ◌≡◌, ◌≤◌, ◌+◌, ◌⊎◌, List, [], ◌∷◌, ◌++◌, length, slice_range, true, Option, Some, None}
use Rattle.wat_lex.specs.declared.pieces.Token.{Token}
use Rattle.wat_lex.specs.declared.pieces.TokenKind.{TokenKind}
use Rattle.wat_lex.specs.declared.pieces.TokenKind.TheVariants.{Left, Right, Word, Text}
use Rattle.wat_lex.specs.declared.classes.Class.{Class}
use Rattle.wat_lex.specs.declared.classes.Class.TheVariants.{Letter}
use Rattle.wat_lex.specs.Classes.{is_blank, is_plain, is_hex, class_of}

-- this is so of each byte
abbrev pub EachByte : (ℕ → Type 0) → List ℕ → Type 0
EachByte P [] = Unit {0}
EachByte P (b ∷ bytes) = P b × EachByte P bytes

-- bytes of one line
abbrev pub IsLine : List ℕ → Type 0
IsLine bytes = EachByte (λ b. b ≡ 10 → ⊥) bytes

-- what may stand between tokens: blanks, and comments from two semicolons to the line's end
pub data Gap : (bytes : List ℕ) → Type 0 where
  none : Gap []
  blank : (b : ℕ) (bytes : List ℕ) → is_blank b ≡ true → Gap bytes → Gap (b ∷ bytes)
  comment : (said bytes line : List ℕ) → IsLine said → line ≡ said ++ 10 ∷ bytes → Gap bytes → Gap (59 ∷ 59 ∷ line)

-- a comment on the last line, which has no line feed
abbrev pub IsRemark : List ℕ → Type 0
IsRemark bytes = (said : List ℕ) × IsLine said × (bytes ≡ 59 ∷ 59 ∷ said)

-- what stands between the quotes of a string
pub data Quoted : (bytes : List ℕ) → Type 0 where
  finished : Quoted []
  plain : (b : ℕ) (bytes : List ℕ) → is_plain b ≡ true → Quoted bytes → Quoted (b ∷ bytes)
  escape : (high low : ℕ) (bytes : List ℕ) → is_hex high ≡ true → is_hex low ≡ true → Quoted bytes → Quoted (92 ∷ high ∷ low ∷ bytes)

-- one or more bytes of a word
abbrev pub IsWord : List ℕ → Type 0
IsWord [] = ⊥
IsWord (b ∷ bytes) = EachByte (λ b. class_of b ≡ Letter) (b ∷ bytes)

-- the bytes of a token of this kind
abbrev pub Spelled : TokenKind → List ℕ → Type 0
Spelled Left bytes = bytes ≡ 40 ∷ []
Spelled Right bytes = bytes ≡ 41 ∷ []
Spelled Word bytes = IsWord bytes
Spelled Text bytes = (inside : List ℕ) × Quoted inside × (bytes ≡ 34 ∷ inside ++ 34 ∷ [])

-- a word or a string
abbrev pub IsLong : TokenKind → Type 0
IsLong Left = ⊥
IsLong Right = ⊥
IsLong Word = Unit {0}
IsLong Text = Unit {0}

-- one word or string behind another
abbrev pub AreLong : Option TokenKind → TokenKind → Type 0
AreLong None kind = ⊥
AreLong (Some before) kind = IsLong before × IsLong kind

-- two words or strings in a row have something between them
abbrev pub Apart : Option TokenKind → List ℕ → TokenKind → Type 0
Apart before gap kind = gap ≡ [] → AreLong before kind → ⊥

-- behind a token (or none), the bytes from this offset on begin with what may stand there and then with this token, and the rest is behind it
pub record IsFirst (before : Option TokenKind) (at : ℕ) (bytes : List ℕ) (t : Token) (rest : List ℕ) : Type 0 where
  pub gap : List ℕ
  pub spelled : List ℕ
  pub whole : bytes ≡ gap ++ (spelled ++ rest)
  pub may_stand : Gap gap
  pub is_spelled : Spelled t.kind spelled
  pub is_apart : Apart before gap t.kind
  pub place : t ≡ record { start = at + length gap; end = at + length gap + length spelled; kind = t.kind }

-- The bytes are these tokens with what may stand in front of each, and what is behind the last one is as End says of that token's kind,
-- of the offset and of the bytes.
abbrev pub Sentence : (Option TokenKind → ℕ → List ℕ → Type 0) → Option TokenKind → ℕ → List ℕ → List Token → Type 0
Sentence End before at bytes [] = End before at bytes
Sentence End before at bytes (t ∷ ts) = (rest : List ℕ) × IsFirst before at bytes t rest × Sentence End (Some t.kind) t.end rest ts

-- what may stand behind the last token
abbrev pub IsTail : Option TokenKind → ℕ → List ℕ → Type 0
IsTail before at bytes = (gap : List ℕ) × (rest : List ℕ) × (bytes ≡ gap ++ rest) × Gap gap × ((rest ≡ []) ⊎ IsRemark rest)

-- the tokens of a text
abbrev pub AreTokens : List ℕ → List Token → Type 0
AreTokens text ts = Sentence IsTail None 0 text ts

-- a token of this kind begins here
abbrev pub Begins : TokenKind → List ℕ → Type 0
Begins kind bytes = (spelled : List ℕ) × (rest : List ℕ) × (bytes ≡ spelled ++ rest) × Spelled kind spelled

-- there is a byte here, and neither a whole token begins with it, nor a blank or a comment
pub record BeginsNothing (bytes : List ℕ) : Type 0 where
  pub some : bytes ≡ [] → ⊥
  pub no_token : (kind : TokenKind) → Begins kind bytes → ⊥
  pub no_gap : (gap rest : List ℕ) → Gap gap → (gap ≡ [] → ⊥) → bytes ≡ gap ++ rest → ⊥
  pub no_remark : IsRemark bytes → ⊥

-- a string right behind a word, or a word or a string right behind a string
abbrev pub TouchesWrongly : Option TokenKind → List ℕ → Type 0
TouchesWrongly before bytes = ((before ≡ Some Word) × Begins Text bytes) ⊎ ((before ≡ Some Text) × (Begins Word bytes ⊎ Begins Text bytes))

-- behind a last token (or none) and what may stand there, the byte of this offset can begin nothing
abbrev pub CanBeginNothing : ℕ → Option TokenKind → ℕ → List ℕ → Type 0
CanBeginNothing fault before at bytes =
    (gap : List ℕ) × (rest : List ℕ) × (bytes ≡ gap ++ rest) × Gap gap × (fault ≡ at + length gap) × (BeginsNothing rest ⊎ ((gap ≡ []) × TouchesWrongly before rest))

-- behind whole tokens and what may stand between them, the byte of this offset can begin nothing
abbrev pub HasFault : List ℕ → ℕ → Type 0
HasFault text fault = (ts : List Token) × Sentence (CanBeginNothing fault) None 0 text ts

-- each token is its slice of the text
abbrev pub AreSlices : List ℕ → List Token → Type 0
AreSlices text [] = Unit {0}
AreSlices text (t ∷ ts) = ((t.start ≤ t.end) × (t.end ≤ length text) × Spelled t.kind (slice_range text t.start t.end)) × AreSlices text ts
