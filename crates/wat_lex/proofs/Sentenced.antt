-- Tokens, and the fault behind them, are read as they are spelled.
use Rattle.std.proofs.Common.{◌≡◌, ◌≤◌, ◌<◌, ℕ, suc, ◌+◌, List, [], ◌∷◌, ◌++◌, length, Result, Ok, Err, arith, refl, sym, ap, ◌∙◌, append_assoc, Bool, true, false, subst}
use Rattle.std.proofs.Common.{inl, inr}
use Rattle.std.proofs.lemmas.List.{length-append, append-nil}
use Rattle.std.proofs.lemmas.Bool.{eqb-true}
use Rattle.std.specs.Prelude.{◌⊎◌, if◌then◌else◌, ◌&&◌, not, nat_eq, nat_le, Option, Some, None}
use Rattle.wat_lex.specs.declared.pieces.Token.{Token}
use Rattle.wat_lex.specs.declared.pieces.TokenKind.{TokenKind}
use Rattle.wat_lex.specs.declared.pieces.TokenKind.TheVariants.{Left, Right, Word, Text}
use Rattle.wat_lex.specs.declared.classes.LexState.{LexState}
use Rattle.wat_lex.specs.declared.classes.LexState.TheVariants.{Between, Behind, InWord, InText, Escape, HalfEscape, HalfComment, Comment}
use Rattle.wat_lex.specs.declared.classes.Class.{Class}
use Rattle.wat_lex.specs.declared.classes.Class.TheVariants.{Blank, Opening, Closing, Quote, Semicolon, Letter, Other}
use Rattle.wat_lex.specs.Classes.{is_blank, is_plain, is_hex, class_of}
use Rattle.wat_lex.specs.Lexing.{LexStep, and_token, begin, apart, in_word, in_text, lex, step, finish, go_on, tokens}
use Rattle.wat_lex.specs.Sentences.{EachByte, IsLine, Gap, none, blank, comment, IsRemark, Quoted, IsWord, Spelled, IsLong, AreLong, Apart, IsFirst, Sentence, IsTail, AreTokens, Begins, BeginsNothing, TouchesWrongly, CanBeginNothing, HasFault}
use Rattle.wat_lex.proofs.Passing.{one, stop, along, gap_walk, remark_walk, word_walk, word_ends, NoLetter, text_walk, is_blank_class}

-- where reading stands behind a token
abbrev pub state_after : Option TokenKind → LexState
state_after None = Between
state_after (Some Left) = Between
state_after (Some Right) = Between
state_after (Some Word) = Behind
state_after (Some Text) = Behind

-- neither a word nor a string begins with this
abbrev IsOff : Class → Type 0
IsOff Blank = Unit {0}
IsOff Opening = Unit {0}
IsOff Closing = Unit {0}
IsOff Quote = ⊥
IsOff Semicolon = Unit {0}
IsOff Letter = ⊥
IsOff Other = Unit {0}

abbrev pub Off : List ℕ → Type 0
Off [] = Unit {0}
Off (b ∷ bytes) = IsOff (class_of b)

apart_off : (found : List Token) (c : Class) (at : ℕ) → IsOff c → apart found c at ≡ begin found c at
apart_off found Blank at d = refl
apart_off found Opening at d = refl
apart_off found Closing at d = refl
apart_off found Quote at d = absurd d
apart_off found Semicolon at d = refl
apart_off found Letter at d = absurd d
apart_off found Other at d = refl

loosen : (found : List Token) (at : ℕ) (bytes : List ℕ) → Off bytes → lex found Behind at bytes ≡ lex found Between at bytes
unfolding lex
loosen found at [] d = refl
loosen found at (b ∷ bytes) d = ap (λ m. go_on m (λ found s. lex found s (at + 1) bytes)) (apart_off found (class_of b) at d)

pub settle : (found : List Token) (before : Option TokenKind) (at : ℕ) (bytes : List ℕ) → Off bytes → lex found (state_after before) at bytes ≡ lex found Between at bytes
settle found None at bytes d = refl
settle found (Some Left) at bytes d = refl
settle found (Some Right) at bytes d = refl
settle found (Some Word) at bytes d = loosen found at bytes d
settle found (Some Text) at bytes d = loosen found at bytes d

off_class : (c : Class) → IsOff c → c ≡ Letter → ⊥
off_class Blank d e = cc
off_class Opening d e = cc
off_class Closing d e = cc
off_class Quote d e = absurd d
off_class Semicolon d e = cc
off_class Letter d e = absurd d
off_class Other d e = cc

pub off_letter : (bytes : List ℕ) → Off bytes → NoLetter bytes
off_letter [] d = tt
off_letter (b ∷ bytes) d = off_class (class_of b) d

-- what may stand between tokens is apart from what is before it
pub gap_off : (g rest : List ℕ) → Gap g → (g ≡ [] → ⊥) → Off (g ++ rest)
gap_off g rest none n = absurd (n refl)
gap_off g rest (blank b bytes h d) n = subst IsOff (sym (is_blank_class b h)) tt
gap_off g rest (comment said bytes line n' e d) n = tt

pub cons_is_some : (b : ℕ) (g : List ℕ) → b ∷ g ≡ [] → ⊥
cons_is_some b g e = cc

short_off : (kind : TokenKind) (spelled rest : List ℕ) → Spelled kind spelled → (IsLong kind → ⊥) → Off (spelled ++ rest)
short_off Left spelled rest s n = subst (λ spelled. Off (spelled ++ rest)) (sym s) tt
short_off Right spelled rest s n = subst (λ spelled. Off (spelled ++ rest)) (sym s) tt
short_off Word spelled rest s n = absurd (n tt)
short_off Text spelled rest s n = absurd (n tt)

front_off : (kind : TokenKind) (gap spelled rest : List ℕ) → Gap gap → Spelled kind spelled → (gap ≡ [] → IsLong kind → ⊥) → Off (gap ++ (spelled ++ rest))
front_off kind [] spelled rest g s n = short_off kind spelled rest s (n refl)
front_off kind (b ∷ gap) spelled rest g s n = gap_off (b ∷ gap) (spelled ++ rest) g (cons_is_some b gap)

-- behind a token, up to the next one
to_next : (found : List Token) (before : Option TokenKind) (at : ℕ) (kind : TokenKind) (gap spelled rest : List ℕ) → Gap gap → Spelled kind spelled → Apart before gap kind
    → lex found (state_after before) at (gap ++ (spelled ++ rest)) ≡ lex found Between (at + length gap) (spelled ++ rest)
to_next found None at kind gap spelled rest g s a = gap_walk found at gap (spelled ++ rest) g
to_next found (Some Left) at kind gap spelled rest g s a = gap_walk found at gap (spelled ++ rest) g
to_next found (Some Right) at kind gap spelled rest g s a = gap_walk found at gap (spelled ++ rest) g
to_next found (Some Word) at kind gap spelled rest g s a =
    loosen found at (gap ++ (spelled ++ rest)) (front_off kind gap spelled rest g s (λ e l. a e (tt, l))) ∙ gap_walk found at gap (spelled ++ rest) g
to_next found (Some Text) at kind gap spelled rest g s a =
    loosen found at (gap ++ (spelled ++ rest)) (front_off kind gap spelled rest g s (λ e l. a e (tt, l))) ∙ gap_walk found at gap (spelled ++ rest) g

abbrev Passed : List Token → ℕ → TokenKind → List ℕ → List ℕ → Type 0
Passed found at kind spelled rest =
    lex found Between at (spelled ++ rest) ≡ lex (and_token found at (at + length spelled) kind) (state_after (Some kind)) (at + length spelled) rest

-- a token is passed
token_walk : (found : List Token) (at : ℕ) (kind : TokenKind) (spelled rest : List ℕ) → Spelled kind spelled → (kind ≡ Word → NoLetter rest) → Passed found at kind spelled rest
token_walk found at Left spelled rest s n =
    subst (λ spelled. Passed found at Left spelled rest) (sym s) (one found (and_token found at (at + 1) Left) Between Between at 40 rest refl)
token_walk found at Right spelled rest s n =
    subst (λ spelled. Passed found at Right spelled rest) (sym s) (one found (and_token found at (at + 1) Right) Between Between at 41 rest refl)
token_walk found at Word [] rest s n = absurd s
token_walk found at Word (b ∷ word) rest s n =
    let long : at + 1 + length word ≡ at + suc (length word) = omega arith in
    one found found Between (InWord at) at b (word ++ rest) (ap (λ c. begin found c at) s.0)
    ∙ (word_walk found at (at + 1) word rest s.1
    ∙ (word_ends found at (at + 1 + length word) rest (n refl)
    ∙ ap (λ k. lex (and_token found at k Word) Behind k rest) long))
token_walk found at Text spelled rest s n =
    let long : at + 1 + length s.0 + 1 ≡ at + suc (length (s.0 ++ 34 ∷ [])) = let l : length (s.0 ++ 34 ∷ []) ≡ length s.0 + 1 = length-append s.0 (34 ∷ []) in omega arith in
    subst (λ spelled. Passed found at Text spelled rest) (sym s.2)
    (ap (lex found Between at) (ap (λ l. 34 ∷ l) (append_assoc s.0 (34 ∷ []) rest))
    ∙ (one found found Between (InText at) at 34 (s.0 ++ 34 ∷ rest) refl
    ∙ (text_walk found at (at + 1) s.0 rest s.1
    ∙ ap (λ k. lex (and_token found at k Text) Behind k rest) long)))

abbrev Ending : Type 1
Ending = Option TokenKind → ℕ → List ℕ → Type 0

abbrev Quiet : Ending → Type 0
Quiet End = (at : ℕ) (bytes : List ℕ) → End (Some Word) at bytes → NoLetter bytes

-- behind a word no byte of a word is next
quiet_behind : (End : Ending) → Quiet End → (at : ℕ) (bytes : List ℕ) (ts : List Token) → Sentence End (Some Word) at bytes ts → NoLetter bytes
quiet_behind End q at bytes [] d = q at bytes d
quiet_behind End q at bytes (t ∷ ts) d =
    let f = d.1 in
    off_letter bytes (subst Off (sym f.whole) (front_off t.kind f.gap f.spelled d.0 f.may_stand f.is_spelled (λ e l. f.is_apart e (tt, l))))

quiet_if : (End : Ending) → Quiet End → (kind : TokenKind) (at : ℕ) (bytes : List ℕ) (ts : List Token) → Sentence End (Some kind) at bytes ts → kind ≡ Word → NoLetter bytes
quiet_if End q kind at bytes ts d e = quiet_behind End q at bytes ts (subst (λ kind. Sentence End (Some kind) at bytes ts) e d)

-- all tokens are passed, if what is behind them is read as it should be
pub walk : (End : Ending) (read : List Token → Result (List Token) ℕ) → Quiet End
    → ((found : List Token) (before : Option TokenKind) (at : ℕ) (bytes : List ℕ) → End before at bytes → lex found (state_after before) at bytes ≡ read found)
    → (found : List Token) (before : Option TokenKind) (at : ℕ) (bytes : List ℕ) (ts : List Token) → Sentence End before at bytes ts
    → lex found (state_after before) at bytes ≡ read (found ++ ts)
walk End read q ends found before at bytes [] d = ends found before at bytes d ∙ ap read (sym (append-nil found))
walk End read q ends found before at bytes (t ∷ ts) d =
    let f = d.1 in
    let start : ℕ = at + length f.gap in
    let end : ℕ = start + length f.spelled in
    let here : Token = record { start = start; end = end; kind = t.kind } in
    ap (lex found (state_after before) at) f.whole
    ∙ (to_next found before at t.kind f.gap f.spelled d.0 f.may_stand f.is_spelled f.is_apart
    ∙ (token_walk found start t.kind f.spelled d.0 f.is_spelled (quiet_if End q t.kind t.end d.0 ts d.2)
    ∙ (ap (λ k. lex (found ++ here ∷ []) (state_after (Some t.kind)) k d.0) (sym (ap (λ t. t.end) f.place))
    ∙ (walk End read q ends (found ++ here ∷ []) (Some t.kind) t.end d.0 ts d.2
    ∙ (ap read (append_assoc found (here ∷ []) ts) ∙ ap (λ t. read (found ++ t ∷ ts)) (sym f.place))))))

-- behind the last token
remark_off : (rest : List ℕ) → (rest ≡ []) ⊎ IsRemark rest → Off rest
remark_off rest (inl e) = subst Off (sym e) tt
remark_off rest (inr r) = subst Off (sym r.2) tt

tail_off : (gap rest : List ℕ) → Gap gap → (rest ≡ []) ⊎ IsRemark rest → Off (gap ++ rest)
tail_off [] rest g r = remark_off rest r
tail_off (b ∷ gap) rest g r = gap_off (b ∷ gap) rest g (cons_is_some b gap)

remark_ends : (found : List Token) (at : ℕ) (rest : List ℕ) → (rest ≡ []) ⊎ IsRemark rest → lex found Between at rest ≡ Ok found
unfolding lex
remark_ends found at rest (inl e) = ap (lex found Between at) e
remark_ends found at rest (inr r) = ap (lex found Between at) r.2 ∙ remark_walk found at r.0 r.1

tail_ends : (found : List Token) (before : Option TokenKind) (at : ℕ) (bytes : List ℕ) → IsTail before at bytes → lex found (state_after before) at bytes ≡ Ok found
tail_ends found before at bytes d =
    settle found before at bytes (subst Off (sym d.2) (tail_off d.0 d.1 d.3 d.4))
    ∙ (ap (lex found Between at) d.2 ∙ (gap_walk found at d.0 d.1 d.3 ∙ remark_ends found (at + length d.0) d.1 d.4))

tail_quiet : Quiet IsTail
tail_quiet at bytes d = off_letter bytes (subst Off (sym d.2) (tail_off d.0 d.1 d.3 d.4))

pub tokens_are_read : (text : List ℕ) (ts : List Token) → AreTokens text ts → tokens text ≡ Ok ts
tokens_are_read text ts d = walk IsTail Ok tail_quiet tail_ends [] None 0 text ts d
