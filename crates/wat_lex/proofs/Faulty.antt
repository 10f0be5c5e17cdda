-- The fault behind whole tokens is read as such.
use Rattle.std.proofs.Common.{◌≡◌, ◌≤◌, ◌<◌, ℕ, suc, ◌+◌, List, [], ◌∷◌, ◌++◌, length, Result, Ok, Err, arith, refl, sym, ap, ◌∙◌, append_assoc, Bool, true, false, subst}
use Rattle.std.proofs.Common.{inl, inr}
use Rattle.std.proofs.lemmas.Bool.{eqb-true}
use Rattle.std.specs.Prelude.{◌⊎◌, if◌then◌else◌, nat_eq, Option, Some, None}
use Rattle.wat_lex.specs.declared.pieces.Token.{Token}
use Rattle.wat_lex.specs.declared.pieces.TokenKind.{TokenKind}
use Rattle.wat_lex.specs.declared.pieces.TokenKind.TheVariants.{Left, Right, Word, Text}
use Rattle.wat_lex.specs.declared.classes.LexState.{LexState}
use Rattle.wat_lex.specs.declared.classes.LexState.TheVariants.{Between, Behind, InWord, InText, HalfComment, Comment}
use Rattle.wat_lex.specs.declared.classes.Class.{Class}
use Rattle.wat_lex.specs.declared.classes.Class.TheVariants.{Blank, Opening, Closing, Quote, Semicolon, Letter, Other}
use Rattle.wat_lex.specs.Classes.{is_blank, class_of}
use Rattle.wat_lex.specs.Lexing.{begin, apart, lex, finish, go_on, tokens}
use Rattle.wat_lex.specs.Sentences.{EachByte, IsLine, Gap, none, blank, comment, IsRemark, Quoted, IsWord, Spelled, Begins, BeginsNothing, TouchesWrongly, CanBeginNothing, HasFault}
use Rattle.wat_lex.proofs.Passing.{one, stop, along, gap_walk, NoLetter, is_blank_class}
use Rattle.wat_lex.proofs.Sentenced.{state_after, Off, settle, off_letter, gap_off, cons_is_some, walk}
use Rattle.wat_lex.proofs.Bytes.{View, as_blank, as_opening, as_closing, as_quote, as_semicolon, as_letter, as_other, view}
use Rattle.wat_lex.proofs.Splits.{Closed, Unclosed, closed_or_not, line_or_not}

-- a closed string is a token
pub text_begins : (bytes : List ℕ) → Closed bytes → Begins Text (34 ∷ bytes)
text_begins bytes c =
    (34 ∷ c.inside ++ 34 ∷ [], c.rest, ap (λ l. 34 ∷ l) (c.whole ∙ sym (append_assoc c.inside (34 ∷ []) c.rest)), (c.inside, c.quoted, refl))

no_text : (bytes : List ℕ) → BeginsNothing (34 ∷ bytes) → Closed bytes ⊎ Unclosed bytes → Unclosed bytes
no_text bytes n (inl c) = absurd (n.no_token Text (text_begins bytes c))
no_text bytes n (inr u) = u

no_comment : (bytes : List ℕ) → BeginsNothing (59 ∷ 59 ∷ bytes) → ((said : List ℕ) × (rest : List ℕ) × IsLine said × (bytes ≡ said ++ 10 ∷ rest)) ⊎ IsLine bytes → ⊥
no_comment bytes n (inl x) =
    n.no_gap (59 ∷ 59 ∷ x.0 ++ 10 ∷ []) x.1 (comment x.0 [] (x.0 ++ 10 ∷ []) x.2 refl none) (cons_is_some 59 (59 ∷ x.0 ++ 10 ∷ []))
    (ap (λ l. 59 ∷ 59 ∷ l) (x.3 ∙ sym (append_assoc x.0 (10 ∷ []) x.1)))
no_comment bytes n (inr l) = n.no_remark (bytes, l, refl)

lone_semicolon : (found : List Token) (at b : ℕ) (bytes : List ℕ) (t : Bool) → nat_eq b 59 ≡ t → BeginsNothing (59 ∷ b ∷ bytes) → lex found (HalfComment at) (at + 1) (b ∷ bytes) ≡ Err at
lone_semicolon found at b bytes true e n = absurd (no_comment bytes (subst (λ b. BeginsNothing (59 ∷ b ∷ bytes)) (eqb-true b 59 e) n) (line_or_not bytes))
lone_semicolon found at b bytes false e n = stop found (HalfComment at) (at + 1) at b bytes (ap (λ t. if t then Ok (found, Comment) else Err at) e)

semicolon_fails : (found : List Token) (at : ℕ) (bytes : List ℕ) → BeginsNothing (59 ∷ bytes) → lex found (HalfComment at) (at + 1) bytes ≡ Err at
unfolding lex
semicolon_fails found at [] n = refl
semicolon_fails found at (b ∷ bytes) n = lone_semicolon found at b bytes (nat_eq b 59) refl n

-- nothing begins here, and reading says so
byte_fails : (found : List Token) (at b : ℕ) (bytes : List ℕ) → View b → BeginsNothing (b ∷ bytes) → lex found Between at (b ∷ bytes) ≡ Err at
byte_fails found at i bytes (as_blank b h) n = absurd (n.no_gap (b ∷ []) bytes (blank b [] h none) (cons_is_some b []) refl)
byte_fails found at i bytes as_opening n = absurd (n.no_token Left (40 ∷ [], bytes, refl, refl))
byte_fails found at i bytes as_closing n = absurd (n.no_token Right (41 ∷ [], bytes, refl, refl))
byte_fails found at i bytes as_quote n =
    one found found Between (InText at) at 34 bytes refl ∙ (no_text bytes n (closed_or_not bytes)).fails found at (at + 1)
byte_fails found at i bytes as_semicolon n = one found found Between (HalfComment at) at 59 bytes refl ∙ semicolon_fails found at bytes n
byte_fails found at i bytes (as_letter b e) n = absurd (n.no_token Word (b ∷ [], bytes, refl, (e, tt)))
byte_fails found at i bytes (as_other b e) n = stop found Between at at b bytes (ap (λ c. begin found c at) e)

nothing_fails : (found : List Token) (at : ℕ) (bytes : List ℕ) → BeginsNothing bytes → lex found Between at bytes ≡ Err at
nothing_fails found at [] n = absurd (n.some refl)
nothing_fails found at (b ∷ bytes) n = byte_fails found at b bytes (view b) n

-- right behind a word or a string
behind_fails : (found : List Token) (at b : ℕ) (bytes : List ℕ) → View b → BeginsNothing (b ∷ bytes) → lex found Behind at (b ∷ bytes) ≡ Err at
behind_fails found at i bytes (as_blank b h) n = absurd (n.no_gap (b ∷ []) bytes (blank b [] h none) (cons_is_some b []) refl)
behind_fails found at i bytes as_opening n = absurd (n.no_token Left (40 ∷ [], bytes, refl, refl))
behind_fails found at i bytes as_closing n = absurd (n.no_token Right (41 ∷ [], bytes, refl, refl))
behind_fails found at i bytes as_quote n = stop found Behind at at 34 bytes refl
behind_fails found at i bytes as_semicolon n = one found found Behind (HalfComment at) at 59 bytes refl ∙ semicolon_fails found at bytes n
behind_fails found at i bytes (as_letter b e) n = absurd (n.no_token Word (b ∷ [], bytes, refl, (e, tt)))
behind_fails found at i bytes (as_other b e) n = stop found Behind at at b bytes (ap (λ c. apart found c at) e)

behind_nothing : (found : List Token) (at : ℕ) (bytes : List ℕ) → BeginsNothing bytes → lex found Behind at bytes ≡ Err at
behind_nothing found at [] n = absurd (n.some refl)
behind_nothing found at (b ∷ bytes) n = behind_fails found at b bytes (view b) n

after_fails : (found : List Token) (before : Option TokenKind) (at : ℕ) (bytes : List ℕ) → BeginsNothing bytes → lex found (state_after before) at bytes ≡ Err at
after_fails found None at bytes n = nothing_fails found at bytes n
after_fails found (Some Left) at bytes n = nothing_fails found at bytes n
after_fails found (Some Right) at bytes n = nothing_fails found at bytes n
after_fails found (Some Word) at bytes n = behind_nothing found at bytes n
after_fails found (Some Text) at bytes n = behind_nothing found at bytes n

-- a word or a string right behind one
text_touches : (found : List Token) (at : ℕ) (bytes : List ℕ) → Begins Text bytes → lex found Behind at bytes ≡ Err at
text_touches found at bytes t =
    let s = t.3 in
    subst (λ bytes. lex found Behind at bytes ≡ Err at) (sym (t.2 ∙ ap (λ l. l ++ t.1) s.2)) (stop found Behind at at 34 ((s.0 ++ 34 ∷ []) ++ t.1) refl)

word_fails : (found : List Token) (at : ℕ) (word rest : List ℕ) → IsWord word → lex found Behind at (word ++ rest) ≡ Err at
word_fails found at [] rest w = absurd w
word_fails found at (b ∷ word) rest w = stop found Behind at at b (word ++ rest) (ap (λ c. apart found c at) w.0)

touching_fails : (found : List Token) (before : Option TokenKind) (at : ℕ) (bytes : List ℕ) → TouchesWrongly before bytes → lex found (state_after before) at bytes ≡ Err at
touching_fails found before at bytes (inl x) = subst (λ before. lex found (state_after before) at bytes ≡ Err at) (sym x.0) (text_touches found at bytes x.1)
touching_fails found before at bytes (inr x) =
    subst (λ before. lex found (state_after before) at bytes ≡ Err at) (sym x.0)
    (elim x.1 as (λ c. lex found Behind at bytes ≡ Err at) [ inl w ↦ ap (lex found Behind at) w.2 ∙ word_fails found at w.0 w.1 w.3 | inr t ↦ text_touches found at bytes t ])

-- the fault, behind what may stand in front of it
fault_ends : (found : List Token) (before : Option TokenKind) (at : ℕ) (gap rest : List ℕ) → Gap gap → BeginsNothing rest ⊎ ((gap ≡ []) × TouchesWrongly before rest)
    → lex found (state_after before) at (gap ++ rest) ≡ Err (at + length gap)
fault_ends found before at [] rest g (inl n) = after_fails found before at rest n ∙ ap Err (omega arith)
fault_ends found before at [] rest g (inr x) = touching_fails found before at rest x.1 ∙ ap Err (omega arith)
fault_ends found before at (b ∷ gap) rest g (inl n) =
    settle found before at (b ∷ gap ++ rest) (gap_off (b ∷ gap) rest g (cons_is_some b gap))
    ∙ (gap_walk found at (b ∷ gap) rest g ∙ nothing_fails found (at + length (b ∷ gap)) rest n)
fault_ends found before at (b ∷ gap) rest g (inr x) = absurd (cons_is_some b gap x.0)

fault_read : (fault : ℕ) (found : List Token) (before : Option TokenKind) (at : ℕ) (bytes : List ℕ) → CanBeginNothing fault before at bytes → lex found (state_after before) at bytes ≡ Err fault
fault_read fault found before at bytes d = ap (lex found (state_after before) at) d.2 ∙ (fault_ends found before at d.0 d.1 d.3 d.5 ∙ ap Err (sym d.4))

-- behind a word no letter is next
letter_begins : (b : ℕ) (bytes : List ℕ) → class_of b ≡ Letter → BeginsNothing (b ∷ bytes) → ⊥
letter_begins b bytes e n = n.no_token Word (b ∷ [], bytes, refl, (e, tt))

nothing_quiet : (rest : List ℕ) → BeginsNothing rest → NoLetter rest
nothing_quiet [] n = tt
nothing_quiet (b ∷ bytes) n = λ e. letter_begins b bytes e n

quote_quiet : (rest : List ℕ) → Begins Text rest → NoLetter rest
quote_quiet rest t =
    let s = t.3 in
    subst NoLetter (sym (t.2 ∙ ap (λ l. l ++ t.1) s.2)) (λ e. let k : Quote ≡ Letter = e in cc)

touching_quiet : (rest : List ℕ) → TouchesWrongly (Some Word) rest → NoLetter rest
touching_quiet rest (inl x) = quote_quiet rest x.1
touching_quiet rest (inr x) = absurd (let k : Some Word ≡ Some Text = x.0 in cc)

bad_quiet : (gap rest : List ℕ) → Gap gap → BeginsNothing rest ⊎ ((gap ≡ []) × TouchesWrongly (Some Word) rest) → NoLetter (gap ++ rest)
bad_quiet [] rest g (inl n) = nothing_quiet rest n
bad_quiet [] rest g (inr x) = touching_quiet rest x.1
bad_quiet (b ∷ gap) rest g n = off_letter (b ∷ gap ++ rest) (gap_off (b ∷ gap) rest g (cons_is_some b gap))

fault_quiet : (fault at : ℕ) (bytes : List ℕ) → CanBeginNothing fault (Some Word) at bytes → NoLetter bytes
fault_quiet fault at bytes d = subst NoLetter (sym d.2) (bad_quiet d.0 d.1 d.3 d.5)

pub fault_is_read : (text : List ℕ) (fault : ℕ) → HasFault text fault → tokens text ≡ Err fault
fault_is_read text fault d = walk (CanBeginNothing fault) (λ found. Err fault) (fault_quiet fault) (fault_read fault) [] None 0 text d.0 d.1
