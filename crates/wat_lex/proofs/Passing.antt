-- Reading passes each token, and what may stand between tokens.
use Rattle.std.proofs.Common.{◌≡◌, ◌≤◌, ◌<◌, ℕ, suc, ◌+◌, List, [], ◌∷◌, ◌++◌, length, Result, Ok, Err, arith, refl, sym, ap, ◌∙◌, append_assoc, Bool, true, false}
use Rattle.std.proofs.Common.{inl, inr}
use Rattle.std.proofs.lemmas.List.{length-append}
use Rattle.std.proofs.lemmas.Bool.{eqb-true}
use Rattle.std.specs.Prelude.{◌⊎◌, if◌then◌else◌, ◌&&◌, not, nat_eq, nat_le, Option, Some, None}
use Rattle.wat_lex.specs.declared.pieces.Token.{Token}
use Rattle.wat_lex.specs.declared.pieces.TokenKind.{TokenKind}
use Rattle.wat_lex.specs.declared.pieces.TokenKind.TheVariants.{Left, Right, Word, Text}
use Rattle.wat_lex.specs.declared.classes.LexState.{LexState}
use Rattle.wat_lex.specs.declared.classes.LexState.TheVariants.{Between, Behind, InWord, InText, Escape, HalfEscape, HalfComment, Comment}
use Rattle.wat_lex.specs.declared.classes.Class.{Class}
use Rattle.wat_lex.specs.declared.classes.Class.TheVariants.{Blank, Opening, Closing, Quote, Semicolon, Letter, Other}
use Rattle.wat_lex.specs.Classes.{is_blank, is_plain, is_hex, class_of}
use Rattle.wat_lex.specs.Lexing.{LexStep, and_token, begin, apart, in_word, in_text, lex, step, finish, go_on, tokens}
use Rattle.wat_lex.specs.Sentences.{EachByte, IsLine, Gap, none, blank, comment, IsRemark, Quoted, finished, plain, escape, IsWord}

-- one byte more
pub one : (found new : List Token) (s t : LexState) (at b : ℕ) (bytes : List ℕ) → step found s b at ≡ Ok (new, t) → lex found s at (b ∷ bytes) ≡ lex new t (at + 1) bytes
unfolding lex
one found new s t at b bytes e = ap (λ m. go_on m (λ found s. lex found s (at + 1) bytes)) e

-- a fault
pub stop : (found : List Token) (s : LexState) (at n b : ℕ) (bytes : List ℕ) → step found s b at ≡ Err n → lex found s at (b ∷ bytes) ≡ Err n
unfolding lex
stop found s at n b bytes e = ap (λ m. go_on m (λ found s. lex found s (at + 1) bytes)) e

pub along : (found : List Token) (s : LexState) (at k : ℕ) (bytes : List ℕ) → at ≡ k → lex found s at bytes ≡ lex found s k bytes
along found s at k bytes e = ap (λ at. lex found s at bytes) e

pub is_blank_class : (b : ℕ) → is_blank b ≡ true → class_of b ≡ Blank
is_blank_class b h =
    ap (λ t. if t then Blank else if nat_eq b 40 then Opening else if nat_eq b 41 then Closing else if nat_eq b 34 then Quote else if nat_eq b 59 then Semicolon else if nat_le 33 b && nat_le b 126 then Letter else Other) h

-- a comment is passed
in_comment : (found : List Token) (at b : ℕ) (t : Bool) → nat_eq b 10 ≡ t → (b ≡ 10 → ⊥) → step found Comment b at ≡ Ok (found, Comment)
in_comment found at b true e n = absurd (n (eqb-true b 10 e))
in_comment found at b false e n = ap (λ t. if t then Ok (found, Between) else Ok (found, Comment)) e

comment_walk : (found : List Token) (at : ℕ) (said rest : List ℕ) → IsLine said → lex found Comment at (said ++ 10 ∷ rest) ≡ lex found Between (at + length said + 1) rest
comment_walk found at [] rest d = one found found Comment Between at 10 rest refl ∙ along found Between (at + 1) (at + 0 + 1) rest (omega arith)
comment_walk found at (b ∷ said) rest d =
    one found found Comment Comment at b (said ++ 10 ∷ rest) (in_comment found at b (nat_eq b 10) refl d.0)
    ∙ (comment_walk found (at + 1) said rest d.1 ∙ along found Between (at + 1 + length said + 1) (at + suc (length said) + 1) rest (omega arith))

to_end : (found : List Token) (at : ℕ) (said : List ℕ) → IsLine said → lex found Comment at said ≡ Ok found
unfolding lex
to_end found at [] d = refl
to_end found at (b ∷ said) d =
    one found found Comment Comment at b said (in_comment found at b (nat_eq b 10) refl d.0) ∙ to_end found (at + 1) said d.1

comment_length : (at : ℕ) (said bytes line : List ℕ) → line ≡ said ++ 10 ∷ bytes → at + 1 + 1 + length said + 1 + length bytes ≡ at + suc (suc (length line))
comment_length at said bytes line e =
    let l : length line ≡ length said + suc (length bytes) = ap length e ∙ length-append said (10 ∷ bytes) in omega arith

-- what may stand between tokens is passed
pub gap_walk : (found : List Token) (at : ℕ) (g rest : List ℕ) → Gap g → lex found Between at (g ++ rest) ≡ lex found Between (at + length g) rest
gap_walk found at g rest none = along found Between at (at + 0) rest (omega arith)
gap_walk found at g rest (blank b bytes h d) =
    one found found Between Between at b (bytes ++ rest) (ap (λ c. begin found c at) (is_blank_class b h))
    ∙ (gap_walk found (at + 1) bytes rest d ∙ along found Between (at + 1 + length bytes) (at + suc (length bytes)) rest (omega arith))
gap_walk found at g rest (comment said bytes line n e d) =
    let split : line ++ rest ≡ said ++ 10 ∷ (bytes ++ rest) = ap (λ l. l ++ rest) e ∙ append_assoc said (10 ∷ bytes) rest in
    let long : at + 1 + 1 + length said + 1 + length bytes ≡ at + length (59 ∷ 59 ∷ line) = comment_length at said bytes line e in
    one found found Between (HalfComment at) at 59 (59 ∷ line ++ rest) refl
    ∙ (one found found (HalfComment at) Comment (at + 1) 59 (line ++ rest) refl
    ∙ (ap (lex found Comment (at + 1 + 1)) split
    ∙ (comment_walk found (at + 1 + 1) said (bytes ++ rest) n
    ∙ (gap_walk found (at + 1 + 1 + length said + 1) bytes rest d ∙ along found Between (at + 1 + 1 + length said + 1 + length bytes) (at + length (59 ∷ 59 ∷ line)) rest long))))

pub remark_walk : (found : List Token) (at : ℕ) (said : List ℕ) → IsLine said → lex found Between at (59 ∷ 59 ∷ said) ≡ Ok found
remark_walk found at said n =
    one found found Between (HalfComment at) at 59 (59 ∷ said) refl ∙ (one found found (HalfComment at) Comment (at + 1) 59 said refl ∙ to_end found (at + 1 + 1) said n)

-- the bytes of a word are passed
pub word_walk : (found : List Token) (s at : ℕ) (word rest : List ℕ) → EachByte (λ b. class_of b ≡ Letter) word → lex found (InWord s) at (word ++ rest) ≡ lex found (InWord s) (at + length word) rest
word_walk found s at [] rest d = along found (InWord s) at (at + 0) rest (omega arith)
word_walk found s at (b ∷ word) rest d =
    one found found (InWord s) (InWord s) at b (word ++ rest) (ap (λ c. in_word found s c at) d.0)
    ∙ (word_walk found s (at + 1) word rest d.1 ∙ along found (InWord s) (at + 1 + length word) (at + suc (length word)) rest (omega arith))

-- no byte of a word is next
abbrev pub NoLetter : List ℕ → Type 0
NoLetter [] = Unit {0}
NoLetter (b ∷ bytes) = class_of b ≡ Letter → ⊥

word_ends_at : (found : List Token) (s at : ℕ) (c : Class) → (c ≡ Letter → ⊥) → in_word found s c at ≡ apart (and_token found s at Word) c at
word_ends_at found s at Blank n = refl
word_ends_at found s at Opening n = refl
word_ends_at found s at Closing n = refl
word_ends_at found s at Quote n = refl
word_ends_at found s at Semicolon n = refl
word_ends_at found s at Letter n = absurd (n refl)
word_ends_at found s at Other n = refl

pub word_ends : (found : List Token) (s at : ℕ) (rest : List ℕ) → NoLetter rest → lex found (InWord s) at rest ≡ lex (and_token found s at Word) Behind at rest
unfolding lex
word_ends found s at [] d = refl
word_ends found s at (b ∷ bytes) d = ap (λ m. go_on m (λ found s. lex found s (at + 1) bytes)) (word_ends_at found s at (class_of b) d)

-- a string is passed
if_both : {t u : Bool} → (t && u) ≡ true → (t ≡ true) × (u ≡ true)
if_both {t = true} {u = u} e = (refl, e)
if_both {t = false} {u = u} e = let k : false ≡ true = e in cc

not_true : {t : Bool} → not t ≡ true → t ≡ false
not_true {t = true} e = let k : false ≡ true = e in cc
not_true {t = false} e = refl

pub plain_step : (found : List Token) (s b at : ℕ) → is_plain b ≡ true → in_text found s b at ≡ Ok (found, InText s)
plain_step found s b at h =
    let last = if_both h in
    let third = if_both last.0 in
    ap (λ t. if t then Ok (and_token found s (at + 1) Text, Behind) else if nat_eq b 92 then Ok (found, Escape s) else if is_plain b then Ok (found, InText s) else Err s) (not_true third.1)
    ∙ (ap (λ t. if t then Ok (found, Escape s) else if is_plain b then Ok (found, InText s) else Err s) (not_true last.1)
    ∙ ap (λ t. if t then Ok (found, InText s) else Err s) h)

pub text_walk : (found : List Token) (s at : ℕ) (inside rest : List ℕ) → Quoted inside
    → lex found (InText s) at (inside ++ 34 ∷ rest) ≡ lex (and_token found s (at + length inside + 1) Text) Behind (at + length inside + 1) rest
text_walk found s at inside rest finished =
    one found (and_token found s (at + 1) Text) (InText s) Behind at 34 rest refl
    ∙ ap (λ n. lex (and_token found s n Text) Behind n rest) (omega arith)
text_walk found s at inside rest (plain b bytes h d) =
    one found found (InText s) (InText s) at b (bytes ++ 34 ∷ rest) (plain_step found s b at h)
    ∙ (text_walk found s (at + 1) bytes rest d
    ∙ ap (λ n. lex (and_token found s n Text) Behind n rest) (omega arith))
text_walk found s at inside rest (escape high low bytes h l d) =
    one found found (InText s) (Escape s) at 92 (high ∷ low ∷ bytes ++ 34 ∷ rest) refl
    ∙ (one found found (Escape s) (HalfEscape s) (at + 1) high (low ∷ bytes ++ 34 ∷ rest) (ap (λ t. if t then Ok (found, HalfEscape s) else Err s) h)
    ∙ (one found found (HalfEscape s) (InText s) (at + 1 + 1) low (bytes ++ 34 ∷ rest) (ap (λ t. if t then Ok (found, InText s) else Err s) l)
    ∙ (text_walk found s (at + 1 + 1 + 1) bytes rest d
    ∙ ap (λ n. lex (and_token found s n Text) Behind n rest) (omega arith))))
