-- Each text has tokens or a fault.
use Rattle.std.proofs.Common.{◌≡◌, ◌≤◌, ◌<◌, ℕ, zero, suc, ◌+◌, List, [], ◌∷◌, ◌++◌, length, Result, Ok, Err, arith, refl, sym, ap, ◌∙◌, append_assoc, Bool, true, false, subst}
use Rattle.std.proofs.Common.{inl, inr}
use Rattle.std.proofs.lemmas.List.{length-append}
use Rattle.std.proofs.lemmas.Bool.{eqb-true, eq-eqb}
use Rattle.std.specs.Prelude.{◌⊎◌, if◌then◌else◌, nat_eq, Option, Some, None}
use Rattle.wat_lex.specs.declared.pieces.Token.{Token}
use Rattle.wat_lex.specs.declared.pieces.TokenKind.{TokenKind}
use Rattle.wat_lex.specs.declared.pieces.TokenKind.TheVariants.{Left, Right, Word, Text}
use Rattle.wat_lex.specs.declared.classes.Class.{Class}
use Rattle.wat_lex.specs.declared.classes.Class.TheVariants.{Blank, Opening, Closing, Quote, Semicolon, Letter, Other}
use Rattle.wat_lex.specs.Classes.{is_blank, class_of}
use Rattle.wat_lex.specs.Lexing.{tokens}
use Rattle.wat_lex.specs.Sentences.{EachByte, IsLine, Gap, none, blank, comment, IsRemark, Quoted, IsWord, Spelled, IsLong, AreLong, Apart, IsFirst, Sentence, IsTail, AreTokens, Begins, BeginsNothing, TouchesWrongly, CanBeginNothing, HasFault}
use Rattle.wat_lex.proofs.Passing.{NoLetter, is_blank_class}
use Rattle.wat_lex.proofs.Sentenced.{cons_is_some, tokens_are_read}
use Rattle.wat_lex.proofs.Bytes.{View, as_blank, as_opening, as_closing, as_quote, as_semicolon, as_letter, as_other, view}
use Rattle.wat_lex.proofs.Splits.{Closed, Unclosed, closed_or_not, line_or_not, Longest, longest}
use Rattle.wat_lex.proofs.Faulty.{text_begins, fault_is_read}

-- tokens, or tokens and a fault
pub data Found (before : Option TokenKind) (at : ℕ) (bytes : List ℕ) : Type 0 where
  has_tokens : (ts : List Token) → Sentence IsTail before at bytes ts → Found before at bytes
  has_fault : (fault : ℕ) (ts : List Token) → Sentence (CanBeginNothing fault) before at bytes ts → Found before at bytes

-- one gap and another
gap_append : (g h : List ℕ) → Gap g → Gap h → Gap (g ++ h)
gap_append g h none d = d
gap_append g h (blank b bytes e c) d = blank b (bytes ++ h) e (gap_append bytes h c d)
gap_append g h (comment said bytes line n e c) d =
    comment said (bytes ++ h) (line ++ h) n (ap (λ l. l ++ h) e ∙ append_assoc said (10 ∷ bytes) h) (gap_append bytes h c d)

longer : (at : ℕ) (g h : List ℕ) → at + length g + length h ≡ at + length (g ++ h)
longer at g h = let l : length (g ++ h) ≡ length g + length h = length-append g h in omega arith

append_some : (g h : List ℕ) → (g ≡ [] → ⊥) → g ++ h ≡ [] → ⊥
append_some [] h n e = n refl
append_some (b ∷ g) h n e = cons_is_some b (g ++ h) e

-- behind a gap that is there, anything may follow
first_after_gap : (before : Option TokenKind) (at : ℕ) (g bytes : List ℕ) (t : Token) (rest : List ℕ) → Gap g → (g ≡ [] → ⊥)
    → IsFirst None (at + length g) bytes t rest → IsFirst before at (g ++ bytes) t rest
first_after_gap before at g bytes t rest d n f = record {
  gap = g ++ f.gap;
  spelled = f.spelled;
  whole = ap (λ l. g ++ l) f.whole ∙ sym (append_assoc g f.gap (f.spelled ++ rest));
  may_stand = gap_append g f.gap d f.may_stand;
  is_spelled = f.is_spelled;
  is_apart = λ e. absurd (append_some g f.gap n e);
  place = f.place ∙ ap (λ n. record { start = n; end = n + length f.spelled; kind = t.kind }) (longer at g f.gap);
}

tail_after_gap : (before : Option TokenKind) (at : ℕ) (g bytes : List ℕ) (ts : List Token) → Gap g → (g ≡ [] → ⊥)
    → Sentence IsTail None (at + length g) bytes ts → Sentence IsTail before at (g ++ bytes) ts
tail_after_gap before at g bytes [] d n s = (g ++ s.0, s.1, ap (λ l. g ++ l) s.2 ∙ sym (append_assoc g s.0 s.1), gap_append g s.0 d s.3, s.4)
tail_after_gap before at g bytes (t ∷ ts) d n s = (s.0, first_after_gap before at g bytes t s.0 d n s.1, s.2)

never_touches : (rest : List ℕ) → TouchesWrongly None rest → ⊥
never_touches rest (inl x) = let k : None ≡ Some Word = x.0 in cc
never_touches rest (inr x) = let k : None ≡ Some Text = x.0 in cc

bad_after_gap : (before : Option TokenKind) (h rest : List ℕ) → BeginsNothing rest ⊎ ((h ≡ []) × TouchesWrongly None rest) → BeginsNothing rest
bad_after_gap before h rest (inl b) = b
bad_after_gap before h rest (inr x) = absurd (never_touches rest x.1)

fault_after_gap : (fault : ℕ) (before : Option TokenKind) (at : ℕ) (g bytes : List ℕ) (ts : List Token) → Gap g → (g ≡ [] → ⊥)
    → Sentence (CanBeginNothing fault) None (at + length g) bytes ts → Sentence (CanBeginNothing fault) before at (g ++ bytes) ts
fault_after_gap fault before at g bytes [] d n s =
    (g ++ s.0, s.1, ap (λ l. g ++ l) s.2 ∙ sym (append_assoc g s.0 s.1), gap_append g s.0 d s.3, s.4 ∙ longer at g s.0, inl (bad_after_gap before s.0 s.1 s.5))
fault_after_gap fault before at g bytes (t ∷ ts) d n s = (s.0, first_after_gap before at g bytes t s.0 d n s.1, s.2)

after_gap : (before : Option TokenKind) (at : ℕ) (g bytes : List ℕ) → Gap g → (g ≡ [] → ⊥) → Found None (at + length g) bytes → Found before at (g ++ bytes)
after_gap before at g bytes d n (has_tokens ts s) = has_tokens ts (tail_after_gap before at g bytes ts d n s)
after_gap before at g bytes d n (has_fault fault ts s) = has_fault fault ts (fault_after_gap fault before at g bytes ts d n s)

-- one token more
abbrev token_at : ℕ → List ℕ → TokenKind → Token
token_at at spelled kind = record { start = at + length {A = ℕ} []; end = at + length {A = ℕ} [] + length spelled; kind = kind }

after_token : (before : Option TokenKind) (at : ℕ) (kind : TokenKind) (spelled rest : List ℕ) → Spelled kind spelled → (AreLong before kind → ⊥)
    → Found (Some kind) (at + length {A = ℕ} [] + length spelled) rest → Found before at (spelled ++ rest)
after_token before at kind spelled rest s a (has_tokens ts d) = has_tokens (token_at at spelled kind ∷ ts)
    (rest, record { gap = []; spelled = spelled; whole = refl; may_stand = none; is_spelled = s; is_apart = λ e. a; place = refl }, d)
after_token before at kind spelled rest s a (has_fault fault ts d) = has_fault fault (token_at at spelled kind ∷ ts)
    (rest, record { gap = []; spelled = spelled; whole = refl; may_stand = none; is_spelled = s; is_apart = λ e. a; place = refl }, d)

-- a fault here
fault_here : (before : Option TokenKind) (at : ℕ) (bytes : List ℕ) → BeginsNothing bytes ⊎ TouchesWrongly before bytes → Found before at bytes
fault_here before at bytes (inl n) = has_fault at [] ([], bytes, refl, none, (omega arith), inl n)
fault_here before at bytes (inr x) = has_fault at [] ([], bytes, refl, none, (omega arith), inr (refl, x))

-- where nothing begins
pub record Else (b : ℕ) (bytes : List ℕ) : Type 0 where
  pub not_blank : is_blank b ≡ true → ⊥
  pub not_opening : b ≡ 40 → ⊥
  pub not_closing : b ≡ 41 → ⊥
  pub not_letter : class_of b ≡ Letter → ⊥
  pub no_string : Begins Text (b ∷ bytes) → ⊥
  pub no_pair : (more : List ℕ) → b ∷ bytes ≡ 59 ∷ 59 ∷ more → ⊥

head_is : (a b : ℕ) (xs ys : List ℕ) → a ∷ xs ≡ b ∷ ys → a ≡ b
head_is a b xs ys e = cc

tail_is : (a b : ℕ) (xs ys : List ℕ) → a ∷ xs ≡ b ∷ ys → xs ≡ ys
tail_is a b xs ys e = cc

word_front : (b : ℕ) (bytes spelled rest : List ℕ) → IsWord spelled → b ∷ bytes ≡ spelled ++ rest → class_of b ≡ Letter
word_front b bytes [] rest w e = absurd w
word_front b bytes (c ∷ word) rest w e = ap class_of (head_is b c bytes (word ++ rest) e) ∙ w.0

else_token : (b : ℕ) (bytes : List ℕ) → Else b bytes → (kind : TokenKind) → Begins kind (b ∷ bytes) → ⊥
else_token b bytes n Left x = n.not_opening (head_is b 40 bytes x.1 (x.2 ∙ ap (λ l. l ++ x.1) x.3))
else_token b bytes n Right x = n.not_closing (head_is b 41 bytes x.1 (x.2 ∙ ap (λ l. l ++ x.1) x.3))
else_token b bytes n Word x = n.not_letter (word_front b bytes x.0 x.1 x.3 x.2)
else_token b bytes n Text x = n.no_string x

else_gap : (b : ℕ) (bytes : List ℕ) → Else b bytes → (gap rest : List ℕ) → Gap gap → (gap ≡ [] → ⊥) → b ∷ bytes ≡ gap ++ rest → ⊥
else_gap b bytes n gap rest none s e = s refl
else_gap b bytes n gap rest (blank c more h d) s e = n.not_blank (ap is_blank (head_is b c bytes (more ++ rest) e) ∙ h)
else_gap b bytes n gap rest (comment said more line l f d) s e = n.no_pair (line ++ rest) e

nothing : (b : ℕ) (bytes : List ℕ) → Else b bytes → BeginsNothing (b ∷ bytes)
nothing b bytes n = record {
  some = cons_is_some b bytes;
  no_token = else_token b bytes n;
  no_gap = else_gap b bytes n;
  no_remark = λ r. n.no_pair r.0 r.2;
}

not_class : (b : ℕ) (c d : Class) → class_of b ≡ c → (c ≡ d → ⊥) → class_of b ≡ d → ⊥
not_class b c d e n f = n (sym e ∙ f)

same : (n : ℕ) → nat_eq n n ≡ true
same n = eq-eqb n n refl

unlike_byte : (b n : ℕ) → nat_eq b n ≡ false → b ≡ n → ⊥
unlike_byte b n f e = let k : true ≡ false = sym (ap (λ b. nat_eq b n) e ∙ same n) ∙ f in cc

-- a quote that no other closes
no_closed : (bytes : List ℕ) → Unclosed bytes → Begins Text (34 ∷ bytes) → ⊥
no_closed bytes u x =
    let s = x.3 in
    let e : 34 ∷ bytes ≡ 34 ∷ (s.0 ++ 34 ∷ x.1) = x.2 ∙ (ap (λ l. l ++ x.1) s.2 ∙ ap (λ l. 34 ∷ l) (append_assoc s.0 (34 ∷ []) x.1)) in
    u.never (record { inside = s.0; rest = x.1; quoted = s.1; whole = tail_is 34 34 bytes (s.0 ++ 34 ∷ x.1) e })

lone_quote : (bytes : List ℕ) → Unclosed bytes → BeginsNothing (34 ∷ bytes)
lone_quote bytes u = nothing 34 bytes (record {
  not_blank = λ e. let k : false ≡ true = e in cc;
  not_opening = unlike_byte 34 40 refl;
  not_closing = unlike_byte 34 41 refl;
  not_letter = λ e. let k : Quote ≡ Letter = e in cc;
  no_string = no_closed bytes u;
  no_pair = λ more e. unlike_byte 34 59 refl (head_is 34 59 bytes (59 ∷ more) e);
})

quote_front : (b : ℕ) (bytes : List ℕ) → (b ≡ 34 → ⊥) → Begins Text (b ∷ bytes) → ⊥
quote_front b bytes n x = let s = x.3 in n (head_is b 34 bytes ((s.0 ++ 34 ∷ []) ++ x.1) (x.2 ∙ ap (λ l. l ++ x.1) s.2))

lone_semicolon : (bytes : List ℕ) → ((more : List ℕ) → bytes ≡ 59 ∷ more → ⊥) → BeginsNothing (59 ∷ bytes)
lone_semicolon bytes n = nothing 59 bytes (record {
  not_blank = λ e. let k : false ≡ true = e in cc;
  not_opening = unlike_byte 59 40 refl;
  not_closing = unlike_byte 59 41 refl;
  not_letter = λ e. let k : Semicolon ≡ Letter = e in cc;
  no_string = quote_front 59 bytes (unlike_byte 59 34 refl);
  no_pair = λ more e. n more (tail_is 59 59 bytes (59 ∷ more) e);
})

at_class : (b c : ℕ) (k l : Class) → class_of b ≡ k → class_of c ≡ l → (k ≡ l → ⊥) → b ≡ c → ⊥
at_class b c k l e f n q = n (sym e ∙ (ap class_of q ∙ f))

other_byte : (b : ℕ) (bytes : List ℕ) → class_of b ≡ Other → BeginsNothing (b ∷ bytes)
other_byte b bytes e = nothing b bytes (record {
  not_blank = λ h. let k : Other ≡ Blank = sym e ∙ is_blank_class b h in cc;
  not_opening = at_class b 40 Other Opening e refl (λ e. cc);
  not_closing = at_class b 41 Other Closing e refl (λ e. cc);
  not_letter = not_class b Other Letter e (λ e. cc);
  no_string = quote_front b bytes (at_class b 34 Other Quote e refl (λ e. cc));
  no_pair = λ more q. at_class b 59 Other Semicolon e refl (λ e. cc) (head_is b 59 bytes (59 ∷ more) q);
})

-- the rest, which is shorter, has tokens or a fault
abbrev Shorter : ℕ → Type 0
Shorter k = (before : Option TokenKind) (at : ℕ) (bytes : List ℕ) → length bytes ≤ k → (before ≡ Some Word → NoLetter bytes) → Found before at bytes

not_behind_word : (kind : TokenKind) (bytes : List ℕ) → (kind ≡ Word → ⊥) → Some kind ≡ Some Word → NoLetter bytes
not_behind_word kind bytes n e = absurd (n (let k : Some kind ≡ Some Word = e in cc))

not_after : (before : Option TokenKind) (kind : TokenKind) → (IsLong kind → ⊥) → AreLong before kind → ⊥
not_after None kind n a = a
not_after (Some before) kind n a = n a.1

text_token : (k : ℕ) → Shorter k → (before : Option TokenKind) (at : ℕ) (bytes : List ℕ) → length bytes ≤ k → Closed bytes → (AreLong before Text → ⊥) → Found before at (34 ∷ bytes)
text_token k more before at bytes l c a =
    let spelled : List ℕ = 34 ∷ (c.inside ++ 34 ∷ []) in
    let n : length bytes ≡ length c.inside + suc (length c.rest) = ap length c.whole ∙ length-append c.inside (34 ∷ c.rest) in
    let fits : length c.rest ≤ k = omega arith in
    subst (Found before at) (ap (λ l. 34 ∷ l) (append_assoc c.inside (34 ∷ []) c.rest ∙ sym c.whole))
    (after_token before at Text spelled c.rest (c.inside, c.quoted, refl) a
    (more (Some Text) (at + length {A = ℕ} [] + length spelled) c.rest fits (not_behind_word Text c.rest (λ e. cc))))

word_token : (k : ℕ) → Shorter k → (before : Option TokenKind) (at b : ℕ) (bytes : List ℕ) → length bytes ≤ k → class_of b ≡ Letter → (AreLong before Word → ⊥) → Found before at (b ∷ bytes)
word_token k more before at b bytes l e a =
    let w = longest bytes in
    let n : length bytes ≡ length w.word + length w.rest = ap length w.whole ∙ length-append w.word w.rest in
    let fits : length w.rest ≤ k = omega arith in
    subst (λ r. Found before at (b ∷ r)) (sym w.whole)
    (after_token before at Word (b ∷ w.word) w.rest (e, w.letters) a
    (more (Some Word) (at + length {A = ℕ} [] + length (b ∷ w.word)) w.rest fits (λ e. w.stops)))

-- a whole string
string_at : (k : ℕ) → Shorter k → (before : Option TokenKind) (at : ℕ) (bytes : List ℕ) → length bytes ≤ k → Closed bytes → Found before at (34 ∷ bytes)
string_at k more None at bytes l c = text_token k more None at bytes l c (λ a. a)
string_at k more (Some Left) at bytes l c = text_token k more (Some Left) at bytes l c (λ a. a.0)
string_at k more (Some Right) at bytes l c = text_token k more (Some Right) at bytes l c (λ a. a.0)
string_at k more (Some Word) at bytes l c = fault_here (Some Word) at (34 ∷ bytes) (inr (inl (refl, text_begins bytes c)))
string_at k more (Some Text) at bytes l c = fault_here (Some Text) at (34 ∷ bytes) (inr (inr (refl, inr (text_begins bytes c))))

quote_at : (k : ℕ) → Shorter k → (before : Option TokenKind) (at : ℕ) (bytes : List ℕ) → length bytes ≤ k → Closed bytes ⊎ Unclosed bytes → Found before at (34 ∷ bytes)
quote_at k more before at bytes l (inl c) = string_at k more before at bytes l c
quote_at k more before at bytes l (inr u) = fault_here before at (34 ∷ bytes) (inl (lone_quote bytes u))

-- a word
word_at : (k : ℕ) → Shorter k → (before : Option TokenKind) (at b : ℕ) (bytes : List ℕ) → length bytes ≤ k → class_of b ≡ Letter
    → (before ≡ Some Word → NoLetter (b ∷ bytes)) → Found before at (b ∷ bytes)
word_at k more None at b bytes l e q = word_token k more None at b bytes l e (λ a. a)
word_at k more (Some Left) at b bytes l e q = word_token k more (Some Left) at b bytes l e (λ a. a.0)
word_at k more (Some Right) at b bytes l e q = word_token k more (Some Right) at b bytes l e (λ a. a.0)
word_at k more (Some Word) at b bytes l e q = absurd (q refl e)
word_at k more (Some Text) at b bytes l e q = fault_here (Some Text) at (b ∷ bytes) (inr (inr (refl, inl (b ∷ [], bytes, refl, (e, tt)))))

-- a comment
comment_at : (k : ℕ) → Shorter k → (before : Option TokenKind) (at : ℕ) (bytes : List ℕ) → suc (length bytes) ≤ k
    → ((said : List ℕ) × (rest : List ℕ) × IsLine said × (bytes ≡ said ++ 10 ∷ rest)) ⊎ IsLine bytes → Found before at (59 ∷ 59 ∷ bytes)
comment_at k more before at bytes l (inl x) =
    let g : List ℕ = 59 ∷ 59 ∷ (x.0 ++ 10 ∷ []) in
    let n : length bytes ≡ length x.0 + suc (length x.1) = ap length x.3 ∙ length-append x.0 (10 ∷ x.1) in
    let fits : length x.1 ≤ k = omega arith in
    subst (Found before at) (ap (λ l. 59 ∷ 59 ∷ l) (append_assoc x.0 (10 ∷ []) x.1 ∙ sym x.3))
    (after_gap before at g x.1 (comment x.0 [] (x.0 ++ 10 ∷ []) x.2 refl none) (cons_is_some 59 (59 ∷ (x.0 ++ 10 ∷ [])))
    (more None (at + length g) x.1 fits (λ e. absurd (let k : None ≡ Some Word = e in cc))))
comment_at k more before at bytes l (inr d) = has_tokens [] ([], 59 ∷ 59 ∷ bytes, refl, none, inr (bytes, d, refl))

second_semicolon : (k : ℕ) → Shorter k → (before : Option TokenKind) (at b : ℕ) (bytes : List ℕ) → suc (length bytes) ≤ k → (t : Bool) → nat_eq b 59 ≡ t → Found before at (59 ∷ b ∷ bytes)
second_semicolon k more before at b bytes l true e =
    subst (λ b. Found before at (59 ∷ b ∷ bytes)) (sym (eqb-true b 59 e)) (comment_at k more before at bytes l (line_or_not bytes))
second_semicolon k more before at b bytes l false e =
    fault_here before at (59 ∷ b ∷ bytes) (inl (lone_semicolon (b ∷ bytes) (λ r q. unlike_byte b 59 e (head_is b 59 bytes r q))))

semicolon_at : (k : ℕ) → Shorter k → (before : Option TokenKind) (at : ℕ) (bytes : List ℕ) → length bytes ≤ k → Found before at (59 ∷ bytes)
semicolon_at k more before at [] l = fault_here before at (59 ∷ []) (inl (lone_semicolon [] (λ r q. cons_is_some 59 r (sym q))))
semicolon_at k more before at (b ∷ bytes) l = second_semicolon k more before at b bytes l (nat_eq b 59) refl

byte_at : (k : ℕ) → Shorter k → (before : Option TokenKind) (at b : ℕ) (bytes : List ℕ) → View b → length bytes ≤ k
    → (before ≡ Some Word → NoLetter (b ∷ bytes)) → Found before at (b ∷ bytes)
byte_at k more before at i bytes (as_blank b h) l q =
    after_gap before at (b ∷ []) bytes (blank b [] h none) (cons_is_some b []) (more None (at + length (b ∷ [])) bytes l (λ e. absurd (let k : None ≡ Some Word = e in cc)))
byte_at k more before at i bytes as_opening l q =
    after_token before at Left (40 ∷ []) bytes refl (not_after before Left (λ a. a)) (more (Some Left) (at + length {A = ℕ} [] + length {A = ℕ} (40 ∷ [])) bytes l (not_behind_word Left bytes (λ e. cc)))
byte_at k more before at i bytes as_closing l q =
    after_token before at Right (41 ∷ []) bytes refl (not_after before Right (λ a. a)) (more (Some Right) (at + length {A = ℕ} [] + length {A = ℕ} (41 ∷ [])) bytes l (not_behind_word Right bytes (λ e. cc)))
byte_at k more before at i bytes as_quote l q = quote_at k more before at bytes l (closed_or_not bytes)
byte_at k more before at i bytes as_semicolon l q = semicolon_at k more before at bytes l
byte_at k more before at i bytes (as_letter b e) l q = word_at k more before at b bytes l e q
byte_at k more before at i bytes (as_other b e) l q = fault_here before at (b ∷ bytes) (inl (other_byte b bytes e))

found : (k : ℕ) → Shorter k
found k before at [] l q = has_tokens [] ([], [], refl, none, inl refl)
found zero before at (b ∷ bytes) l q = absurd (omega arith)
found (suc k) before at (b ∷ bytes) l q = byte_at k (found k) before at b bytes (view b) (omega arith) q

pub has_either : (text : List ℕ) → Found None 0 text
has_either text = found (length text) None 0 text (omega arith) (λ e. absurd (let k : None ≡ Some Word = e in cc))

either_way : (text : List ℕ) → Found None 0 text → ((ts : List Token) × AreTokens text ts) ⊎ ((at : ℕ) × HasFault text at)
either_way text (has_tokens ts d) = inl (ts, d)
either_way text (has_fault fault ts d) = inr (fault, (ts, d))

pub tokens_or_fault : (text : List ℕ) → ((ts : List Token) × AreTokens text ts) ⊎ ((at : ℕ) × HasFault text at)
tokens_or_fault text = either_way text (has_either text)

-- what is read is what is spelled
abbrev Tokens : Type 0
Tokens = Result (List Token) ℕ

ok_is : (r : Tokens) (ts us : List Token) → r ≡ Ok ts → r ≡ Ok us → ts ≡ us
ok_is r ts us d e = let k : Ok ts ≡ Ok us = sym d ∙ e in cc

err_is : (r : Tokens) (a b : ℕ) → r ≡ Err a → r ≡ Err b → a ≡ b
err_is r a b d e = let k : Err a ≡ Err b = sym d ∙ e in cc

never : (r : Tokens) (ts : List Token) (at : ℕ) → r ≡ Ok ts → r ≡ Err at → ⊥
never r ts at d e = let k : Ok ts ≡ Err at = sym d ∙ e in cc

abbrev Either : List ℕ → Type 0
Either text = ((ts : List Token) × AreTokens text ts) ⊎ ((at : ℕ) × HasFault text at)

spelled_tokens : (text : List ℕ) (ts : List Token) → Either text → tokens text ≡ Ok ts → AreTokens text ts
spelled_tokens text ts (inl x) e = subst (AreTokens text) (ok_is (tokens text) x.0 ts (tokens_are_read text x.0 x.1) e) x.1
spelled_tokens text ts (inr x) e = absurd (never (tokens text) ts x.0 e (fault_is_read text x.0 x.1))

spelled_fault : (text : List ℕ) (at : ℕ) → Either text → tokens text ≡ Err at → HasFault text at
spelled_fault text at (inl x) e = absurd (never (tokens text) x.0 at (tokens_are_read text x.0 x.1) e)
spelled_fault text at (inr x) e = subst (HasFault text) (err_is (tokens text) x.0 at (fault_is_read text x.0 x.1) e) x.1

pub read_tokens : (text : List ℕ) (ts : List Token) → tokens text ≡ Ok ts → AreTokens text ts
read_tokens text ts e = spelled_tokens text ts (tokens_or_fault text) e

pub read_fault : (text : List ℕ) (at : ℕ) → tokens text ≡ Err at → HasFault text at
read_fault text at e = spelled_fault text at (tokens_or_fault text) e

pub one_list : (text : List ℕ) (ts us : List Token) → AreTokens text ts → AreTokens text us → ts ≡ us
one_list text ts us d e = ok_is (tokens text) ts us (tokens_are_read text ts d) (tokens_are_read text us e)

pub one_fault : (text : List ℕ) (at by : ℕ) → HasFault text at → HasFault text by → at ≡ by
one_fault text at by d e = err_is (tokens text) at by (fault_is_read text at d) (fault_is_read text by e)

pub not_both : (text : List ℕ) (ts : List Token) (at : ℕ) → AreTokens text ts → HasFault text at → ⊥
not_both text ts at d e = never (tokens text) ts at (tokens_are_read text ts d) (fault_is_read text at e)
