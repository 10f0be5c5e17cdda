-- Where a string, a line and a word end, if they do.
use Rattle.std.proofs.Common.{◌≡◌, ◌≤◌, ◌<◌, ℕ, suc, ◌+◌, List, [], ◌∷◌, ◌++◌, length, Result, Ok, Err, arith, refl, sym, ap, ◌∙◌, Bool, true, false, subst}
use Rattle.std.proofs.Common.{inl, inr}
use Rattle.std.proofs.lemmas.Bool.{eqb-true}
use Rattle.std.specs.Prelude.{◌⊎◌, if◌then◌else◌, ◌&&◌, not, nat_eq, nat_le, Option, Some, None}
use Rattle.wat_lex.specs.declared.pieces.Token.{Token}
use Rattle.wat_lex.specs.declared.pieces.TokenKind.TheVariants.{Text}
use Rattle.wat_lex.specs.declared.classes.LexState.{LexState}
use Rattle.wat_lex.specs.declared.classes.LexState.TheVariants.{Behind, InText, Escape, HalfEscape}
use Rattle.wat_lex.specs.declared.classes.Class.{Class}
use Rattle.wat_lex.specs.declared.classes.Class.TheVariants.{Blank, Opening, Closing, Quote, Semicolon, Letter, Other}
use Rattle.wat_lex.specs.Classes.{is_plain, is_hex, class_of}
use Rattle.wat_lex.specs.Lexing.{and_token, in_text, lex, finish, go_on}
use Rattle.wat_lex.specs.Sentences.{EachByte, IsLine, Quoted, finished, plain, escape}
use Rattle.wat_lex.proofs.Passing.{one, stop, NoLetter, plain_step, is_blank_class}
use Rattle.wat_lex.proofs.Bytes.{View, as_blank, as_opening, as_closing, as_quote, as_semicolon, as_letter, as_other, view}

-- behind an opening quote, the string is closed
pub record Closed (bytes : List ℕ) : Type 0 where
  pub inside : List ℕ
  pub rest : List ℕ
  pub quoted : Quoted inside
  pub whole : bytes ≡ inside ++ 34 ∷ rest

-- behind an opening quote, the string is never closed, and reading says so
pub record Unclosed (bytes : List ℕ) : Type 0 where
  pub never : Closed bytes → ⊥
  pub fails : (found : List Token) (s at : ℕ) → lex found (InText s) at bytes ≡ Err s

-- how a string goes on
data Onward : (bytes : List ℕ) → Type 0 where
  at_once : (rest : List ℕ) → Onward (34 ∷ rest)
  by_plain : (b : ℕ) (bytes : List ℕ) → is_plain b ≡ true → Closed bytes → Onward (b ∷ bytes)
  by_escape : (high low : ℕ) (bytes : List ℕ) → is_hex high ≡ true → is_hex low ≡ true → Closed bytes → Onward (92 ∷ high ∷ low ∷ bytes)

onward_of : (bytes inside rest : List ℕ) → Quoted inside → bytes ≡ inside ++ 34 ∷ rest → Onward bytes
onward_of bytes inside rest finished e = subst Onward (sym e) (at_once rest)
onward_of bytes inside rest (plain b more h d) e = subst Onward (sym e) (by_plain b (more ++ 34 ∷ rest) h (record { inside = more; rest = rest; quoted = d; whole = refl }))
onward_of bytes inside rest (escape high low more h l d) e =
    subst Onward (sym e) (by_escape high low (more ++ 34 ∷ rest) h l (record { inside = more; rest = rest; quoted = d; whole = refl }))

onward : (bytes : List ℕ) → Closed bytes → Onward bytes
onward bytes c = onward_of bytes c.inside c.rest c.quoted c.whole

head_is : (a b : ℕ) (xs ys : List ℕ) → a ∷ xs ≡ b ∷ ys → a ≡ b
head_is a b xs ys e = cc

tail_is : (a b : ℕ) (xs ys : List ℕ) → a ∷ xs ≡ b ∷ ys → xs ≡ ys
tail_is a b xs ys e = cc

unlike : (f : ℕ → Bool) (a b : ℕ) → f a ≡ true → f b ≡ false → a ≡ b → ⊥
unlike f a b t g e = let k : true ≡ false = sym t ∙ ap f e ∙ g in cc

-- behind a backslash
abbrev EscapeEnds : List ℕ → Type 0
EscapeEnds r = (high : ℕ) × (low : ℕ) × (bytes : List ℕ) × (is_hex high ≡ true) × (is_hex low ≡ true) × (r ≡ high ∷ low ∷ bytes) × Closed bytes

abbrev EscapeFails : List ℕ → Type 0
EscapeFails r = (EscapeEnds r → ⊥) × ((found : List Token) (s at : ℕ) → lex found (Escape s) at r ≡ Err s)

-- a first byte that is neither a quote nor a backslash
not_onward : (b : ℕ) (r bytes : List ℕ) → bytes ≡ b ∷ r → nat_eq b 34 ≡ false → nat_eq b 92 ≡ false → (is_plain b ≡ true → Closed r → ⊥) → Onward bytes → ⊥
not_onward b r bytes e q n p (at_once rest) = unlike (λ b. nat_eq b 34) 34 b refl q (head_is 34 b rest r e)
not_onward b r bytes e q n p (by_plain c more h d) = p (sym (ap is_plain (head_is c b more r e)) ∙ h) (subst Closed (tail_is c b more r e) d)
not_onward b r bytes e q n p (by_escape high low more h l d) = unlike (λ b. nat_eq b 92) 92 b refl n (head_is 92 b (high ∷ low ∷ more) r e)

not_escaped : (r bytes : List ℕ) → bytes ≡ 92 ∷ r → (EscapeEnds r → ⊥) → Onward bytes → ⊥
not_escaped r bytes e n (at_once rest) = unlike (λ b. nat_eq b 34) 34 92 refl refl (head_is 34 92 rest r e)
not_escaped r bytes e n (by_plain b more h d) = unlike is_plain b 92 h refl (head_is b 92 more r e)
not_escaped r bytes e n (by_escape high low more h l d) = n (high, low, more, h, l, sym (tail_is 92 92 (high ∷ low ∷ more) r e), d)

-- the byte of a string fails, or goes on
text_byte : (found : List Token) (s at b : ℕ) → nat_eq b 34 ≡ false → nat_eq b 92 ≡ false → is_plain b ≡ false → in_text found s b at ≡ Err s
text_byte found s at b q n p =
    ap (λ t. if t then Ok (and_token found s (at + 1) Text, Behind) else if nat_eq b 92 then Ok (found, Escape s) else if is_plain b then Ok (found, InText s) else Err s) q
    ∙ (ap (λ t. if t then Ok (found, Escape s) else if is_plain b then Ok (found, InText s) else Err s) n
    ∙ ap (λ t. if t then Ok (found, InText s) else Err s) p)

plain_next : (b : ℕ) (r : List ℕ) (t : Bool) → is_plain b ≡ t → nat_eq b 34 ≡ false → nat_eq b 92 ≡ false → Closed r ⊎ Unclosed r → Closed (b ∷ r) ⊎ Unclosed (b ∷ r)
plain_next b r true p q n (inl c) = inl (record { inside = b ∷ c.inside; rest = c.rest; quoted = plain b c.inside p c.quoted; whole = ap (λ r. b ∷ r) c.whole })
plain_next b r true p q n (inr u) = inr (record {
  never = λ c. not_onward b r (b ∷ r) refl q n (λ p. u.never) (onward (b ∷ r) c);
  fails = λ found s at. one found found (InText s) (InText s) at b r (plain_step found s b at p) ∙ u.fails found s (at + 1);
})
plain_next b r false p q n d = inr (record {
  never = λ c. not_onward b r (b ∷ r) refl q n (λ t. absurd (let k : true ≡ false = sym t ∙ p in cc)) (onward (b ∷ r) c);
  fails = λ found s at. stop found (InText s) at s b r (text_byte found s at b q n p);
})

backslash : (r : List ℕ) → EscapeEnds r ⊎ EscapeFails r → Closed (92 ∷ r) ⊎ Unclosed (92 ∷ r)
backslash r (inl x) =
    let c = x.6 in
    inl (record { inside = 92 ∷ x.0 ∷ x.1 ∷ c.inside; rest = c.rest; quoted = escape x.0 x.1 c.inside x.3 x.4 c.quoted; whole = ap (λ r. 92 ∷ r) (x.5 ∙ ap (λ r. x.0 ∷ x.1 ∷ r) c.whole) })
backslash r (inr x) = inr (record {
  never = λ c. not_escaped r (92 ∷ r) refl x.0 (onward (92 ∷ r) c);
  fails = λ found s at. one found found (InText s) (Escape s) at 92 r refl ∙ x.1 found s (at + 1);
})

backslash_next : (b : ℕ) (r : List ℕ) (t : Bool) → nat_eq b 92 ≡ t → nat_eq b 34 ≡ false → Closed r ⊎ Unclosed r → EscapeEnds r ⊎ EscapeFails r → Closed (b ∷ r) ⊎ Unclosed (b ∷ r)
backslash_next b r true n q d x = subst (λ b. Closed (b ∷ r) ⊎ Unclosed (b ∷ r)) (sym (eqb-true b 92 n)) (backslash r x)
backslash_next b r false n q d x = plain_next b r (is_plain b) refl q n d

quote_next : (b : ℕ) (r : List ℕ) (t : Bool) → nat_eq b 34 ≡ t → Closed r ⊎ Unclosed r → EscapeEnds r ⊎ EscapeFails r → Closed (b ∷ r) ⊎ Unclosed (b ∷ r)
quote_next b r true q d x = inl (record { inside = []; rest = r; quoted = finished; whole = ap (λ b. b ∷ r) (eqb-true b 34 q) })
quote_next b r false q d x = backslash_next b r (nat_eq b 92) refl q d x

escape_of_none : EscapeEnds [] ⊎ EscapeFails []
unfolding lex
escape_of_none = inr (λ x. absurd (let k : [] ≡ x.0 ∷ x.1 ∷ x.2 = x.5 in cc), λ found s at. refl)

bad_digit : (b : ℕ) (r : List ℕ) → is_hex b ≡ false → EscapeFails (b ∷ r)
bad_digit b r h = (
  λ x. unlike is_hex x.0 b x.3 h (head_is x.0 b (x.1 ∷ x.2) r (sym x.5)),
  λ found s at. stop found (Escape s) at s b r (ap (λ t. if t then Ok (found, HalfEscape s) else Err s) h),
)

bad_second : (b c : ℕ) (r : List ℕ) → is_hex b ≡ true → is_hex c ≡ false → EscapeFails (b ∷ c ∷ r)
bad_second b c r h l = (
  λ x. unlike is_hex x.1 c x.4 l (head_is x.1 c x.2 r (tail_is x.0 b (x.1 ∷ x.2) (c ∷ r) (sym x.5))),
  λ found s at. one found found (Escape s) (HalfEscape s) at b (c ∷ r) (ap (λ t. if t then Ok (found, HalfEscape s) else Err s) h)
      ∙ stop found (HalfEscape s) (at + 1) s c r (ap (λ t. if t then Ok (found, InText s) else Err s) l),
)

half_of_none : (b : ℕ) → is_hex b ≡ true → EscapeFails (b ∷ [])
unfolding lex
half_of_none b h = (
  λ x. let e : [] ≡ x.1 ∷ x.2 = sym (tail_is x.0 b (x.1 ∷ x.2) [] (sym x.5)) in cc,
  λ found s at. one found found (Escape s) (HalfEscape s) at b [] (ap (λ t. if t then Ok (found, HalfEscape s) else Err s) h),
)

escape_of_one : (b : ℕ) (t : Bool) → is_hex b ≡ t → EscapeEnds (b ∷ []) ⊎ EscapeFails (b ∷ [])
escape_of_one b true h = inr (half_of_none b h)
escape_of_one b false h = inr (bad_digit b [] h)

escape_rest : (b c : ℕ) (r : List ℕ) → is_hex b ≡ true → is_hex c ≡ true → Closed r ⊎ Unclosed r → EscapeEnds (b ∷ c ∷ r) ⊎ EscapeFails (b ∷ c ∷ r)
escape_rest b c r h l (inl d) = inl (b, c, r, h, l, refl, d)
escape_rest b c r h l (inr u) = inr (
  λ x. u.never (subst Closed (tail_is x.1 c x.2 r (tail_is x.0 b (x.1 ∷ x.2) (c ∷ r) (sym x.5))) x.6),
  λ found s at. one found found (Escape s) (HalfEscape s) at b (c ∷ r) (ap (λ t. if t then Ok (found, HalfEscape s) else Err s) h)
      ∙ (one found found (HalfEscape s) (InText s) (at + 1) c r (ap (λ t. if t then Ok (found, InText s) else Err s) l) ∙ u.fails found s (at + 1 + 1)),
)

escape_second : (b c : ℕ) (r : List ℕ) (u : Bool) → is_hex b ≡ true → is_hex c ≡ u → Closed r ⊎ Unclosed r → EscapeEnds (b ∷ c ∷ r) ⊎ EscapeFails (b ∷ c ∷ r)
escape_second b c r true h l d = escape_rest b c r h l d
escape_second b c r false h l d = inr (bad_second b c r h l)

escape_of_two : (b c : ℕ) (r : List ℕ) (t : Bool) → is_hex b ≡ t → Closed r ⊎ Unclosed r → EscapeEnds (b ∷ c ∷ r) ⊎ EscapeFails (b ∷ c ∷ r)
escape_of_two b c r true h d = escape_second b c r (is_hex c) h refl d
escape_of_two b c r false h d = inr (bad_digit b (c ∷ r) h)

no_bytes_go_on : (bytes : List ℕ) → bytes ≡ [] → Onward bytes → ⊥
no_bytes_go_on bytes e (at_once rest) = cc
no_bytes_go_on bytes e (by_plain b more h d) = cc
no_bytes_go_on bytes e (by_escape high low more h l d) = cc

none_closes : Closed [] ⊎ Unclosed []
unfolding lex
none_closes = inr (record { never = λ c. no_bytes_go_on [] refl (onward [] c); fails = λ found s at. refl })

-- a string is closed, or never closed
pub closed_or_not : (bytes : List ℕ) → Closed bytes ⊎ Unclosed bytes
closed_or_not [] = none_closes
closed_or_not (b ∷ []) = quote_next b [] (nat_eq b 34) refl (closed_or_not []) escape_of_none
closed_or_not (b ∷ c ∷ []) = quote_next b (c ∷ []) (nat_eq b 34) refl (closed_or_not (c ∷ [])) (escape_of_one c (is_hex c) refl)
closed_or_not (b ∷ c ∷ d ∷ r) = quote_next b (c ∷ d ∷ r) (nat_eq b 34) refl (closed_or_not (c ∷ d ∷ r)) (escape_of_two c d r (is_hex c) refl (closed_or_not r))

abbrev Lined : List ℕ → Type 0
Lined bytes = ((said : List ℕ) × (rest : List ℕ) × IsLine said × (bytes ≡ said ++ 10 ∷ rest)) ⊎ IsLine bytes

not_feed : (b : ℕ) → nat_eq b 10 ≡ false → b ≡ 10 → ⊥
not_feed b h e = let k : false ≡ true = sym h ∙ ap (λ b. nat_eq b 10) e in cc

line_byte : (b : ℕ) (bytes : List ℕ) (t : Bool) → nat_eq b 10 ≡ t → Lined bytes → Lined (b ∷ bytes)
line_byte b bytes true h d = inl ([], bytes, tt, ap (λ b. b ∷ bytes) (eqb-true b 10 h))
line_byte b bytes false h (inl x) = inl (b ∷ x.0, x.1, (not_feed b h, x.2), ap (λ l. b ∷ l) x.3)
line_byte b bytes false h (inr x) = inr (not_feed b h, x)

-- a line is ended, or is the last
pub line_or_not : (bytes : List ℕ) → ((said : List ℕ) × (rest : List ℕ) × IsLine said × (bytes ≡ said ++ 10 ∷ rest)) ⊎ IsLine bytes
line_or_not [] = inr tt
line_or_not (b ∷ bytes) = line_byte b bytes (nat_eq b 10) refl (line_or_not bytes)

-- the longest word
pub record Longest (bytes : List ℕ) : Type 0 where
  pub word : List ℕ
  pub rest : List ℕ
  pub letters : EachByte (λ b. class_of b ≡ Letter) word
  pub whole : bytes ≡ word ++ rest
  pub stops : NoLetter rest

pub stopped : (b : ℕ) (bytes : List ℕ) → (class_of b ≡ Letter → ⊥) → Longest (b ∷ bytes)
stopped b bytes n = record { word = []; rest = b ∷ bytes; letters = tt; whole = refl; stops = n }

is_no_letter : (b : ℕ) (c : Class) → class_of b ≡ c → (c ≡ Letter → ⊥) → class_of b ≡ Letter → ⊥
is_no_letter b c e n l = n (sym e ∙ l)

longest_byte : (b : ℕ) (bytes : List ℕ) → View b → Longest bytes → Longest (b ∷ bytes)
longest_byte i bytes (as_blank b h) l = stopped b bytes (is_no_letter b Blank (is_blank_class b h) (λ e. cc))
longest_byte i bytes as_opening l = stopped 40 bytes (λ e. let k : Opening ≡ Letter = e in cc)
longest_byte i bytes as_closing l = stopped 41 bytes (λ e. let k : Closing ≡ Letter = e in cc)
longest_byte i bytes as_quote l = stopped 34 bytes (λ e. let k : Quote ≡ Letter = e in cc)
longest_byte i bytes as_semicolon l = stopped 59 bytes (λ e. let k : Semicolon ≡ Letter = e in cc)
longest_byte i bytes (as_letter b e) l =
    record { word = b ∷ l.word; rest = l.rest; letters = (e, l.letters); whole = ap (λ r. b ∷ r) l.whole; stops = l.stops }
longest_byte i bytes (as_other b e) l = stopped b bytes (is_no_letter b Other e (λ e. cc))

pub longest : (bytes : List ℕ) → Longest bytes
longest [] = record { word = []; rest = []; letters = tt; whole = refl; stops = tt }
longest (b ∷ bytes) = longest_byte b bytes (view b) (longest bytes)
