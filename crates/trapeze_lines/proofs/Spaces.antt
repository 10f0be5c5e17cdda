-- The words of a line have no space, so the text splits into them again.
use Rattle.std.proofs.Common.{◌≡◌, ℕ, zero, suc, ◌<◌, ◌^◌, ◌/◌, ◌%◌, Bool, true, false, List, [], ◌∷◌, Option, Some, None, refl, ap, subst, ◌∙◌, arith, slice_index}
use Rattle.std.specs.Prelude.{All, IfSome, ◌==◌, not, codes, decimal}
use Rattle.std.specs.List.{list_all, join_with_byte}
use Rattle.std.specs.Char.{digit_value}
use Rattle.std.specs.Str.Parse.{AllDigits}
use Rattle.std.proofs.lemmas.Bool.{and_parts, eqb-true}
use Rattle.std.proofs.lemmas.List.Elements.{All-nil, All-cons, All-head, All-tail}
use Rattle.std.proofs.lemmas.List.Splits.{slice_split_none, slice_split_at}
use Rattle.std.proofs.lemmas.Fmt.{decimal_is_IsNumeral}
use Rattle.trapeze_io.specs.Names.{is_name, goes_in_name, starts_name}
use Rattle.trapeze_io.specs.Words.{words_of}
use Rattle.hex.specs.Hex.{encode_lower, encode_with, lower_digits}
use Rattle.label_lattice.specs.declared.label.Label.{Label}
use Rattle.trapeze_lines.specs.declared.line.Kind.{Kind}
use Rattle.trapeze_lines.specs.declared.line.Kind.TheVariants.{Reply, Turn, Idle, Dropped, Full, Facet, Write, Read, Send, Answer, Start}
use Rattle.trapeze_lines.specs.declared.outcome.Outcome.{Outcome}
use Rattle.trapeze_lines.specs.declared.outcome.Outcome.TheVariants.{Ended, Waits, Raised, Trapped}
use Rattle.trapeze_lines.specs.declared.outcome.Cause.{Cause}
use Rattle.trapeze_lines.specs.declared.outcome.Cause.TheVariants as cause
use Rattle.trapeze_lines.specs.Lines.{IsName, IsWithin}
use Rattle.trapeze_lines.specs.Texts.{bytes_text, value_text, id_text, cause_text, outcome_words, kind_word, other_words, label_text}

-- the byte is no space
abbrev pub IsNoSpace : ℕ → Type 0
IsNoSpace b = (b == 32) ≡ false

-- no byte of the word is a space
abbrev pub IsWord : List ℕ → Type 0
IsWord word = All IsNoSpace word

-- words with one space between each two split into the words again
pub split_joined : (word : List ℕ) (words : List (List ℕ)) → IsWord word → All IsWord words → words_of (join_with_byte 32 (word ∷ words)) ≡ word ∷ words
split_joined word [] h hs = slice_split_none (λ b. b == 32) word h
split_joined word (next ∷ words) h hs =
    slice_split_at (λ b. b == 32) word 32 (join_with_byte 32 (next ∷ words)) h refl
    ∙ ap (λ rest. word ∷ rest) (split_joined next words (All-head IsWord next words hs) (All-tail IsWord next words hs))

-- a list that passes a test has no space
passing : (bs : List ℕ) → list_all (λ b. not (b == 32)) bs ≡ true → IsWord bs
passing [] h = All-nil IsNoSpace
passing (b ∷ bs) h =
    let parts = and_parts (not (b == 32)) (list_all (λ c. not (c == 32)) bs) h in
    All-cons IsNoSpace b bs (negated (b == 32) parts.0) (passing bs parts.1)
  where
    negated : (t : Bool) → not t ≡ true → t ≡ false
    negated true e = cc
    negated false e = refl

in_name : (b : ℕ) → goes_in_name b ≡ true → IsNoSpace b
in_name b h = by (b == 32) refl
  where
    by : (t : Bool) → (b == 32) ≡ t → (b == 32) ≡ false
    by false e = e
    by true e = absurd (let same : b ≡ 32 = eqb-true b 32 e in let at : goes_in_name 32 ≡ true = subst (λ (x : ℕ). goes_in_name x ≡ true) same h in cc)

all_in_name : (bs : List ℕ) → list_all goes_in_name bs ≡ true → IsWord bs
all_in_name [] h = All-nil IsNoSpace
all_in_name (b ∷ bs) h =
    let parts = and_parts (goes_in_name b) (list_all goes_in_name bs) h in
    All-cons IsNoSpace b bs (in_name b parts.0) (all_in_name bs parts.1)

starts_in : (b : ℕ) → starts_name b ≡ true → goes_in_name b ≡ true
starts_in b h = rw h refl

-- a name has no space
pub name_word : (name : List ℕ) → IsName name → IsWord name
name_word [] h = All-nil IsNoSpace
name_word (b ∷ bs) h =
    let whole : is_name (b ∷ bs) ≡ true = h in
    let parts = and_parts _ _ whole in
    let fronts = and_parts _ _ parts.0 in
    All-cons IsNoSpace b bs (in_name b (starts_in b fronts.0)) (all_in_name bs fronts.1)

member : (bs : List ℕ) (n : ℕ) → IsWord bs → IsNoSpace (slice_index bs n)
member [] n h = refl
member (b ∷ bs) zero h = All-head IsNoSpace b bs h
member (b ∷ bs) (suc n) h = member bs n (All-tail IsNoSpace b bs h)

digit : (n : ℕ) → IsNoSpace (slice_index lower_digits n)
digit n = member lower_digits n (passing lower_digits refl)

-- hexadecimal digits have no space
digits_word : (bs : List ℕ) → IsWord (encode_lower bs)
unfolding encode_with
digits_word [] = All-nil IsNoSpace
digits_word (b ∷ bs) =
    All-cons IsNoSpace (slice_index lower_digits (b / 16)) (slice_index lower_digits (b % 16) ∷ encode_lower bs) (digit (b / 16))
    (All-cons IsNoSpace (slice_index lower_digits (b % 16)) (encode_lower bs) (digit (b % 16)) (digits_word bs))

pub bytes_word : (bs : List ℕ) → IsWord (bytes_text bs)
bytes_word bs = All-cons IsNoSpace 120 (encode_lower bs) refl (digits_word bs)

dash_word : IsWord (codes "-")
dash_word = passing (codes "-") refl

pub value_word : (value : Option (List ℕ)) → IsWord (value_text value)
value_word None = dash_word
value_word (Some bytes) = bytes_word bytes

pub id_word : (id : Option (List ℕ)) → IfSome id IsName → IsWord (id_text id)
id_word None h = dash_word
id_word (Some id) h = name_word id h

decimal_digit : (b : ℕ) → digit_value b < 10 → IsNoSpace b
decimal_digit b h = by (b == 32) refl
  where
    by : (t : Bool) → (b == 32) ≡ t → (b == 32) ≡ false
    by false e = e
    by true e = absurd (let same : b ≡ 32 = eqb-true b 32 e in let at : digit_value 32 < 10 = subst (λ (x : ℕ). digit_value x < 10) same h in omega arith)

decimal_digits : (ds : List ℕ) → AllDigits 10 ds → IsWord ds
decimal_digits [] h = All-nil IsNoSpace
decimal_digits (d ∷ ds) h = All-cons IsNoSpace d ds (decimal_digit d h.0) (decimal_digits ds h.1)

pub number_word : (n : ℕ) → n < 2 ^ 64 → IsWord (decimal n)
number_word n h = decimal_digits (decimal n) (decimal_is_IsNumeral n h).0.1

cause_word : (why : Cause) → IsWord (cause_text why)
cause_word cause.Unreachable = passing (codes "unreachable") refl
cause_word cause.Memory = passing (codes "memory") refl
cause_word cause.Divide = passing (codes "divide") refl
cause_word cause.Overflow = passing (codes "overflow") refl
cause_word cause.Table = passing (codes "table") refl
cause_word cause.Empty = passing (codes "empty") refl
cause_word cause.TypeDiffers = passing (codes "type") refl
cause_word cause.Stack = passing (codes "stack") refl
cause_word cause.Pages = passing (codes "pages") refl
cause_word cause.Fuel = passing (codes "fuel") refl
cause_word cause.Size = passing (codes "size") refl
cause_word cause.Unknown = passing (codes "unknown") refl

one : (a : List ℕ) → IsWord a → All IsWord (a ∷ [])
one a h = All-cons IsWord a [] h (All-nil IsWord)

two : (a b : List ℕ) → IsWord a → IsWord b → All IsWord (a ∷ b ∷ [])
two a b h k = All-cons IsWord a (b ∷ []) h (one b k)

three : (a b c : List ℕ) → IsWord a → IsWord b → IsWord c → All IsWord (a ∷ b ∷ c ∷ [])
three a b c h k l = All-cons IsWord a (b ∷ c ∷ []) h (two b c k l)

outcome_are_words : (end : Outcome) → All IsWord (outcome_words end)
outcome_are_words Ended = one (codes "ended") (passing (codes "ended") refl)
outcome_are_words Waits = one (codes "waits") (passing (codes "waits") refl)
outcome_are_words Raised = one (codes "raised") (passing (codes "raised") refl)
outcome_are_words (Trapped why) = two (codes "trapped") (cause_text why) (passing (codes "trapped") refl) (cause_word why)

pub kind_is_word : (kind : Kind) → IsWord (kind_word kind)
kind_is_word (Reply client id bytes) = passing (codes "reply") refl
kind_is_word (Turn number function id outcome) = passing (codes "turn") refl
kind_is_word (Idle number) = passing (codes "idle") refl
kind_is_word (Dropped function id) = passing (codes "drop") refl
kind_is_word (Full key) = passing (codes "full") refl
kind_is_word (Facet key value) = passing (codes "facet") refl
kind_is_word (Write key value) = passing (codes "write") refl
kind_is_word (Read key value) = passing (codes "read") refl
kind_is_word (Send channel bytes) = passing (codes "send") refl
kind_is_word (Answer client id bytes) = passing (codes "answer") refl
kind_is_word (Start from function id) = passing (codes "start") refl

-- the words after the label's name have no space, where the labels' names have none
pub others_are_words : (names : List (List ℕ)) → ((label : Label) → IsWord (label_text names label)) → (kind : Kind) → IsWithin kind → All IsWord (other_words names kind)
others_are_words names named (Reply client id bytes) h = three client id (bytes_text bytes) (name_word client h.0) (name_word id h.1) (bytes_word bytes)
others_are_words names named (Turn number function id outcome) h =
    All-cons IsWord (decimal number) (function ∷ id_text id ∷ outcome_words outcome) (number_word number h.0)
    (All-cons IsWord function (id_text id ∷ outcome_words outcome) (name_word function h.1)
    (All-cons IsWord (id_text id) (outcome_words outcome) (id_word id h.2) (outcome_are_words outcome)))
others_are_words names named (Idle number) h = one (decimal number) (number_word number h)
others_are_words names named (Dropped function id) h = two function (id_text id) (name_word function h.0) (id_word id h.1)
others_are_words names named (Full key) h = one (bytes_text key) (bytes_word key)
others_are_words names named (Facet key value) h = two (bytes_text key) (value_text value) (bytes_word key) (value_word value)
others_are_words names named (Write key value) h = two (bytes_text key) (value_text value) (bytes_word key) (value_word value)
others_are_words names named (Read key value) h = two (bytes_text key) (value_text value) (bytes_word key) (value_word value)
others_are_words names named (Send channel bytes) h = two channel (bytes_text bytes) (name_word channel h.0) (bytes_word bytes)
others_are_words names named (Answer client id bytes) h = three client id (bytes_text bytes) (name_word client h.0) (name_word id h.1) (bytes_word bytes)
others_are_words names named (Start from function id) h =
    three (label_text names from) function (id_text id) (named from) (name_word function h.0) (id_word id h.1)
