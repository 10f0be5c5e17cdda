-- A word is read as what has that word as its text, and only so.
use Rattle.std.proofs.Common.{◌≡◌, ℕ, zero, suc, ◌<◌, ◌≤◌, ◌^◌, Bool, true, false, cond, List, [], ◌∷◌, Option, Some, None, Result, Ok, Err, refl, sym, ap, subst, ◌∙◌, arith, slice_index, length}
use Rattle.std.specs.Prelude.{⊤, IfSome, ◌==◌, ◌&&◌, codes, decimal, nat_lt, nat_le, nat_eq, slice_index_or, ok_or}
use Rattle.std.specs.List.{list_all, find}
use Rattle.std.specs.Str.{bytes_eq, IsUtf8}
use Rattle.std.specs.Str.Parse.{digits_value, ParsesUnsigned}
use Rattle.std.specs.Cmp.Lexicographic.{pointwise}
use Rattle.std.proofs.lemmas.Bool.Decides.{nat_tests}
use Rattle.std.proofs.lemmas.List.Elements.{All-nil, All-cons, All-head, All-tail}
use Rattle.std.proofs.lemmas.Slice.Eq.{bytes_eq-Decides}
use Rattle.std.proofs.lemmas.Fmt.{decimal_is_IsNumeral, parse-decimal, IsAscii-decimal}
use Rattle.std.proofs.lemmas.Str.{IsUtf8-from_ascii}
use Rattle.std.proofs.lemmas.Option.{slice_get-get_or}
use Rattle.std.proofs.lemmas.Bool.{and_parts, ltb-true, leb-true, eqb-true}
use Rattle.hex.specs.Hex.{encode_lower, decode_of, IsBytes}
use Rattle.hex.specs.declared.error.FromHexError.{FromHexError}
use Rattle.hex.proofs.HexLemmas.{decode_of-encode_lower, decode_of-ok}
use Rattle.trapeze_io.specs.Answers.{◌>>=◌}
use Rattle.trapeze_io.specs.Names.{is_name}
use Rattle.label_lattice.specs.Order.{place_of}
use Rattle.label_lattice.proofs.FirstPositions.{none_passes}
use Rattle.std.proofs.lemmas.List.Quantifiers.{position-Some}
use Rattle.label_lattice.specs.Sound.{AreNames}
use Rattle.label_lattice.specs.declared.label.Label.{Label}
use Rattle.trapeze_lines.specs.declared.outcome.Outcome.{Outcome}
use Rattle.trapeze_lines.specs.declared.outcome.Outcome.TheVariants.{Ended, Waits, Raised, Trapped}
use Rattle.trapeze_lines.specs.declared.outcome.Cause.{Cause}
use Rattle.trapeze_lines.specs.declared.outcome.Cause.TheVariants as cause
use Rattle.trapeze_lines.specs.Lines.{IsName, AreBytes}
use Rattle.trapeze_lines.specs.Texts.{bytes_text, value_text, id_text, cause_text, outcome_text, outcome_words, label_text}
use Rattle.trapeze_lines.specs.Reading.{TextFault, SaysNothing, name_of, id_of, label_of, number_of, bounded, bytes_of, value_of, causes, cause_of, outcomes, plain_outcome_of, outcome_of}
use Rattle.trapeze_lines.proofs.Digits.{is_lower, lower_text, lower_all}

-- a choice that gave something
pub chosen : {A : Type 0} (b : Bool) (x y : A) → cond b (Ok x) (Err SaysNothing) ≡ Ok y → (b ≡ true) × (x ≡ y)
chosen true x y h = (refl, cc)
chosen false x y h = absurd (cc)

pub taken : {A : Type 0} (b : Bool) (r : Result A TextFault) (y : A) → cond b r (Err SaysNothing) ≡ Ok y → (b ≡ true) × (r ≡ Ok y)
taken true r y h = (refl, h)
taken false r y h = absurd (cc)

-- the first step of a reading that gave something gave something
pub bound : {A B : Type 0} (r : Result A TextFault) (f : A → Result B TextFault) (y : B) → (r >>= f) ≡ Ok y → (x : A) × (r ≡ Ok x) × (f x ≡ Ok y)
bound (Ok x) f y h = (x, refl, h)
bound (Err fault) f y h = absurd (cc)

pub mapped : {A B : Type 0} (f : A → B) (r : Result A TextFault) (y : B) → (r >>= (λ x. Ok (f x))) ≡ Ok y → (x : A) × (r ≡ Ok x) × (f x ≡ y)
mapped f (Ok x) y h = (x, refl, cc)
mapped f (Err fault) y h = absurd (cc)

-- what was looked for was found
-- what says nothing has every fault that saying nothing is
pub silent : {A : Type 0} (said : Result A TextFault) → said ≡ Err SaysNothing → (fault : TextFault) → Some SaysNothing ≡ Some fault → said ≡ Err fault
silent said none fault is = let same : SaysNothing ≡ fault = cc in none ∙ ap Err same

sought : {A : Type 0} (o : Option A) (x : A) → ok_or o SaysNothing ≡ Ok x → o ≡ Some x
sought (Some y) x h = cc
sought None x h = absurd (cc)

pub same_text : (a b : List ℕ) → bytes_eq a b ≡ true → a ≡ b
same_text a b h = (bytes_eq-Decides a b).0 h

pub text_same : (a b : List ℕ) → a ≡ b → bytes_eq a b ≡ true
text_same a b h = (bytes_eq-Decides a b).1 h

pub equal_text : (a : List ℕ) → bytes_eq a a ≡ true
equal_text a = (bytes_eq-Decides a a).1 refl

pub name_sound : (word name : List ℕ) → name_of word ≡ Ok name → IsName name × (name ≡ word)
unfolding name_of
name_sound word name h =
    let c = chosen (is_name word) word name h in
    (subst (λ (n : List ℕ). is_name n ≡ true) c.1 c.0, sym c.1)

pub name_complete : (name : List ℕ) → IsName name → name_of name ≡ Ok name
unfolding name_of
name_complete name h = let is : is_name name ≡ true = h in ap (λ b. cond b (Ok name) (Err SaysNothing)) is

dash_or : (b : Bool) (word : List ℕ) (id : Option (List ℕ)) → (b ≡ true → codes "-" ≡ word) → cond b (Ok None) (name_of word >>= (λ name. Ok (Some name))) ≡ Ok id
    → IfSome id IsName × (id_text id ≡ word)
dash_or true word None e h = (tt, e refl)
dash_or true word (Some id) e h = absurd (cc)
dash_or false word None e h = absurd (let m = mapped Some (name_of word) None h in let k : Some m.0 ≡ None = m.2 in cc)
dash_or false word (Some id) e h =
    let m = mapped Some (name_of word) (Some id) h in
    let same : m.0 ≡ id = cc (m.2) in
    name_sound word id (m.1 ∙ ap Ok same)

pub id_sound : (word : List ℕ) (id : Option (List ℕ)) → id_of word ≡ Ok id → IfSome id IsName × (id_text id ≡ word)
unfolding id_of
id_sound word id h = dash_or (bytes_eq word (codes "-")) word id (λ e. sym (same_text word (codes "-") e)) h

no_dash : (b : Bool) (id : List ℕ) → IsName id → (b ≡ true → id ≡ codes "-") → cond b (Ok None) (name_of id >>= (λ name. Ok (Some name))) ≡ Ok (Some id)
no_dash true id h e = absurd (let at : is_name (codes "-") ≡ true = subst (λ (n : List ℕ). is_name n ≡ true) (e refl) h in cc)
no_dash false id h e = ap (λ r. r >>= (λ name. Ok (Some name))) (name_complete id h)

pub id_complete : (id : Option (List ℕ)) → IfSome id IsName → id_of (id_text id) ≡ Ok id
unfolding id_of
id_complete None h = refl
id_complete (Some id) h = no_dash (bytes_eq id (codes "-")) id h (same_text id (codes "-"))

number_by : (b c : Bool) (n m : ℕ) (word : List ℕ) → (b ≡ true → n < 2 ^ 64) → (c ≡ true → decimal n ≡ word) → cond (b && c) (Ok n) (Err SaysNothing) ≡ Ok m
    → (m < 2 ^ 64) × (decimal m ≡ word)
number_by true true n m word small text h = let e : n ≡ m = cc in (omega (arith, small refl, e), ap decimal (sym e) ∙ text refl)
number_by true false n m word small text h = absurd (cc)
number_by false c n m word small text h = absurd (cc)

pub number_sound : (word : List ℕ) (n : ℕ) → number_of word ≡ Ok n → (n < 2 ^ 64) × (decimal n ≡ word)
unfolding number_of
number_sound word n h =
    number_by (nat_lt (digits_value 10 word) (2 ^ 64)) (bytes_eq (decimal (digits_value 10 word)) word) (digits_value 10 word) n word
    (ltb-true (digits_value 10 word) (2 ^ 64)) (same_text (decimal (digits_value 10 word)) word) h

number_at : (n m : ℕ) → n < 2 ^ 64 → m ≡ n → (if_ : Bool) → if_ ≡ (nat_lt m (2 ^ 64) && bytes_eq (decimal m) (decimal n)) → cond if_ (Ok m) (Err SaysNothing) ≡ Ok n
number_at n m h e true is = ap Ok e
number_at n m h e false is =
    absurd (
    let small : nat_lt m (2 ^ 64) ≡ true = grind (arith, nat_tests) in
    let text : bytes_eq (decimal m) (decimal n) ≡ true = subst (λ (k : ℕ). bytes_eq (decimal m) (decimal k) ≡ true) e (equal_text (decimal m)) in
    let both : (nat_lt m (2 ^ 64) && bytes_eq (decimal m) (decimal n)) ≡ true = rw (small, text) refl in cc)

pub number_complete : (n : ℕ) → n < 2 ^ 64 → number_of (decimal n) ≡ Ok n
unfolding number_of
number_complete n h = number_at n (digits_value 10 (decimal n)) h (decimal_is_IsNumeral n h).1 _ refl

-- a word that is no number's digits
number_none : (word : List ℕ) → ((n : ℕ) → n < 2 ^ 64 → decimal n ≡ word → ⊥) → number_of word ≡ Err SaysNothing
number_none word h = by (number_of word) refl
  where
    by : (r : Result ℕ TextFault) → number_of word ≡ r → number_of word ≡ Err SaysNothing
    by (Err SaysNothing) e = e
    by (Ok n) e = absurd (let s = number_sound word n e in h n s.0 s.1)

pub no_text : (word : List ℕ) → (IsUtf8 word → ⊥) → number_of word ≡ Err SaysNothing
no_text word h = number_none word (λ n small e. h (subst IsUtf8 e (IsUtf8-from_ascii (decimal n) (IsAscii-decimal n small))))

pub not_parsed : {E : Type 0} (word : List ℕ) (error : E) → ParsesUnsigned 64 10 word (Err error) → number_of word ≡ Err SaysNothing
not_parsed {E} word error p = number_none word (λ n small e. let k : Err error ≡ Ok n = parse-decimal 64 n word (Err error) small small (sym e) p in cc)

pub parsed : (word : List ℕ) (n : ℕ) → ParsesUnsigned {E = ⊤} 64 10 word (Ok n) → decimal n ≡ word → number_of word ≡ Ok n
parsed word n p e = subst (λ (w : List ℕ). number_of w ≡ Ok n) e (number_complete n (let small = p.0.1 in omega (arith, small, p.1)))

pub parsed_other : (word : List ℕ) (n : ℕ) → ParsesUnsigned {E = ⊤} 64 10 word (Ok n) → (decimal n ≡ word → ⊥) → number_of word ≡ Err SaysNothing
parsed_other word n p h =
    number_none word (λ m small e.
    let read : Result ℕ ⊤ = Ok n in
    let k : read ≡ Ok m = parse-decimal 64 m word read small small (sym e) p in
    let same : n ≡ m = cc in h (ap decimal same ∙ e))

all_bytes : (bs : List ℕ) → IsBytes bs → AreBytes bs
all_bytes [] h = All-nil (λ (b : ℕ). b < 256)
all_bytes (b ∷ bs) h = All-cons (λ (x : ℕ). x < 256) b bs (h 0) (all_bytes bs (λ i. h (suc i)))

byte_at : (b : ℕ) (bs : List ℕ) → b < 256 → IsBytes bs → (i : ℕ) → slice_index (b ∷ bs) i < 256
byte_at b bs first others zero = first
byte_at b bs first others (suc i) = others i

each_byte : (bs : List ℕ) → AreBytes bs → IsBytes bs
each_byte [] h = λ i. omega arith
each_byte (b ∷ bs) h = byte_at b bs (All-head (λ (x : ℕ). x < 256) b bs h) (each_byte bs (All-tail (λ (x : ℕ). x < 256) b bs h))

bounded_by : (most : ℕ) (r : Result (List ℕ) FromHexError) (out : List ℕ) → bounded most r ≡ Ok out → (r ≡ Ok out) × (length out ≤ most)
bounded_by most (Ok bytes) out h =
    let c = chosen (nat_le (length bytes) most) bytes out h in
    let l : length bytes ≤ most = leb-true (length bytes) most c.0 in
    (ap Ok c.1, omega (arith, l, ap length c.1))
bounded_by most (Err bad) out h = absurd (cc)

pub bytes_sound : (most : ℕ) (word bytes : List ℕ) → bytes_of most word ≡ Ok bytes → AreBytes bytes × (length bytes ≤ most) × (bytes_text bytes ≡ word)
unfolding bytes_of
bytes_sound most [] bytes h = absurd (cc)
bytes_sound most (mark ∷ digits) bytes h =
    let t = taken (mark == 120 && list_all is_lower digits) (bounded most (decode_of digits)) bytes h in
    let parts = and_parts (mark == 120) (list_all is_lower digits) t.0 in
    let b = bounded_by most (decode_of digits) bytes t.1 in
    let marked : mark ≡ 120 = eqb-true mark 120 parts.0 in
    (all_bytes bytes (decode_of-ok digits bytes b.0).3, b.1, (λ j. sym marked j ∷ lower_text digits bytes b.0 parts.1 j))

bounded_ok : (most : ℕ) (bytes : List ℕ) → length bytes ≤ most → bounded most (Ok bytes) ≡ Ok bytes
bounded_ok most bytes h = let t : nat_le (length bytes) most ≡ true = grind (arith, nat_tests) in ap (λ b. cond b (Ok bytes) (Err SaysNothing)) t

pub bytes_complete : (most : ℕ) (bytes : List ℕ) → AreBytes bytes → length bytes ≤ most → bytes_of most (bytes_text bytes) ≡ Ok bytes
unfolding bytes_of
bytes_complete most bytes are h =
    ap (λ b. cond b (bounded most (decode_of (encode_lower bytes))) (Err SaysNothing)) (lower_all bytes)
    ∙ ap (bounded most) (decode_of-encode_lower bytes (each_byte bytes are)) ∙ bounded_ok most bytes h

value_by : (b : Bool) (word : List ℕ) (value : Option (List ℕ)) → (b ≡ true → codes "-" ≡ word) → cond b (Ok None) (bytes_of 65536 word >>= (λ bytes. Ok (Some bytes))) ≡ Ok value
    → IfSome value (λ bytes. AreBytes bytes × (length bytes ≤ 65536)) × (value_text value ≡ word)
value_by true word None e h = (tt, e refl)
value_by true word (Some value) e h = absurd (cc)
value_by false word None e h = absurd (let m = mapped Some (bytes_of 65536 word) None h in let k : Some m.0 ≡ None = m.2 in cc)
value_by false word (Some value) e h =
    let m = mapped Some (bytes_of 65536 word) (Some value) h in
    let same : m.0 ≡ value = cc (m.2) in
    let s = bytes_sound 65536 word value (m.1 ∙ ap Ok same) in
    ((s.0, s.1), s.2)

pub value_sound : (word : List ℕ) (value : Option (List ℕ)) → value_of word ≡ Ok value
    → IfSome value (λ bytes. AreBytes bytes × (length bytes ≤ 65536)) × (value_text value ≡ word)
unfolding value_of
value_sound word value h = value_by (bytes_eq word (codes "-")) word value (λ e. sym (same_text word (codes "-") e)) h

pub value_complete : (value : Option (List ℕ)) → IfSome value (λ bytes. AreBytes bytes × (length bytes ≤ 65536)) → value_of (value_text value) ≡ Ok value
unfolding value_of
value_complete None h = refl
value_complete (Some bytes) h = ap (λ r. r >>= (λ b. Ok (Some b))) (bytes_complete 65536 bytes h.0 h.1)

found_by : {A : Type 0} (test : A → Bool) (b : Bool) (y x : A) (rest : Option A) → test y ≡ b → (rest ≡ Some x → test x ≡ true) → cond b (Some y) rest ≡ Some x → test x ≡ true
found_by {A} test true y x rest e k h = let same : y ≡ x = cc in subst (λ (z : A). test z ≡ true) same e
found_by test false y x rest e k h = k h

found : {A : Type 0} (test : A → Bool) (xs : List A) (x : A) → find test xs ≡ Some x → test x ≡ true
found test [] x h = absurd (cc)
found test (y ∷ xs) x h = found_by test (test y) y x (find test xs) refl (found test xs x) h

pub cause_sound : (word : List ℕ) (why : Cause) → cause_of word ≡ Ok why → cause_text why ≡ word
unfolding cause_of
cause_sound word why h = same_text (cause_text why) word (found (λ w. bytes_eq (cause_text w) word) causes why (sought _ why h))

pub cause_complete : (why : Cause) → cause_of (cause_text why) ≡ Ok why
unfolding cause_of
cause_complete cause.Unreachable = refl
cause_complete cause.Memory = refl
cause_complete cause.Divide = refl
cause_complete cause.Overflow = refl
cause_complete cause.Table = refl
cause_complete cause.Empty = refl
cause_complete cause.TypeDiffers = refl
cause_complete cause.Stack = refl
cause_complete cause.Pages = refl
cause_complete cause.Fuel = refl
cause_complete cause.Size = refl
cause_complete cause.Unknown = refl

plain_sound : (word : List ℕ) (end : Outcome) → plain_outcome_of word ≡ Ok end → outcome_words end ≡ word ∷ []
unfolding plain_outcome_of
plain_sound word Ended h = ap (λ w. w ∷ []) (same_text (codes "ended") word (found (λ e. bytes_eq (outcome_text e) word) outcomes Ended (sought _ Ended h)))
plain_sound word Waits h = ap (λ w. w ∷ []) (same_text (codes "waits") word (found (λ e. bytes_eq (outcome_text e) word) outcomes Waits (sought _ Waits h)))
plain_sound word Raised h = ap (λ w. w ∷ []) (same_text (codes "raised") word (found (λ e. bytes_eq (outcome_text e) word) outcomes Raised (sought _ Raised h)))
plain_sound word (Trapped why) h =
    absurd (none_traps (bytes_eq (codes "ended") word) (bytes_eq (codes "waits") word) (bytes_eq (codes "raised") word) (sought _ (Trapped why) h))
  where
    none_traps : (a b c : Bool) → cond a (Some Ended) (cond b (Some Waits) (cond c (Some Raised) None)) ≡ Some (Trapped why) → ⊥
    none_traps true b c e = cc
    none_traps false true c e = cc
    none_traps false false true e = cc
    none_traps false false false e = cc

pub outcome_sound : (words : List (List ℕ)) (end : Outcome) → outcome_of words ≡ Ok end → outcome_words end ≡ words
unfolding outcome_of
outcome_sound [] end h = absurd (cc)
outcome_sound (word ∷ []) end h = plain_sound word end h
outcome_sound (word ∷ why ∷ []) end h =
    let t = taken (bytes_eq word (codes "trapped")) (cause_of why >>= (λ cause. Ok (Trapped cause))) end h in
    let m = mapped Trapped (cause_of why) end t.1 in
    let first : word ≡ codes "trapped" = same_text word (codes "trapped") t.0 in
    let second : cause_text m.0 ≡ why = cause_sound why m.0 m.1 in
    subst (λ (o : Outcome). outcome_words o ≡ word ∷ why ∷ []) m.2 (λ j. sym first j ∷ second j ∷ [])
outcome_sound (word ∷ why ∷ more ∷ words) end h = absurd (cc)

pub outcome_complete : (end : Outcome) → outcome_of (outcome_words end) ≡ Ok end
unfolding outcome_of plain_outcome_of
outcome_complete Ended = refl
outcome_complete Waits = refl
outcome_complete Raised = refl
outcome_complete (Trapped why) = ap (λ r. r >>= (λ cause. Ok (Trapped cause))) (cause_complete why)

-- where a name stands is one of the names, and it is that name
pub label_sound : (names : List (List ℕ)) (word : List ℕ) (label : Label) → label_of names word ≡ Ok label → (label.number < length names) × (label_text names label ≡ word)
unfolding label_of
label_sound names word label h =
    let m = mapped (λ place. record { number = place }) (ok_or (place_of word names) SaysNothing) label h in
    let number : m.0 ≡ label.number = ap (λ (l : Label). l.number) m.2 in
    let (within, same, first) = position-Some (pointwise nat_eq word) names m.0 [] (sought _ m.0 m.1) in
    let text : word ≡ slice_index_or names m.0 [] = (bytes_eq-Decides word (slice_index_or names m.0 [])).0 same in
    (omega (arith, within, number), ap (λ (n : ℕ). slice_index_or names n []) (sym number) ∙ sym text)

pub label_complete : (names : List (List ℕ)) (label : Label) → AreNames names → label.number < length names → label_of names (label_text names label) ≡ Ok label
unfolding label_of
label_complete names label are lt = by (place_of (label_text names label) names) refl
  where
    made : Option ℕ → Result Label TextFault
    made o = ok_or o SaysNothing >>= (λ place. Ok (record { number = place }))

    by : (o : Option ℕ) → place_of (label_text names label) names ≡ o → made (place_of (label_text names label) names) ≡ Ok label
    by None e = absurd (
        let past : pointwise nat_eq (label_text names label) (label_text names label) ≡ false = none_passes (pointwise nat_eq (label_text names label)) names e label.number [] lt in
        let k : true ≡ false = sym (equal_text (label_text names label)) ∙ past in cc)
    by (Some place) e =
        let (within, same, first) = position-Some (pointwise nat_eq (label_text names label)) names place [] e in
        let text : label_text names label ≡ slice_index_or names place [] = (bytes_eq-Decides _ _).0 same in
        let one : place ≡ label.number = are.different place label.number (label_text names label) (slice_get-get_or names place [] within ∙ ap Some (sym text)) (slice_get-get_or names label.number [] lt) in
        ap made e ∙ ap (λ (n : ℕ). Ok (record { number = n })) one
