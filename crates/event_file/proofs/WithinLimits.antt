-- What a line says keeps to the limits.
use Rattle.std.proofs.Common.{◌≡◌, ℕ, ◌<◌, ◌≤◌, Bool, true, false, cond, List, [], ◌∷◌, length, Option, None, Some, Result, Ok, Err, codes, refl, ap, subst, arith}
use Rattle.std.specs.Prelude.{IsTrue, ◌&&◌, nat_le, nat_eq}
use Rattle.std.specs.Char.{is_ascii_digit}
use Rattle.std.specs.List.{list_all}
use Rattle.std.specs.Str.Parse.{digits_value}
use Rattle.std.proofs.lemmas.Bool.{and_parts}
use Rattle.std.specs.Str.{bytes_eq}
use Rattle.std.specs.Cmp.Lexicographic.{pointwise}
use borrow.Author.Tests.{leb-true}
use Rattle.hex.specs.Hex.{decode_of}
use Rattle.hex.specs.declared.error.FromHexError.{FromHexError}
use Rattle.label_lattice.specs.Order.{place_of}
use Rattle.label_lattice.specs.declared.label.Label.{Label}
use Rattle.trapeze_io.specs.Answers.{◌>>=◌}
use Rattle.trapeze_io.specs.Names.{is_name}
use Rattle.trapeze_io.specs.Sizes.{IsValue, longest_key, longest_value}
use Rattle.trapeze_io.specs.Words.{words_of}
use Rattle.event_file.specs.Known.{Known}
use Rattle.event_file.specs.Lines.{is_too_long, is_remark}
use Rattle.event_file.specs.Spelling.{found, bounded, bytes_of, label_of, client_of, function_of, id_of, value_of, count_of, counted, present}
use Rattle.event_file.specs.Script.{put_of, ask_of, turn_of, alone, entry_of, line_of, said, IsFit, IsWithin}
use Rattle.event_file.specs.declared.entry.Entry.{Entry}
use Rattle.event_file.specs.declared.entry.Entry.TheVariants.{One, Turns}
use Rattle.event_file.specs.declared.entry.Event.{Event}
use Rattle.event_file.specs.declared.entry.Event.TheVariants.{Put, Ask, Turn}
use Rattle.event_file.specs.declared.fault.LineFault.{LineFault}
use Rattle.event_file.specs.declared.fault.LineFault.TheVariants.{LineTooLong, Word, UnknownLabel, UnknownClient, UnknownFunction, BadId, BadHex, TooBig, BadNumber}
use Rattle.trapeze_io.proofs.Splits as split

-- the first step of steps that gave something gave something
bound_ok : {A B : Type 0} (r : Result A LineFault) (f : A → Result B LineFault) (y : B)
    → (r >>= f) ≡ Ok y → (x : A) × (r ≡ Ok x) × (f x ≡ Ok y)
bound_ok (Ok x) f y h = (x, refl, h)
bound_ok (Err fault) f y h = absurd (cc)

-- a choice that gave something
pub chosen : {A : Type 0} (b : Bool) (r : Result A LineFault) (fault : LineFault) (out : A) → cond b r (Err fault) ≡ Ok out → (b ≡ true) × (r ≡ Ok out)
chosen true r fault out h = (refl, h)
chosen false r fault out h = absurd (cc)

-- one of two choices gave something
chosen_of : {A : Type 0} {Q : Type 0} (b : Bool) (r s : Result A LineFault) (out : A) → cond b r s ≡ Ok out → (r ≡ Ok out → Q) → (s ≡ Ok out → Q) → Q
chosen_of true r s out h here there = here h
chosen_of false r s out h here there = there h

bounded_within : (most : ℕ) (r : Result (List ℕ) FromHexError) (out : List ℕ) → bounded most r ≡ Ok out → length out ≤ most
bounded_within most (Ok bytes) out h =
    let b = chosen (nat_le (length bytes) most) (Ok bytes) TooBig out h in
    let l : length bytes ≤ most = leb-true (length bytes) most b.0 in
    let e : bytes ≡ out = cc (b.1) in
    omega (arith, ap length e)
bounded_within most (Err bad) out h = absurd (cc)

bytes_within : (most : ℕ) (word out : List ℕ) → bytes_of most word ≡ Ok out → length out ≤ most
unfolding bytes_of
bytes_within most [] out h = absurd (cc)
bytes_within most (mark ∷ digits) out h =
    bounded_within most (decode_of digits) out (chosen (nat_eq mark 120) (bounded most (decode_of digits)) BadHex out h).1

present_within : (r : Result (List ℕ) LineFault) (out : Option (List ℕ))
    → ((bytes : List ℕ) → r ≡ Ok bytes → length bytes ≤ longest_value) → present r ≡ Ok out
    → IsValue out
present_within (Ok bytes) None k h = omega arith
present_within (Ok bytes) (Some out) k h = let e : bytes ≡ out = cc in let l = k bytes refl in omega (arith, ap length e)
present_within (Err fault) None k h = omega arith
present_within (Err fault) (Some out) k h = absurd (cc)

value_by : (b : Bool) (r : Result (Option (List ℕ)) LineFault) (out : Option (List ℕ))
    → (r ≡ Ok out → IsValue out) → cond b (Ok None) r ≡ Ok out
    → IsValue out
value_by true r None k h = omega arith
value_by true r (Some out) k h = absurd (cc)
value_by false r out k h = k h

value_within : (word : List ℕ) (out : Option (List ℕ)) → value_of word ≡ Ok out → IsValue out
unfolding value_of
value_within word out h =
    value_by (bytes_eq word (codes "-")) (present (bytes_of longest_value word)) out
    (present_within (bytes_of longest_value word) out (λ bytes e. bytes_within longest_value word bytes e)) h

-- a place that was found
found_place : (missing : LineFault) (o : Option ℕ) (place : ℕ) → found missing o ≡ Ok place → o ≡ Some place
found_place missing None place h = absurd (cc)
found_place missing (Some other) place h = let e : other ≡ place = cc in ap Some e

label_within : (labels : List (List ℕ)) (word : List ℕ) (label : Label) → label_of labels word ≡ Ok label → label.number < length labels
unfolding label_of
label_within labels word label h =
    let p = bound_ok (found UnknownLabel (place_of word labels)) _ label h in
    let at = found_place UnknownLabel (place_of word labels) p.0 p.1 in
    let is : record { number = p.0 } ≡ label = cc (p.2) in
    let same : p.0 ≡ label.number = ap (λ (l : Label). l.number) is in
    let within = (split.found (pointwise nat_eq word) labels p.0 at).0 in
    omega (arith, within, same)

client_within : (clients : List (List ℕ)) (word : List ℕ) (client : ℕ) → client_of clients word ≡ Ok client → client < length clients
unfolding client_of
client_within clients word client h = (split.found (pointwise nat_eq word) clients client (found_place UnknownClient (place_of word clients) client h)).0

function_within : (functions : List (List ℕ)) (word : List ℕ) (function : ℕ) → function_of functions word ≡ Ok function → function < length functions
unfolding function_of
function_within functions word function h = (split.found (pointwise nat_eq word) functions function (found_place UnknownFunction (place_of word functions) function h)).0

id_within : (word id : List ℕ) → id_of word ≡ Ok id → IsTrue (is_name id)
unfolding id_of
id_within word id h =
    let c = chosen (is_name word) (Ok word) BadId id h in
    let e : word ≡ id = cc (c.1) in
    subst (λ (w : List ℕ). is_name w ≡ true) e c.0

count_within : (word : List ℕ) (count : ℕ) → count_of word ≡ Ok count → (1 ≤ count) × (count ≤ 1000000)
unfolding count_of
count_within word count h =
    let n = digits_value 10 word in
    let c = chosen (nat_le (length word) 7 && list_all is_ascii_digit word) (counted n) BadNumber count h in
    let d = chosen (nat_le 1 n && nat_le n 1000000) (Ok n) BadNumber count c.1 in
    let parts = and_parts (nat_le 1 n) (nat_le n 1000000) d.0 in
    let e : n ≡ count = cc (d.1) in
    let some : 1 ≤ n = leb-true 1 n parts.0 in
    let few : n ≤ 1000000 = leb-true n 1000000 parts.1 in
    (omega (arith, some, e), omega (arith, few, e))

put_within : (known : Known) (words : List (List ℕ)) (event : Event) → put_of known words ≡ Ok event → IsFit known event
unfolding put_of
put_within known [] event h = absurd (cc)
put_within known (a ∷ []) event h = absurd (cc)
put_within known (a ∷ b ∷ []) event h = absurd (cc)
put_within known (a ∷ b ∷ d ∷ e ∷ more) event h = absurd (cc)
put_within known (label ∷ key ∷ value ∷ []) event h =
    let l = bound_ok (label_of known.labels label) _ event h in
    let k = bound_ok (bytes_of longest_key key) _ event l.2 in
    let v = bound_ok (value_of value) _ event k.2 in
    let is : Put l.0 k.0 v.0 ≡ event = cc (v.2) in
    subst (λ (e : Event). IsFit known e) is (label_within known.labels label l.0 l.1, bytes_within longest_key key k.0 k.1, value_within value v.0 v.1)

ask_within : (known : Known) (words : List (List ℕ)) (event : Event) → ask_of known words ≡ Ok event → IsFit known event
unfolding ask_of
ask_within known [] event h = absurd (cc)
ask_within known (a ∷ []) event h = absurd (cc)
ask_within known (a ∷ b ∷ []) event h = absurd (cc)
ask_within known (a ∷ b ∷ d ∷ []) event h = absurd (cc)
ask_within known (a ∷ b ∷ d ∷ e ∷ []) event h = absurd (cc)
ask_within known (a ∷ b ∷ d ∷ e ∷ f ∷ g ∷ more) event h = absurd (cc)
ask_within known (label ∷ client ∷ function ∷ id ∷ body ∷ []) event h =
    let l = bound_ok (label_of known.labels label) _ event h in
    let c = bound_ok (client_of known.clients client) _ event l.2 in
    let f = bound_ok (function_of known.functions function) _ event c.2 in
    let i = bound_ok (id_of id) _ event f.2 in
    let b = bound_ok (bytes_of longest_value body) _ event i.2 in
    let is : Ask l.0 c.0 f.0 i.0 b.0 ≡ event = cc (b.2) in
    subst (λ (e : Event). IsFit known e) is (
      label_within known.labels label l.0 l.1,
      client_within known.clients client c.0 c.1,
      function_within known.functions function f.0 f.1,
      id_within id i.0 i.1,
      bytes_within longest_value body b.0 b.1,
    )

turn_within : (known : Known) (words : List (List ℕ)) (entry : Entry) → turn_of known words ≡ Ok entry → IsWithin known entry
unfolding turn_of
turn_within known [] entry h = absurd (cc)
turn_within known (label ∷ []) entry h =
    let l = bound_ok (label_of known.labels label) _ entry h in
    let is : One (Turn l.0) ≡ entry = cc (l.2) in
    subst (λ (e : Entry). IsWithin known e) is (label_within known.labels label l.0 l.1)
turn_within known (label ∷ count ∷ []) entry h =
    let l = bound_ok (label_of known.labels label) _ entry h in
    let c = bound_ok (count_of count) _ entry l.2 in
    let is : Turns l.0 c.0 ≡ entry = cc (c.2) in
    let many = count_within count c.0 c.1 in
    subst (λ (e : Entry). IsWithin known e) is (label_within known.labels label l.0 l.1, many.0, many.1)
turn_within known (a ∷ b ∷ d ∷ more) entry h = absurd (cc)

alone_within : (known : Known) (event : Result Event LineFault) (entry : Entry) → ((e : Event) → event ≡ Ok e → IsFit known e) → alone event ≡ Ok entry → IsWithin known entry
alone_within known event entry fit h =
    let e = bound_ok event (λ (e : Event). Ok (One e)) entry h in
    let is : One e.0 ≡ entry = cc (e.2) in
    subst (λ (x : Entry). IsWithin known x) is (fit e.0 e.1)

entry_within : (known : Known) (words : List (List ℕ)) (entry : Entry)
    → entry_of known words ≡ Ok entry → IsWithin known entry
unfolding entry_of
entry_within known [] entry h = absurd (cc)
entry_within known (first ∷ others) entry h =
    chosen_of (bytes_eq first (codes "put")) _ _ entry h (alone_within known (put_of known others) entry (put_within known others)) (λ h1.
    chosen_of (bytes_eq first (codes "ask")) _ _ entry h1 (alone_within known (ask_of known others) entry (ask_within known others)) (λ h2.
    chosen_of (bytes_eq first (codes "turn")) _ _ entry h2 (turn_within known others entry) (λ h3.
    absurd (let k : Err Word ≡ Ok entry = h3 in cc))))

said_entry : (r : Result Entry LineFault) (entry : Entry) → said r ≡ Ok (Some entry) → r ≡ Ok entry
said_entry (Ok other) entry h = cc
said_entry (Err fault) entry h = absurd (cc)

line_by : (long remark : Bool) (r : Result (Option Entry) LineFault) (entry : Entry)
    → cond long (Err LineTooLong) (cond remark (Ok None) r) ≡ Ok (Some entry) → r ≡ Ok (Some entry)
line_by true remark r entry h = absurd (cc)
line_by false true r entry h = absurd (cc)
line_by false false r entry h = h

-- the entry of a line keeps to the limits
pub line_within : (known : Known) (line : List ℕ) (entry : Entry)
    → line_of known line ≡ Ok (Some entry) → IsWithin known entry
unfolding line_of
line_within known line entry h =
    let r = line_by (is_too_long line) (is_remark line) _ entry h in
    entry_within known (words_of line) entry
    (said_entry (entry_of known (words_of line)) entry r)

-- an empty line says nothing
pub empty_line : (known : Known) → line_of known [] ≡ Ok None
unfolding line_of
empty_line known = refl

long_by : (b : Bool) (r : Result (Option Entry) LineFault) → b ≡ true → cond b (Err LineTooLong) r ≡ Err LineTooLong
long_by true r h = refl
long_by false r h = absurd (cc)

-- a line that is too long is a fault
pub long_line : (known : Known) (line : List ℕ) → is_too_long line ≡ true
    → line_of known line ≡ Err LineTooLong
unfolding line_of
long_line known line h = long_by (is_too_long line) _ h
