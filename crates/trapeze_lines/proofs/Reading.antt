-- Words are read as the line that has these words, and only so.
use Rattle.std.proofs.Common.{◌≡◌, ℕ, ◌<◌, ◌≤◌, ◌^◌, Bool, true, false, cond, List, [], ◌∷◌, Option, Result, Ok, Err, refl, sym, ap, subst, ◌∙◌, length, inl, inr, arith}
use Rattle.std.specs.Prelude.{IfSome, codes, decimal, slice_index_or, if◌then◌else◌}
use Rattle.std.specs.List.{join_with_byte}
use Rattle.std.specs.Str.{bytes_eq}
use Rattle.std.proofs.lemmas.List.Elements.{All-cons, All-nil}
use Rattle.std.proofs.lemmas.Bool.{cases_lt}
use Rattle.std.proofs.lemmas.List.Splits.{join_with_byte-slice_split}
use Rattle.std.proofs.lemmas.Option.{slice_get-get_or}
use Rattle.std.proofs.lemmas.List.{append_cancel_right}
use Rattle.std.proofs.Math.ListN.{get_or-eq_default}
use Rattle.trapeze_io.specs.Answers.{◌>>=◌}
use Rattle.trapeze_io.specs.Words.{words_of}
use Rattle.label_lattice.specs.Sound.{AreNames}
use Rattle.label_lattice.specs.declared.label.Label.{Label}
use Rattle.trapeze_lines.specs.declared.line.Line.{Line}
use Rattle.trapeze_lines.specs.declared.line.Kind.{Kind}
use Rattle.trapeze_lines.specs.declared.line.Kind.TheVariants.{Reply, Turn, Idle, Dropped, Full, Facet, Write, Read, Send, Answer, Start}
use Rattle.trapeze_lines.specs.Lines.{IsName, IsContent, IsKeyBytes, IsFrom, IsWithin, IsLine}
use Rattle.trapeze_lines.specs.Texts.{bytes_text, value_text, id_text, label_text, kind_word, other_words, line_words, bare_text, line_text}
use Rattle.trapeze_lines.specs.Reading.{TextFault, SaysNothing, name_of, id_of, label_of, number_of, bytes_of, value_of, outcome_of, reply_of, activation_of, facet_of, key_of, message_of, idle_of, turn_of, start_of, kind_of, line_of}
use Rattle.trapeze_lines.proofs.Spellings.{bound, mapped, same_text, name_sound, name_complete, id_sound, id_complete, number_sound, number_complete, bytes_sound, bytes_complete, value_sound, value_complete, outcome_sound, outcome_complete, label_sound, label_complete}
use Rattle.trapeze_lines.proofs.Spaces.{IsNoSpace, IsWord, split_joined, name_word, kind_is_word, others_are_words}

-- what was read of a line after its label
record Tells (names : List (List ℕ)) (first : List ℕ) (words : List (List ℕ)) (kind : Kind) : Type 0 where
  pub from : IsFrom (length names) kind
  pub within : IsWithin kind
  pub word : kind_word kind ≡ first
  pub others : other_words names kind ≡ words

-- a choice by the first word
choose : {Q : Type 0} (word this : List ℕ) (f g : Result Kind TextFault) (k : Kind) → (if bytes_eq word this then f else g) ≡ Ok k
    → (this ≡ word → f ≡ Ok k → Q) → (g ≡ Ok k → Q) → Q
choose {Q} word this f g k h here there = by (bytes_eq word this) (λ e. sym (same_text word this e)) h
  where
    by : (b : Bool) → (b ≡ true → this ≡ word) → cond b f g ≡ Ok k → Q
    by true e i = here (e refl) i
    by false e i = there i

reply_sound : (words : List (List ℕ)) (r : List ℕ × List ℕ × List ℕ) → reply_of words ≡ Ok r
    → IsName r.0 × IsName r.1 × IsContent r.2 × (r.0 ∷ r.1 ∷ bytes_text r.2 ∷ [] ≡ words)
unfolding reply_of
reply_sound [] r h = absurd (cc)
reply_sound (a ∷ []) r h = absurd (cc)
reply_sound (a ∷ b ∷ []) r h = absurd (cc)
reply_sound (a ∷ b ∷ c ∷ []) r h =
    let p = bound (name_of a) _ r h in
    let q = bound (name_of b) _ r p.2 in
    let s = bound (bytes_of 65536 c) _ r q.2 in
    let client = name_sound a p.0 p.1 in
    let id = name_sound b q.0 q.1 in
    let bytes = bytes_sound 65536 c s.0 s.1 in
    let same : (p.0, q.0, s.0) ≡ r = cc (s.2) in
    subst (λ (x : List ℕ × List ℕ × List ℕ). IsName x.0 × IsName x.1 × IsContent x.2 × (x.0 ∷ x.1 ∷ bytes_text x.2 ∷ [] ≡ a ∷ b ∷ c ∷ [])) same
    (client.0, id.0, (bytes.0, bytes.1), (λ j. client.1 j ∷ id.1 j ∷ bytes.2 j ∷ []))
reply_sound (a ∷ b ∷ c ∷ d ∷ e) r h = absurd (cc)

activation_sound : (words : List (List ℕ)) (r : List ℕ × Option (List ℕ)) → activation_of words ≡ Ok r
    → IsName r.0 × IfSome r.1 IsName × (r.0 ∷ id_text r.1 ∷ [] ≡ words)
unfolding activation_of
activation_sound [] r h = absurd (cc)
activation_sound (a ∷ []) r h = absurd (cc)
activation_sound (a ∷ b ∷ []) r h =
    let p = bound (name_of a) _ r h in
    let q = bound (id_of b) _ r p.2 in
    let function = name_sound a p.0 p.1 in
    let id = id_sound b q.0 q.1 in
    let same : (p.0, q.0) ≡ r = cc (q.2) in
    subst (λ (x : List ℕ × Option (List ℕ)). IsName x.0 × IfSome x.1 IsName × (x.0 ∷ id_text x.1 ∷ [] ≡ a ∷ b ∷ [])) same
    (function.0, id.0, (λ j. function.1 j ∷ id.1 j ∷ []))
activation_sound (a ∷ b ∷ c ∷ d) r h = absurd (cc)

facet_sound : (words : List (List ℕ)) (r : List ℕ × Option (List ℕ)) → facet_of words ≡ Ok r
    → IsKeyBytes r.0 × IfSome r.1 IsContent × (bytes_text r.0 ∷ value_text r.1 ∷ [] ≡ words)
unfolding facet_of
facet_sound [] r h = absurd (cc)
facet_sound (a ∷ []) r h = absurd (cc)
facet_sound (a ∷ b ∷ []) r h =
    let p = bound (bytes_of 1024 a) _ r h in
    let q = bound (value_of b) _ r p.2 in
    let key = bytes_sound 1024 a p.0 p.1 in
    let value = value_sound b q.0 q.1 in
    let same : (p.0, q.0) ≡ r = cc (q.2) in
    subst (λ (x : List ℕ × Option (List ℕ)). IsKeyBytes x.0 × IfSome x.1 IsContent × (bytes_text x.0 ∷ value_text x.1 ∷ [] ≡ a ∷ b ∷ [])) same
    ((key.0, key.1), value.0, (λ j. key.2 j ∷ value.1 j ∷ []))
facet_sound (a ∷ b ∷ c ∷ d) r h = absurd (cc)

key_sound : (words : List (List ℕ)) (key : List ℕ) → key_of words ≡ Ok key → IsKeyBytes key × (bytes_text key ∷ [] ≡ words)
unfolding key_of
key_sound [] key h = absurd (cc)
key_sound (a ∷ []) key h = let s = bytes_sound 1024 a key h in ((s.0, s.1), ap (λ w. w ∷ []) s.2)
key_sound (a ∷ b ∷ c) key h = absurd (cc)

message_sound : (words : List (List ℕ)) (r : List ℕ × List ℕ) → message_of words ≡ Ok r
    → IsName r.0 × IsContent r.1 × (r.0 ∷ bytes_text r.1 ∷ [] ≡ words)
unfolding message_of
message_sound [] r h = absurd (cc)
message_sound (a ∷ []) r h = absurd (cc)
message_sound (a ∷ b ∷ []) r h =
    let p = bound (name_of a) _ r h in
    let q = bound (bytes_of 65536 b) _ r p.2 in
    let channel = name_sound a p.0 p.1 in
    let bytes = bytes_sound 65536 b q.0 q.1 in
    let same : (p.0, q.0) ≡ r = cc (q.2) in
    subst (λ (x : List ℕ × List ℕ). IsName x.0 × IsContent x.1 × (x.0 ∷ bytes_text x.1 ∷ [] ≡ a ∷ b ∷ [])) same
    (channel.0, (bytes.0, bytes.1), (λ j. channel.1 j ∷ bytes.2 j ∷ []))
message_sound (a ∷ b ∷ c ∷ d) r h = absurd (cc)

reply_complete : (client id bytes : List ℕ) → IsName client → IsName id → IsContent bytes → reply_of (client ∷ id ∷ bytes_text bytes ∷ []) ≡ Ok (client, id, bytes)
unfolding reply_of
reply_complete client id bytes h k l = rw (name_complete client h, name_complete id k, bytes_complete 65536 bytes l.0 l.1) refl

activation_complete : (function : List ℕ) (id : Option (List ℕ)) → IsName function → IfSome id IsName → activation_of (function ∷ id_text id ∷ []) ≡ Ok (function, id)
unfolding activation_of
activation_complete function id h k = rw (name_complete function h, id_complete id k) refl

facet_complete : (key : List ℕ) (value : Option (List ℕ)) → IsKeyBytes key → IfSome value IsContent → facet_of (bytes_text key ∷ value_text value ∷ []) ≡ Ok (key, value)
unfolding facet_of
facet_complete key value h k = rw (bytes_complete 1024 key h.0 h.1, value_complete value k) refl

message_complete : (channel bytes : List ℕ) → IsName channel → IsContent bytes → message_of (channel ∷ bytes_text bytes ∷ []) ≡ Ok (channel, bytes)
unfolding message_of
message_complete channel bytes h k = rw (name_complete channel h, bytes_complete 65536 bytes k.0 k.1) refl

idle_sound : (words : List (List ℕ)) (n : ℕ) → idle_of words ≡ Ok n → (n < 2 ^ 64) × (decimal n ∷ [] ≡ words)
unfolding idle_of
idle_sound [] n h = absurd (cc)
idle_sound (a ∷ []) n h = let s = number_sound a n h in (s.0, ap (λ w. w ∷ []) s.1)
idle_sound (a ∷ b ∷ c) n h = absurd (cc)

turn_tells : (names words : List (List ℕ)) (kind : Kind) → turn_of words ≡ Ok kind → Tells names (codes "turn") words kind
unfolding turn_of
turn_tells names [] kind h = absurd (cc)
turn_tells names (a ∷ []) kind h = absurd (cc)
turn_tells names (a ∷ b ∷ []) kind h = absurd (cc)
turn_tells names (a ∷ b ∷ c ∷ d) kind h =
    let p = bound (number_of a) _ kind h in
    let q = bound (name_of b) _ kind p.2 in
    let r = bound (id_of c) _ kind q.2 in
    let s = bound (outcome_of d) _ kind r.2 in
    let number = number_sound a p.0 p.1 in
    let function = name_sound b q.0 q.1 in
    let id = id_sound c r.0 r.1 in
    let outcome = outcome_sound d s.0 s.1 in
    let same : Turn p.0 q.0 r.0 s.0 ≡ kind = cc (s.2) in
    subst (λ (k : Kind). Tells names (codes "turn") (a ∷ b ∷ c ∷ d) k) same
    (record { from = tt; within = (number.0, function.0, id.0); word = refl; others = λ j. number.1 j ∷ function.1 j ∷ id.1 j ∷ outcome j })

start_tells : (names words : List (List ℕ)) (kind : Kind) → start_of names words ≡ Ok kind → Tells names (codes "start") words kind
unfolding start_of
start_tells names [] kind h = absurd (cc)
start_tells names (a ∷ words) kind h =
    let p = bound (label_of names a) _ kind h in
    let q = bound (activation_of words) _ kind p.2 in
    let from = label_sound names a p.0 p.1 in
    let runs = activation_sound words q.0 q.1 in
    let same : Start p.0 q.0.0 q.0.1 ≡ kind = cc (q.2) in
    subst (λ (k : Kind). Tells names (codes "start") (a ∷ words) k) same
    (record { from = from.0; within = (runs.0, runs.1); word = refl; others = λ j. from.1 j ∷ runs.2 j })

reply_tells : (names words : List (List ℕ)) (kind : Kind) → (reply_of words >>= (λ r. Ok (Reply r.0 r.1 r.2))) ≡ Ok kind → Tells names (codes "reply") words kind
reply_tells names words kind h =
    let p = bound (reply_of words) _ kind h in
    let s = reply_sound words p.0 p.1 in
    let same : Reply p.0.0 p.0.1 p.0.2 ≡ kind = cc (p.2) in
    subst (λ (k : Kind). Tells names (codes "reply") words k) same (record { from = tt; within = (s.0, s.1, s.2); word = refl; others = s.3 })

answer_tells : (names words : List (List ℕ)) (kind : Kind) → (reply_of words >>= (λ r. Ok (Answer r.0 r.1 r.2))) ≡ Ok kind → Tells names (codes "answer") words kind
answer_tells names words kind h =
    let p = bound (reply_of words) _ kind h in
    let s = reply_sound words p.0 p.1 in
    let same : Answer p.0.0 p.0.1 p.0.2 ≡ kind = cc (p.2) in
    subst (λ (k : Kind). Tells names (codes "answer") words k) same (record { from = tt; within = (s.0, s.1, s.2); word = refl; others = s.3 })

idle_tells : (names words : List (List ℕ)) (kind : Kind) → (idle_of words >>= (λ n. Ok (Idle n))) ≡ Ok kind → Tells names (codes "idle") words kind
idle_tells names words kind h =
    let p = mapped Idle (idle_of words) kind h in
    let s = idle_sound words p.0 p.1 in
    subst (λ (k : Kind). Tells names (codes "idle") words k) p.2 (record { from = tt; within = s.0; word = refl; others = s.1 })

drop_tells : (names words : List (List ℕ)) (kind : Kind) → (activation_of words >>= (λ a. Ok (Dropped a.0 a.1))) ≡ Ok kind → Tells names (codes "drop") words kind
drop_tells names words kind h =
    let p = bound (activation_of words) _ kind h in
    let s = activation_sound words p.0 p.1 in
    let same : Dropped p.0.0 p.0.1 ≡ kind = cc (p.2) in
    subst (λ (k : Kind). Tells names (codes "drop") words k) same (record { from = tt; within = (s.0, s.1); word = refl; others = s.2 })

full_tells : (names words : List (List ℕ)) (kind : Kind) → (key_of words >>= (λ k. Ok (Full k))) ≡ Ok kind → Tells names (codes "full") words kind
full_tells names words kind h =
    let p = mapped Full (key_of words) kind h in
    let s = key_sound words p.0 p.1 in
    subst (λ (k : Kind). Tells names (codes "full") words k) p.2 (record { from = tt; within = s.0; word = refl; others = s.1 })

facet_tells : (names words : List (List ℕ)) (kind : Kind) → (facet_of words >>= (λ f. Ok (Facet f.0 f.1))) ≡ Ok kind → Tells names (codes "facet") words kind
facet_tells names words kind h =
    let p = bound (facet_of words) _ kind h in
    let s = facet_sound words p.0 p.1 in
    let same : Facet p.0.0 p.0.1 ≡ kind = cc (p.2) in
    subst (λ (k : Kind). Tells names (codes "facet") words k) same (record { from = tt; within = (s.0, s.1); word = refl; others = s.2 })

write_tells : (names words : List (List ℕ)) (kind : Kind) → (facet_of words >>= (λ f. Ok (Write f.0 f.1))) ≡ Ok kind → Tells names (codes "write") words kind
write_tells names words kind h =
    let p = bound (facet_of words) _ kind h in
    let s = facet_sound words p.0 p.1 in
    let same : Write p.0.0 p.0.1 ≡ kind = cc (p.2) in
    subst (λ (k : Kind). Tells names (codes "write") words k) same (record { from = tt; within = (s.0, s.1); word = refl; others = s.2 })

read_tells : (names words : List (List ℕ)) (kind : Kind) → (facet_of words >>= (λ f. Ok (Read f.0 f.1))) ≡ Ok kind → Tells names (codes "read") words kind
read_tells names words kind h =
    let p = bound (facet_of words) _ kind h in
    let s = facet_sound words p.0 p.1 in
    let same : Read p.0.0 p.0.1 ≡ kind = cc (p.2) in
    subst (λ (k : Kind). Tells names (codes "read") words k) same (record { from = tt; within = (s.0, s.1); word = refl; others = s.2 })

send_tells : (names words : List (List ℕ)) (kind : Kind) → (message_of words >>= (λ m. Ok (Send m.0 m.1))) ≡ Ok kind → Tells names (codes "send") words kind
send_tells names words kind h =
    let p = bound (message_of words) _ kind h in
    let s = message_sound words p.0 p.1 in
    let same : Send p.0.0 p.0.1 ≡ kind = cc (p.2) in
    subst (λ (k : Kind). Tells names (codes "send") words k) same (record { from = tt; within = (s.0, s.1); word = refl; others = s.2 })

at_word : (names words : List (List ℕ)) (kind : Kind) (this first : List ℕ) → this ≡ first → Tells names this words kind → Tells names first words kind
at_word names words kind this first e t = subst (λ (w : List ℕ). Tells names w words kind) e t

kind_sound : (names : List (List ℕ)) (first : List ℕ) (words : List (List ℕ)) (kind : Kind) → kind_of names first words ≡ Ok kind → Tells names first words kind
unfolding kind_of
kind_sound names first words kind h =
    choose first (codes "reply") _ _ kind h (λ e i. at_word names words kind (codes "reply") first e (reply_tells names words kind i)) (λ h1.
    choose first (codes "turn") _ _ kind h1 (λ e i. at_word names words kind (codes "turn") first e (turn_tells names words kind i)) (λ h2.
    choose first (codes "idle") _ _ kind h2 (λ e i. at_word names words kind (codes "idle") first e (idle_tells names words kind i)) (λ h3.
    choose first (codes "drop") _ _ kind h3 (λ e i. at_word names words kind (codes "drop") first e (drop_tells names words kind i)) (λ h4.
    choose first (codes "full") _ _ kind h4 (λ e i. at_word names words kind (codes "full") first e (full_tells names words kind i)) (λ h5.
    choose first (codes "facet") _ _ kind h5 (λ e i. at_word names words kind (codes "facet") first e (facet_tells names words kind i)) (λ h6.
    choose first (codes "write") _ _ kind h6 (λ e i. at_word names words kind (codes "write") first e (write_tells names words kind i)) (λ h7.
    choose first (codes "read") _ _ kind h7 (λ e i. at_word names words kind (codes "read") first e (read_tells names words kind i)) (λ h8.
    choose first (codes "send") _ _ kind h8 (λ e i. at_word names words kind (codes "send") first e (send_tells names words kind i)) (λ h9.
    choose first (codes "answer") _ _ kind h9 (λ e i. at_word names words kind (codes "answer") first e (answer_tells names words kind i)) (λ h10.
    choose first (codes "start") _ _ kind h10 (λ e i. at_word names words kind (codes "start") first e (start_tells names words kind i)) (λ h11.
    absurd (let k : Err SaysNothing ≡ Ok kind = h11 in cc))))))))))))

kind_complete : (names : List (List ℕ)) → AreNames names → (kind : Kind) → IsFrom (length names) kind → IsWithin kind → kind_of names (kind_word kind) (other_words names kind) ≡ Ok kind
unfolding kind_of turn_of start_of idle_of key_of
kind_complete names are (Reply client id bytes) f h = ap (λ o. o >>= (λ r. Ok (Reply r.0 r.1 r.2))) (reply_complete client id bytes h.0 h.1 h.2)
kind_complete names are (Turn number function id outcome) f h = rw (number_complete number h.0, name_complete function h.1, id_complete id h.2, outcome_complete outcome) refl
kind_complete names are (Idle number) f h = ap (λ o. o >>= (λ n. Ok (Idle n))) (number_complete number h)
kind_complete names are (Dropped function id) f h = ap (λ o. o >>= (λ a. Ok (Dropped a.0 a.1))) (activation_complete function id h.0 h.1)
kind_complete names are (Full key) f h = ap (λ o. o >>= (λ k. Ok (Full k))) (bytes_complete 1024 key h.0 h.1)
kind_complete names are (Facet key value) f h = ap (λ o. o >>= (λ x. Ok (Facet x.0 x.1))) (facet_complete key value h.0 h.1)
kind_complete names are (Write key value) f h = ap (λ o. o >>= (λ x. Ok (Write x.0 x.1))) (facet_complete key value h.0 h.1)
kind_complete names are (Read key value) f h = ap (λ o. o >>= (λ x. Ok (Read x.0 x.1))) (facet_complete key value h.0 h.1)
kind_complete names are (Send channel bytes) f h = ap (λ o. o >>= (λ m. Ok (Send m.0 m.1))) (message_complete channel bytes h.0 h.1)
kind_complete names are (Answer client id bytes) f h = ap (λ o. o >>= (λ r. Ok (Answer r.0 r.1 r.2))) (reply_complete client id bytes h.0 h.1 h.2)
kind_complete names are (Start from function id) f h =
    ap (λ o. o >>= (λ l. activation_of (function ∷ id_text id ∷ []) >>= (λ a. Ok (Start l a.0 a.1)))) (label_complete names from are f)
    ∙ ap (λ o. o >>= (λ a. Ok (Start from a.0 a.1))) (activation_complete function id h.0 h.1)

-- a line that was read has these words, and lies within its limits
line_sound : (names words : List (List ℕ)) (line : Line) → line_of names words ≡ Ok line → IsLine (length names) line × (line_words names line ≡ words)
unfolding line_of
line_sound names [] line h = absurd (cc)
line_sound names (first ∷ []) line h = absurd (cc)
line_sound names (first ∷ label ∷ words) line h =
    let p = bound (label_of names label) _ line h in
    let q = bound (kind_of names first words) _ line p.2 in
    let at = label_sound names label p.0 p.1 in
    let says = kind_sound names first words q.0 q.1 in
    let made : Line = record { label = p.0; kind = q.0 } in
    let same : made ≡ line = cc (q.2) in
    subst (λ (l : Line). IsLine (length names) l × (line_words names l ≡ first ∷ label ∷ words)) same
    (record { labelled = record { at = at.0; from = says.from }; within = says.within }, (λ j. says.word j ∷ at.1 j ∷ says.others j))

-- the words of a line are read as that line
line_complete : (names : List (List ℕ)) → AreNames names → (line : Line) → IsLine (length names) line → line_of names (line_words names line) ≡ Ok line
unfolding line_of
line_complete names are line is =
    ap (λ o. o >>= (λ l. kind_of names (kind_word line.kind) (other_words names line.kind) >>= (λ k. Ok (record { label = l; kind = k })))) (label_complete names line.label are is.labelled.at)
    ∙ ap (λ o. o >>= (λ k. Ok (record { label = line.label; kind = k }))) (kind_complete names are line.kind is.labelled.from is.within)

name_at : (names : List (List ℕ)) → AreNames names → (label : Label) → IsWord (label_text names label)
name_at names are label = elim (cases_lt label.number (length names)) [
  | inl within ↦ name_word (slice_index_or names label.number []) (are.named label.number (slice_index_or names label.number []) (slice_get-get_or names label.number [] within))
  | inr past ↦ subst IsWord (sym (get_or-eq_default names [] (let far : length names ≤ label.number = omega arith in far))) (All-nil IsNoSpace)
]

-- the text of a line splits into its words
words_again : (names : List (List ℕ)) → AreNames names → (line : Line) → IsWithin line.kind → words_of (bare_text names line) ≡ line_words names line
words_again names are line h =
    split_joined (kind_word line.kind) (label_text names line.label ∷ other_words names line.kind) (kind_is_word line.kind)
    (All-cons IsWord (label_text names line.label) (other_words names line.kind) (name_at names are line.label) (others_are_words names (name_at names are) line.kind h))

-- a line that was read has the text
pub text_sound : (names : List (List ℕ)) (bytes : List ℕ) (line : Line) → line_of names (words_of bytes) ≡ Ok line → IsLine (length names) line × (bare_text names line ≡ bytes)
text_sound names bytes line h =
    let s = line_sound names (words_of bytes) line h in
    (s.0, ap (join_with_byte 32) s.1 ∙ join_with_byte-slice_split 32 bytes)

-- the text of a line is read as that line
pub text_complete : (names : List (List ℕ)) → AreNames names → (line : Line) → IsLine (length names) line → line_of names (words_of (bare_text names line)) ≡ Ok line
text_complete names are line is = ap (line_of names) (words_again names are line is.within) ∙ line_complete names are line is

-- two lines with equal texts are equal
pub same_line : (names : List (List ℕ)) → AreNames names → (a b : Line) → IsLine (length names) a → IsLine (length names) b → line_text names a ≡ line_text names b → a ≡ b
same_line names are a b h k e =
    let texts : bare_text names a ≡ bare_text names b = append_cancel_right (bare_text names a) (bare_text names b) (codes "\n") e in
    let both : Ok a ≡ Ok b = sym (text_complete names are a h) ∙ ap (λ t. line_of names (words_of t)) texts ∙ text_complete names are b k in
    cc
