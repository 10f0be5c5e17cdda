-- What one line more changes: who follows the last line, and what is said of the lines before.
use Rattle.std.proofs.Common.{◌≡◌, ℕ, ◌+◌, ◌<◌, true, false, cond, List, [], ◌∷◌, ◌++◌, Option, Some, None, zero, suc, length, take, get_or, refl, sym, ◌∙◌, ap, subst, arith, length-append}
use Rattle.std.specs.Prelude.{IfSome, slice_get, nat_lt, ◌==◌}
use Rattle.std.specs.Option.{IsSomeAnd}
use Rattle.std.specs.List.{last_or}
use Rattle.std.proofs.lemmas.Bool.Decides.{Decides-eqb, Decides-ltb, not_from_Decides}
use Rattle.std.proofs.lemmas.List.{take_more, take_all, take-append-le}
use Rattle.std.proofs.lemmas.Option.{slice_get_within, slice_get_past, slice_get-get_or, get_or_from_slice_get}
use Rattle.std.proofs.Math.Seq.{take-append_seam}
use Rattle.trapeze_io.proofs.Held.{slice_get_front}
use Rattle.labelled_channel.specs.declared.channels.Channel.{Channel}
use Rattle.trapeze_lines.specs.declared.line.Line.{Line}
use Rattle.trapeze_lines.specs.declared.line.Kind.{Kind}
use Rattle.trapeze_lines.specs.declared.line.Kind.TheVariants as kind
use Rattle.host_rules.specs.Rules.{Rules, label_of, function_name, channel_named}
use Rattle.flow_check.specs.declared.last.Last.{Last}
use Rattle.flow_check.specs.declared.last.Last.TheVariants as last
use Rattle.flow_check.specs.declared.verdict.Rule.{Rule}
use Rattle.flow_check.specs.declared.verdict.Rule.TheVariants.{Send}
use Rattle.flow_check.specs.Sound.{Passes, PassesAt, Sound, IsArrival}
use Rattle.flow_check.specs.Kept.{kept_of, kept_last, sent, MayFollow}
use Rattle.flow_check.specs.declared.verdict.Verdict.{Verdict}
use Rattle.flow_check.specs.declared.verdict.Verdict.TheVariants as verdict
use Rattle.flow_check.specs.Verdicts.{rule_of, Breaks, FailsAt, IsFirstFault, IsVerdict, IsFault}

-- the arrival of what was sent
module _ (P : Rules) (l : ℕ) (x : Line) where
  abbrev Awaits : Option Channel → Option Line → Type 0
  Awaits o next = IsSomeAnd o (λ channel. P.flows l channel.at.number ≡ true → IfSome next (IsArrival P l channel))

  sent_to : (o : Option Channel) → Awaits o (Some x) → MayFollow (sent P l o) x
  sent_to None h = absurd h
  sent_to (Some channel) h = elim (P.flows l channel.at.number) as (λ b. P.flows l channel.at.number ≡ b → MayFollow (cond b (last.Sent (label_of l) channel.at (function_name P channel.function)) last.Other) x) [
    | true ↦ λ e. h e
    | false ↦ λ e. tt
  ] refl

  sent_rest : (o : Option Channel) → Awaits o (Some x) → Awaits o None
  sent_rest None h = h
  sent_rest (Some channel) h = λ e. tt

  sent_from : (o : Option Channel) → Awaits o None → MayFollow (sent P l o) x → Awaits o (Some x)
  sent_from None h f = h
  sent_from (Some channel) h f = λ e. subst (λ b. MayFollow (cond b (last.Sent (label_of l) channel.at (function_name P channel.function)) last.Other) x) e f

module _ (P : Rules) (before : List Line) (l : ℕ) (x : Line) where
  -- the next line matters to a message that is sent alone
  follow_to : (k : Kind) → Passes P before l k (Some x) → MayFollow (kept_of P l k) x
  follow_to (kind.Reply client id bytes) h = tt
  follow_to (kind.Turn number function id outcome) h = tt
  follow_to (kind.Idle number) h = tt
  follow_to (kind.Dropped function id) h = tt
  follow_to (kind.Full key) h = tt
  follow_to (kind.Facet key value) h = tt
  follow_to (kind.Write key value) h = tt
  follow_to (kind.Read key value) h = tt
  follow_to (kind.Send channel bytes) h = sent_to P l x (channel_named P channel) h
  follow_to (kind.Answer client id bytes) h = tt
  follow_to (kind.Start from function id) h = tt

  follow_rest : (k : Kind) → Passes P before l k (Some x) → Passes P before l k None
  follow_rest (kind.Reply client id bytes) h = h
  follow_rest (kind.Turn number function id outcome) h = h
  follow_rest (kind.Idle number) h = h
  follow_rest (kind.Dropped function id) h = h
  follow_rest (kind.Full key) h = h
  follow_rest (kind.Facet key value) h = h
  follow_rest (kind.Write key value) h = h
  follow_rest (kind.Read key value) h = h
  follow_rest (kind.Send channel bytes) h = sent_rest P l x (channel_named P channel) h
  follow_rest (kind.Answer client id bytes) h = h
  follow_rest (kind.Start from function id) h = h

  follow_from : (k : Kind) → Passes P before l k None → MayFollow (kept_of P l k) x → Passes P before l k (Some x)
  follow_from (kind.Reply client id bytes) h f = h
  follow_from (kind.Turn number function id outcome) h f = h
  follow_from (kind.Idle number) h f = h
  follow_from (kind.Dropped function id) h f = h
  follow_from (kind.Full key) h f = h
  follow_from (kind.Facet key value) h f = h
  follow_from (kind.Write key value) h f = h
  follow_from (kind.Read key value) h f = h
  follow_from (kind.Send channel bytes) h f = sent_from P l x (channel_named P channel) h f
  follow_from (kind.Answer client id bytes) h f = h
  follow_from (kind.Start from function id) h f = h

  -- where the next line may not come, a message was sent
  is_sent : (k : Kind) → (MayFollow (kept_of P l k) x → ⊥) → rule_of k ≡ Some Send
  is_sent (kind.Reply client id bytes) h = absurd (h tt)
  is_sent (kind.Turn number function id outcome) h = absurd (h tt)
  is_sent (kind.Idle number) h = absurd (h tt)
  is_sent (kind.Dropped function id) h = absurd (h tt)
  is_sent (kind.Full key) h = absurd (h tt)
  is_sent (kind.Facet key value) h = absurd (h tt)
  is_sent (kind.Write key value) h = absurd (h tt)
  is_sent (kind.Read key value) h = absurd (h tt)
  is_sent (kind.Send channel bytes) h = refl
  is_sent (kind.Answer client id bytes) h = absurd (h tt)
  is_sent (kind.Start from function id) h = absurd (h tt)

-- the places of one line more
pub last_push : {A : Type 0} (o : Option A) (xs : List A) (y : A) → last_or o (xs ++ y ∷ []) ≡ Some y
last_push o [] y = refl
last_push o (x ∷ xs) y = last_push (Some x) xs y

last_there : {A : Type 0} (xs : List A) (k : ℕ) (x : A) → slice_get xs k ≡ Some x → k + 1 ≡ length xs → last_or None xs ≡ Some x
last_there xs k x e whole =
    ap (last_or None) (sym (take_all (k + 1) xs (omega arith)) ∙ take_more xs k x (slice_get_within xs k x e)) ∙ ap (λ y. last_or None (take k xs ++ y ∷ [])) (get_or_from_slice_get xs k x x e) ∙ last_push None (take k xs) x

slice_get_end : {A : Type 0} (xs : List A) (x : A) → slice_get (xs ++ x ∷ []) (length xs) ≡ Some x
slice_get_end [] x = refl
slice_get_end (y ∷ xs) x = slice_get_end xs x

pub longer : {A : Type 0} (xs : List A) (x : A) → length (xs ++ x ∷ []) ≡ length xs + 1
longer xs x = length-append xs (x ∷ [])

module _ (F : List Line → Option Line → Option Line → Type 0) where
  moved : (a b : List Line) (o p : Option Line) (next after : Option Line) → a ≡ b → o ≡ p → next ≡ after → F a o next → F b p after
  moved a b o p next after e f g h = subst (F b p) g (subst (λ (q : Option Line). F b q next) f (subst (λ (c : List Line). F c o next) e h))

  abbrev There : List Line → ℕ → Type 0
  There lines i = F (take i lines) (slice_get lines i) (slice_get lines (i + 1))

  -- places before the last one
  early : (lines : List Line) (x : Line) (i : ℕ) → i + 1 < length lines → There lines i → There (lines ++ x ∷ []) i
  early lines x i lt h = moved (take i lines) (take i (lines ++ x ∷ [])) (slice_get lines i) (slice_get (lines ++ x ∷ []) i) (slice_get lines (i + 1)) (slice_get (lines ++ x ∷ []) (i + 1))
      (sym (take-append-le i lines (x ∷ []) (omega arith))) (sym (slice_get_front lines (x ∷ []) i (omega arith))) (sym (slice_get_front lines (x ∷ []) (i + 1) lt)) h

  -- the last place, and the new one
  late : (lines : List Line) (x y : Line) (i : ℕ) → i + 1 ≡ length lines → slice_get lines i ≡ Some y → F (take i lines) (Some y) (Some x) → There (lines ++ x ∷ []) i
  late lines x y i e at h = moved (take i lines) (take i (lines ++ x ∷ [])) (Some y) (slice_get (lines ++ x ∷ []) i) (Some x) (slice_get (lines ++ x ∷ []) (i + 1))
      (sym (take-append-le i lines (x ∷ []) (omega arith))) (sym (slice_get_front lines (x ∷ []) i (omega arith) ∙ at)) (sym (ap (slice_get (lines ++ x ∷ [])) e ∙ slice_get_end lines x)) h

  new : (lines : List Line) (x : Line) (i : ℕ) → i ≡ length lines → F lines (Some x) None → There (lines ++ x ∷ []) i
  new lines x i e h =
      let size = longer lines x in
      moved lines (take i (lines ++ x ∷ [])) (Some x) (slice_get (lines ++ x ∷ []) i) None (slice_get (lines ++ x ∷ []) (i + 1))
      (sym (ap (λ (n : ℕ). take n (lines ++ x ∷ [])) e ∙ take-append_seam lines (x ∷ []))) (sym (ap (slice_get (lines ++ x ∷ [])) e ∙ slice_get_end lines x)) (sym (slice_get_past (lines ++ x ∷ []) (i + 1) (omega arith))) h

-- a place before the last, the last, the next, or past it
split : (i n : ℕ) (A : Type 0) → (i + 1 < n → A) → (i + 1 ≡ n → A) → (i ≡ n → A) → (n < i → A) → A
split i n A a b c d = elim (nat_lt (i + 1) n) as (λ t. nat_lt (i + 1) n ≡ t → A) [
  | true ↦ λ e. a ((Decides-ltb (i + 1) n).0 e)
  | false ↦ λ e. (let x = not_from_Decides (nat_lt (i + 1) n) (Decides-ltb (i + 1) n) e in elim ((i + 1) == n) as (λ t. ((i + 1) == n) ≡ t → A) [
    | true ↦ λ f. b ((Decides-eqb (i + 1) n).0 f)
    | false ↦ λ f. (let y = not_from_Decides ((i + 1) == n) (Decides-eqb (i + 1) n) f in elim (i == n) as (λ t. (i == n) ≡ t → A) [
      | true ↦ λ g. c ((Decides-eqb i n).0 g)
      | false ↦ λ g. (let z = not_from_Decides (i == n) (Decides-eqb i n) g in d (omega (arith, x, y, z)))
    ] refl)
  ] refl)
] refl

module _ (P : Rules) (lines : List Line) (x : Line) where
  abbrev Here : List Line → Option Line → Option Line → Type 0
  Here before o next = IfSome o (λ line. Passes P before line.label.number line.kind next)

  abbrev Broken : Rule → List Line → Option Line → Option Line → Type 0
  Broken rule before o next = IsSomeAnd o (Breaks P before rule next)

  -- what is kept of the last line
  kept_there : (i : ℕ) (y : Line) → i + 1 ≡ length lines → slice_get lines i ≡ Some y → kept_last P (last_or None lines) ≡ kept_of P y.label.number y.kind
  kept_there i y e at = ap (kept_last P) (last_there lines i y at e)

  there : (i : ℕ) → i < length lines → slice_get lines i ≡ Some (get_or lines i x)
  there i lt = slice_get-get_or lines i x lt

  -- the last line passes with none after it
  last_passes : (i : ℕ) (y : Line) → Sound P lines → i + 1 ≡ length lines → slice_get lines i ≡ Some y → Passes P (take i lines) y.label.number y.kind None
  last_passes i y h e at = moved Here (take i lines) (take i lines) (slice_get lines i) (Some y) (slice_get lines (i + 1)) None refl at (slice_get_past lines (i + 1) (omega arith)) (h i)

  -- the lines before go on passing
  fronts : Sound P lines → MayFollow (kept_last P (last_or None lines)) x → (i : ℕ) → i < length lines → PassesAt P (lines ++ x ∷ []) i
  fronts h f i lt = split i (length lines) (PassesAt P (lines ++ x ∷ []) i)
      (λ a. early Here lines x i a (h i))
      (λ b. let y = get_or lines i x in late Here lines x y i b (there i lt)
      (follow_from P (take i lines) y.label.number x y.kind (last_passes i y h b (there i lt)) (subst (λ (k : Last). MayFollow k x) (kept_there i y b (there i lt)) f)))
      (λ c. absurd (omega arith)) (λ d. absurd (omega arith))

  pub sound_more : Sound P lines → MayFollow (kept_last P (last_or None lines)) x → Passes P lines x.label.number x.kind None → Sound P (lines ++ x ∷ [])
  sound_more h f p i = split i (length lines) (PassesAt P (lines ++ x ∷ []) i)
      (λ a. fronts h f i (omega arith)) (λ b. fronts h f i (omega arith)) (λ c. new Here lines x i c p)
      (λ d. let size = longer lines x in subst (λ (o : Option Line). Here (take i (lines ++ x ∷ [])) o (slice_get (lines ++ x ∷ []) (i + 1))) (sym (slice_get_past (lines ++ x ∷ []) i (omega arith))) tt)

  pub line_fails : (rule : Rule) → Sound P lines → MayFollow (kept_last P (last_or None lines)) x → Breaks P lines rule None x → IsFirstFault P (lines ++ x ∷ []) (length lines + 1) rule
  line_fails rule h f b = record { place = length lines; numbered = refl; fails = new (Broken rule) lines x (length lines) refl b; first = fronts h f }

  pub send_fails : Sound P lines → (MayFollow (kept_last P (last_or None lines)) x → ⊥) → IsFirstFault P (lines ++ x ∷ []) (length lines) Send
  send_fails h f = at_last (length lines) refl
    where
      at_last : (n : ℕ) → n ≡ length lines → IsFirstFault P (lines ++ x ∷ []) (length lines) Send
      at_last zero e = absurd (f (subst (λ (k : Last). MayFollow k x) (sym (none lines e)) tt))
        where
          none : (xs : List Line) → zero ≡ length xs → kept_last P (last_or None xs) ≡ last.Other
          none [] e = refl
          none (z ∷ xs) e = absurd (omega arith)
      at_last (suc m) e =
          let e2 : m + 1 ≡ length lines = omega arith in
          let y = get_or lines m x in
          let at = there m (omega arith) in
          let n : MayFollow (kept_of P y.label.number y.kind) x → ⊥ = λ k. f (subst (λ (k : Last). MayFollow k x) (sym (kept_there m y e2 at)) k) in
          record {
            place = m;
            numbered = sym e2;
            fails = late (Broken Send) lines x y m e2 at (is_sent P (take m lines) y.label.number x y.kind n, λ p. n (follow_to P (take m lines) y.label.number x y.kind p));
            first = λ i lt. early Here lines x i (omega arith) (h i);
          }

  within : (rule : Rule) (i : ℕ) (o : Option Line) → slice_get lines i ≡ o → Broken rule (take i lines) o (slice_get lines (i + 1)) → i < length lines
  within rule i None e h = absurd h
  within rule i (Some y) e h = slice_get_within lines i y e

  broken_more : (rule : Rule) (i : ℕ) (y : Line) → i + 1 ≡ length lines → slice_get lines i ≡ Some y → FailsAt P lines i rule → FailsAt P (lines ++ x ∷ []) i rule
  broken_more rule i y e at h =
      let b = moved (Broken rule) (take i lines) (take i lines) (slice_get lines i) (Some y) (slice_get lines (i + 1)) None refl at (slice_get_past lines (i + 1) (omega arith)) h in
      late (Broken rule) lines x y i e at (b.0, λ p. b.1 (follow_rest P (take i lines) y.label.number x y.kind p))

  pub still_fails : (number : ℕ) (rule : Rule) → IsFirstFault P lines number rule → IsFirstFault P (lines ++ x ∷ []) number rule
  still_fails number rule h =
      let i = h.place in
      let lt = within rule i (slice_get lines i) refl h.fails in
      record {
        place = i;
        numbered = h.numbered;
        fails = split i (length lines) (FailsAt P (lines ++ x ∷ []) i rule)
            (λ a. early (Broken rule) lines x i a h.fails) (λ b. broken_more rule i (get_or lines i x) b (there i lt) h.fails) (λ c. absurd (omega arith)) (λ d. absurd (omega arith));
        first = λ j less. early Here lines x j (omega arith) (h.first j less);
      }

-- the verdict after one line more
module _ (P : Rules) (lines : List Line) (x : Line) where
  pub unsound_on : (v : Verdict) (number : ℕ) (rule : Rule) → v ≡ verdict.Unsound number rule → IsVerdict P lines v → IsFirstFault P (lines ++ x ∷ []) number rule
  unsound_on v number rule e h = still_fails P lines x number rule (subst (IsVerdict P lines) e h)

  sound_of : (v : Verdict) → v ≡ verdict.Sound → IsVerdict P lines v → Sound P lines
  sound_of v e h = subst (IsVerdict P lines) e h

  pub unsound_send : (v : Verdict) (k : Last) (n : ℕ) → v ≡ verdict.Sound → IsVerdict P lines v → k ≡ kept_last P (last_or None lines) → n ≡ length lines
      → (MayFollow k x → ⊥) → IsVerdict P (lines ++ x ∷ []) (verdict.Unsound n Send)
  unsound_send v k n e h is size f = subst (λ (n : ℕ). IsFirstFault P (lines ++ x ∷ []) n Send) (sym size) (send_fails P lines x (sound_of v e h) (subst (λ (k : Last). MayFollow k x → ⊥) is f))

  pub unsound_line : (v : Verdict) (k : Last) (n : ℕ) (rule : Rule) → v ≡ verdict.Sound → IsVerdict P lines v → k ≡ kept_last P (last_or None lines) → n ≡ length lines + 1
      → MayFollow k x → IsFault P lines x (Some rule) → IsVerdict P (lines ++ x ∷ []) (verdict.Unsound n rule)
  unsound_line v k n rule e h is size f b = subst (λ (n : ℕ). IsFirstFault P (lines ++ x ∷ []) n rule) (sym size) (line_fails P lines x rule (sound_of v e h) (subst (λ (k : Last). MayFollow k x) is f) b)

  pub sound_line : (v : Verdict) (k : Last) → v ≡ verdict.Sound → IsVerdict P lines v → k ≡ kept_last P (last_or None lines)
      → MayFollow k x → IsFault P lines x None → IsVerdict P (lines ++ x ∷ []) verdict.Sound
  sound_line v k e h is f p = sound_more P lines x (sound_of v e h) (subst (λ (k : Last). MayFollow k x) is f) p
