-- Lines that are counted by kind.
use Rattle.std.proofs.Common.{◌≡◌, ℕ, ◌+◌, ◌<◌, ◌≤◌, Bool, true, false, cond, List, [], ◌∷◌, ◌++◌, length, get_or, take, codes, decimal, refl, sym, ap, subst, ◌∙◌, append_assoc, append-nil, length-append, arith, inl, inr}
use Rattle.std.specs.declared.option.Option.{Option}
use Rattle.std.specs.Io.KnownBytes.{append_known}
use Rattle.std.specs.Prelude.{filter}
use Rattle.std.specs.Str.{bytes_eq}
use Rattle.std.proofs.lemmas.List.{take_more}
use Rattle.std.proofs.lemmas.List.Elements.{filter-append}
use Rattle.trapeze_io.specs.Causes.{Rose}
use Rattle.trapeze_lines.specs.declared.line.Line.{Line}
use Rattle.trapeze_lines.specs.declared.line.Kind.{Kind}
use Rattle.trapeze_lines.specs.declared.line.Kind.TheVariants.{Reply, Turn, Idle, Dropped, Full, Facet, Write, Read, Send, Answer, Start}
use Rattle.trapeze_lines.specs.Lines.{is_of_run, run_kinds}
use Rattle.trapeze_lines.specs.Texts.{kind_word}
use Rattle.trapeze_cli.specs.declared.counts.Counts.{Counts}
use Rattle.trapeze_cli.specs.declared.status.Status.{Status}
use Rattle.trapeze_cli.specs.declared.status.Status.TheVariants as status
use Rattle.trapeze_io.specs.Appends.{AppendsLess}
use Rattle.trapeze_cli.specs.Ends.{SaysText}
use Rattle.trapeze_cli.specs.Exercise.{count_of, exercise_lines, exercise_text}
use Rattle.trapeze_cli.specs.Counts.{counts_of, counts_text, counted_with, AtMost}

same_counts : {a b : Counts} → a.replies ≡ b.replies → a.turns ≡ b.turns → a.idle ≡ b.idle → a.dropped ≡ b.dropped → a.full ≡ b.full → a.facets ≡ b.facets → a ≡ b
same_counts p q r s t u = λ i. record { replies = p i; turns = q i; idle = r i; dropped = s i; full = t i; facets = u i }

-- the counts, and one more where a kind has the word of a count
abbrev with_kind : Counts → Kind → Counts
with_kind c kind = record {
  replies = c.replies + cond (bytes_eq (kind_word kind) (codes "reply")) 1 0;
  turns = c.turns + cond (bytes_eq (kind_word kind) (codes "turn")) 1 0;
  idle = c.idle + cond (bytes_eq (kind_word kind) (codes "idle")) 1 0;
  dropped = c.dropped + cond (bytes_eq (kind_word kind) (codes "drop")) 1 0;
  full = c.full + cond (bytes_eq (kind_word kind) (codes "full")) 1 0;
  facets = c.facets + cond (bytes_eq (kind_word kind) (codes "facet")) 1 0;
}

no_more : (n : ℕ) → n + 0 ≡ n
no_more n = omega arith

with_kind_is : (c : Counts) (kind : Kind) → with_kind c kind ≡ counted_with c kind
with_kind_is c (Reply client id bytes) = same_counts refl (no_more c.turns) (no_more c.idle) (no_more c.dropped) (no_more c.full) (no_more c.facets)
with_kind_is c (Turn number function id outcome) = same_counts (no_more c.replies) refl (no_more c.idle) (no_more c.dropped) (no_more c.full) (no_more c.facets)
with_kind_is c (Idle number) = same_counts (no_more c.replies) (no_more c.turns) refl (no_more c.dropped) (no_more c.full) (no_more c.facets)
with_kind_is c (Dropped function id) = same_counts (no_more c.replies) (no_more c.turns) (no_more c.idle) refl (no_more c.full) (no_more c.facets)
with_kind_is c (Full key) = same_counts (no_more c.replies) (no_more c.turns) (no_more c.idle) (no_more c.dropped) refl (no_more c.facets)
with_kind_is c (Facet key value) = same_counts (no_more c.replies) (no_more c.turns) (no_more c.idle) (no_more c.dropped) (no_more c.full) refl
with_kind_is c (Write key value) = same_counts (no_more c.replies) (no_more c.turns) (no_more c.idle) (no_more c.dropped) (no_more c.full) (no_more c.facets)
with_kind_is c (Read key value) = same_counts (no_more c.replies) (no_more c.turns) (no_more c.idle) (no_more c.dropped) (no_more c.full) (no_more c.facets)
with_kind_is c (Send channel bytes) = same_counts (no_more c.replies) (no_more c.turns) (no_more c.idle) (no_more c.dropped) (no_more c.full) (no_more c.facets)
with_kind_is c (Answer client id bytes) = same_counts (no_more c.replies) (no_more c.turns) (no_more c.idle) (no_more c.dropped) (no_more c.full) (no_more c.facets)
with_kind_is c (Start from function id) = same_counts (no_more c.replies) (no_more c.turns) (no_more c.idle) (no_more c.dropped) (no_more c.full) (no_more c.facets)

one_long : (b : Bool) (line : Line) → length (cond b (line ∷ []) []) ≡ cond b 1 0
one_long true line = refl
one_long false line = refl

more_long : (b : Bool) (line : Line) (lines : List Line) → length (cond b (line ∷ lines) lines) ≡ length lines + cond b 1 0
more_long true line lines = omega arith
more_long false line lines = omega arith

-- one line more, at the end or at the front
count_last : (word : List ℕ) (lines : List Line) (line : Line) → count_of word (lines ++ line ∷ []) ≡ count_of word lines + cond (bytes_eq (kind_word line.kind) word) 1 0
count_last word lines line =
    let test : Line → Bool = λ l. bytes_eq (kind_word l.kind) word in
    ap length (filter-append test lines (line ∷ []))
    ∙ length-append (filter test lines) (filter test (line ∷ []))
    ∙ ap (λ n. length (filter test lines) + n) (one_long (bytes_eq (kind_word line.kind) word) line)

count_first : (word : List ℕ) (line : Line) (lines : List Line) → count_of word (line ∷ lines) ≡ count_of word lines + cond (bytes_eq (kind_word line.kind) word) 1 0
count_first word line lines = more_long (bytes_eq (kind_word line.kind) word) line (filter (λ (l : Line). bytes_eq (kind_word l.kind) word) lines)

pub counts_last : (lines : List Line) (line : Line) → counts_of (lines ++ line ∷ []) ≡ counted_with (counts_of lines) line.kind
unfolding counts_of
counts_last lines line =
    same_counts {b = with_kind (counts_of lines) line.kind} (count_last (codes "reply") lines line) (count_last (codes "turn") lines line) (count_last (codes "idle") lines line)
    (count_last (codes "drop") lines line) (count_last (codes "full") lines line) (count_last (codes "facet") lines line)
    ∙ with_kind_is (counts_of lines) line.kind

counts_first : (line : Line) (lines : List Line) → counts_of (line ∷ lines) ≡ counted_with (counts_of lines) line.kind
unfolding counts_of
counts_first line lines =
    same_counts {b = with_kind (counts_of lines) line.kind} (count_first (codes "reply") line lines) (count_first (codes "turn") line lines) (count_first (codes "idle") line lines)
    (count_first (codes "drop") line lines) (count_first (codes "full") line lines) (count_first (codes "facet") line lines)
    ∙ with_kind_is (counts_of lines) line.kind

-- the next line of a list
pub counts_next : (before lines : List Line) (i : ℕ) (line : Line) → i < length lines → line ≡ get_or lines i line
    → counts_of (before ++ take (i + 1) lines) ≡ counted_with (counts_of (before ++ take i lines)) line.kind
counts_next before lines i line within is =
    ap (λ ls. counts_of (before ++ ls)) (take_more lines i line within ∙ ap (λ l. take i lines ++ l ∷ []) (sym is))
    ∙ ap counts_of (sym (append_assoc before (take i lines) (line ∷ [])))
    ∙ counts_last (before ++ take i lines) line

-- no line
pub counts_none : (before : List Line) → counts_of (before ++ []) ≡ counts_of before
counts_none before = ap counts_of (append-nil before)

-- a line that a run does not print is not counted
not_counted : (c : Counts) (kind : Kind) → is_of_run kind ≡ false → counted_with c kind ≡ c
not_counted c (Reply client id bytes) other = absurd (cc)
not_counted c (Turn number function id outcome) other = absurd (cc)
not_counted c (Idle number) other = absurd (cc)
not_counted c (Dropped function id) other = absurd (cc)
not_counted c (Full key) other = absurd (cc)
not_counted c (Facet key value) other = absurd (cc)
not_counted c (Write key value) other = refl
not_counted c (Read key value) other = refl
not_counted c (Send channel bytes) other = refl
not_counted c (Answer client id bytes) other = refl
not_counted c (Start from function id) other = refl

run_step : (b : Bool) (line : Line) (lines : List Line) → is_of_run line.kind ≡ b → counts_of (run_kinds lines) ≡ counts_of lines
    → counts_of (cond b (line ∷ run_kinds lines) (run_kinds lines)) ≡ counts_of (line ∷ lines)
run_step true line lines is same = counts_first line (run_kinds lines) ∙ ap (λ c. counted_with c line.kind) same ∙ sym (counts_first line lines)
run_step false line lines is same = same ∙ sym (not_counted (counts_of lines) line.kind is) ∙ sym (counts_first line lines)

-- so the counts are those of the lines that a run prints
pub counts_run : (lines : List Line) → counts_of (run_kinds lines) ≡ counts_of lines
counts_run [] = refl
counts_run (line ∷ lines) = run_step (is_of_run line.kind) line lines refl (counts_run lines)

-- how much a count can be

one_at_most : (b : Bool) (n most : ℕ) → n ≤ most → n + cond b 1 0 ≤ most + 1
one_at_most true n most le = omega arith
one_at_most false n most le = omega arith

pub at_most_more : (most : ℕ) (c : Counts) (kind : Kind) → AtMost most c → AtMost (most + 1) (counted_with c kind)
at_most_more most c kind m = subst (λ (x : Counts). AtMost (most + 1) x) (with_kind_is c kind) (record {
  replies = one_at_most (bytes_eq (kind_word kind) (codes "reply")) c.replies most m.replies;
  turns = one_at_most (bytes_eq (kind_word kind) (codes "turn")) c.turns most m.turns;
  idle = one_at_most (bytes_eq (kind_word kind) (codes "idle")) c.idle most m.idle;
  dropped = one_at_most (bytes_eq (kind_word kind) (codes "drop")) c.dropped most m.dropped;
  full = one_at_most (bytes_eq (kind_word kind) (codes "full")) c.full most m.full;
  facets = one_at_most (bytes_eq (kind_word kind) (codes "facet")) c.facets most m.facets;
})

pub at_most_up : (least most : ℕ) (c : Counts) → least ≤ most → AtMost least c → AtMost most c
at_most_up least most c le m = record {
  replies = omega (arith, m.replies);
  turns = omega (arith, m.turns);
  idle = omega (arith, m.idle);
  dropped = omega (arith, m.dropped);
  full = omega (arith, m.full);
  facets = omega (arith, m.facets);
}

-- the text of the counts

-- the pieces of the lines
abbrev pub pieces_text : List ℕ → List ℕ → List ℕ → List ℕ → List ℕ → List ℕ → List ℕ
pieces_text replies turns idle dropped full facets =
    codes "events 20000\nreply " ++ (replies ++ (codes "\nturn " ++ (turns ++ (codes "\nidle " ++ (idle ++ (codes "\ndrop " ++ (dropped
    ++ (codes "\nfull " ++ (full ++ (codes "\nfacet " ++ (facets ++ codes "\n")))))))))))

-- the lines in these pieces
in_pieces : (a b c d e f : List ℕ)
    → codes "events 20000\nreply " ++ ((a ++ codes "\n") ++ (codes "turn " ++ ((b ++ codes "\n") ++ (codes "idle " ++ ((c ++ codes "\n") ++ (codes "drop " ++ ((d ++ codes "\n")
    ++ (codes "full " ++ ((e ++ codes "\n") ++ (codes "facet " ++ ((f ++ codes "\n") ++ [])))))))))))
    ≡ pieces_text a b c d e f
in_pieces a b c d e f = simp (append_assoc, append-nil)

module _ (n : Counts) (a b c d e f : List ℕ) where
  -- the digits are those of the counts
  pub record AreDigits : Type 0 where
    pub replies : a ≡ decimal n.replies
    pub turns : b ≡ decimal n.turns
    pub idle : c ≡ decimal n.idle
    pub dropped : d ≡ decimal n.dropped
    pub full : e ≡ decimal n.full
    pub facets : f ≡ decimal n.facets

  same_text : AreDigits → pieces_text a b c d e f ≡ counts_text n
  same_text are = (λ i. pieces_text (are.replies i) (are.turns i) (are.idle i) (are.dropped i) (are.full i) (are.facets i))
      ∙ sym (in_pieces (decimal n.replies) (decimal n.turns) (decimal n.idle) (decimal n.dropped) (decimal n.full) (decimal n.facets))

  module _ (old new : Option (List ℕ)) (before now : ℕ) (are : AreDigits) where
    pub counts_all : new ≡ append_known old (pieces_text a b c d e f) → SaysText (counts_text n) status.Done old new before now
    counts_all all = inl (refl, all ∙ ap (append_known old) (same_text are))

    pub counts_less : AppendsLess [] (pieces_text a b c d e f) old new → Rose before now → SaysText (counts_text n) status.WriteFault old new before now
    counts_less part rose = inr (refl, subst (λ t. AppendsLess [] t old new) (same_text are) part, rose)

-- the text of the counts of the lines of the exercise
exercise_text_is : (number : ℕ) → counts_text (counts_of (exercise_lines number)) ≡ exercise_text number
unfolding counts_of exercise_text
exercise_text_is number = refl

pub exercise_said : (number : ℕ) (counts : Counts) (s : Status) (old new : Option (List ℕ)) (before now : ℕ) → counts ≡ counts_of (exercise_lines number)
    → SaysText (counts_text counts) s old new before now → SaysText (exercise_text number) s old new before now
exercise_said number counts s old new before now is says =
    subst (λ t. SaysText t s old new before now) (ap counts_text is ∙ exercise_text_is number) says
