-- What is heard of a prefix of bytes comes first in what is heard of more, a bad line too.
use Rattle.std.proofs.Common.{◌≡◌, ℕ, ◌+◌, ◌<◌, Bool, true, false, cond, List, [], ◌∷◌, ◌++◌, length, length-append, Option, None, Some, Result, Ok, Err, refl, sym, ap, subst, ◌∙◌, arith}
use Rattle.std.proofs.lemmas.Bool.{lt-ltb}
use Rattle.event_file.specs.Known.{Known}
use Rattle.event_file.specs.Lines.{lines_of, longest_line, is_too_long}
use Rattle.event_file.specs.Script.{Entries, entries_from, onto, line_of}
use Rattle.event_file.specs.Heard.{counting, heard}
use Rattle.event_file.specs.declared.entry.Entry.{Entry}
use Rattle.event_file.specs.declared.fault.LineFault.{LineFault}
use Rattle.event_file.specs.declared.fault.LineFault.TheVariants.{LineTooLong}
use Rattle.event_file.proofs.SplitLists.{slice_split-append, splice}
use Rattle.event_file.proofs.WithinLimits.{long_line}
use Rattle.event_file.proofs.Continuing.{is_end}
use Rattle.event_file.proofs.HeardLines.{counting-cons}

-- entries that begin with these
pub record Begins (entries first : List Entry) : Type 0 where
  pub others : List Entry
  pub same : entries ≡ first ++ others

first_long : (known : Known) (line : List ℕ) (number : ℕ) (long : Bool) → is_too_long line ≡ long → (entries_from known number (cond long (line ∷ []) [])).entries ≡ []
first_long known line number true h =
    ap (λ (answer : Result (Option Entry) LineFault). (onto number answer (record { entries = []; bad = None })).entries) (long_line known line h)
first_long known line number false h = refl

some_spliced : (parts others : List (List ℕ)) → 0 < length parts → 0 < length (splice parts others)
some_spliced [] others l = absurd (omega arith)
some_spliced (part ∷ []) [] l = omega arith
some_spliced (part ∷ []) (other ∷ others) l = omega arith
some_spliced (part ∷ next ∷ parts) others l = omega arith

onto_begins : (number : ℕ) (answer : Result (Option Entry) LineFault) (longer shorter : Entries) → Begins longer.entries shorter.entries
    → Begins (onto number answer longer).entries (onto number answer shorter).entries
onto_begins number (Err fault) longer shorter b = record { others = []; same = refl }
onto_begins number (Ok None) longer shorter b = b
onto_begins number (Ok (Some entry)) longer shorter b = record { others = b.others; same = ap (λ es. entry ∷ es) b.same }

begins_by : (known : Known) (number : ℕ) (lines others : List (List ℕ))
    → Begins (entries_from known number (counting (splice lines others))).entries (entries_from known number (counting lines)).entries
begins_by known number [] others = record { others = _; same = refl }
begins_by known number (line ∷ []) others =
    let none = first_long known line number (is_too_long line) refl in
    record { others = (entries_from known number (counting (splice (line ∷ []) others))).entries; same = ap (λ es. es ++ (entries_from known number (counting (splice (line ∷ []) others))).entries) (sym none) }
begins_by known number (line ∷ next ∷ lines) others =
    let rest = splice (next ∷ lines) others in
    subst (λ (ls : List (List ℕ)). Begins (entries_from known number ls).entries (entries_from known number (counting (line ∷ next ∷ lines))).entries)
    (sym (counting-cons line rest (some_spliced (next ∷ lines) others (omega arith))))
    (onto_begins number (line_of known line) (entries_from known (number + 1) (counting rest)) (entries_from known (number + 1) (counting (next ∷ lines)))
    (begins_by known (number + 1) (next ∷ lines) others))

pub heard_begins : (known : Known) (bytes more : List ℕ) → Begins (heard known (bytes ++ more)).entries (heard known bytes).entries
heard_begins known bytes more =
    subst (λ (ls : List (List ℕ)). Begins (entries_from known 1 (counting ls)).entries (heard known bytes).entries) (sym (slice_split-append is_end bytes more))
    (begins_by known 1 (lines_of bytes) (lines_of more))

-- a line that is too long is heard as a bad one
long_heard : (known : Known) (number : ℕ) (line : List ℕ) (others : List (List ℕ)) → is_too_long line ≡ true → ¬ ((entries_from known number (counting (line ∷ others))).bad ≡ None)
long_heard known number line [] long good =
    let bad : (entries_from known number (counting (line ∷ []))).bad ≡ Some (record { line = number; fault = LineTooLong }) =
    ap (λ b. (entries_from known number (cond b (line ∷ []) [])).bad) long
    ∙ ap (λ (answer : Result (Option Entry) LineFault). (onto number answer (record { entries = []; bad = None })).bad) (long_line known line long) in
    let no_bad : Some (record { line = number; fault = LineTooLong }) ≡ None = sym bad ∙ good in
    cc
long_heard known number line (next ∷ lines) long good =
    let bad : (entries_from known number (counting (line ∷ next ∷ lines))).bad ≡ Some (record { line = number; fault = LineTooLong }) =
    ap (λ (answer : Result (Option Entry) LineFault). (onto number answer (entries_from known (number + 1) (counting (next ∷ lines)))).bad) (long_line known line long) in
    let no_bad : Some (record { line = number; fault = LineTooLong }) ≡ None = sym bad ∙ good in
    cc

-- it stays too long where more bytes follow
longer_line : (line more : List ℕ) → is_too_long line ≡ true → is_too_long (line ++ more) ≡ true
longer_line line more long =
    let h : longest_line < length line = grind arith in
    lt-ltb longest_line (length (line ++ more)) (omega (arith, length-append line more, h))

first_good : (known : Known) (number : ℕ) (line : List ℕ) (others : List (List ℕ)) (long : Bool) → is_too_long line ≡ long
    → (entries_from known number (counting (splice (line ∷ []) others))).bad ≡ None → (entries_from known number (cond long (line ∷ []) [])).bad ≡ None
first_good known number line others false is good = refl
first_good known number line [] true is good = absurd (long_heard known number line [] is good)
first_good known number line (other ∷ others) true is good = absurd (long_heard known number (line ++ other) others (longer_line line other is) good)

onto_good : (number : ℕ) (answer : Result (Option Entry) LineFault) (longer shorter : Entries) → (longer.bad ≡ None → shorter.bad ≡ None)
    → (onto number answer longer).bad ≡ None → (onto number answer shorter).bad ≡ None
onto_good number (Err fault) longer shorter k good = good
onto_good number (Ok None) longer shorter k good = k good
onto_good number (Ok (Some entry)) longer shorter k good = k good

good_by : (known : Known) (number : ℕ) (lines others : List (List ℕ)) → (entries_from known number (counting (splice lines others))).bad ≡ None
    → (entries_from known number (counting lines)).bad ≡ None
good_by known number [] others good = refl
good_by known number (line ∷ []) others good = first_good known number line others (is_too_long line) refl good
good_by known number (line ∷ next ∷ lines) others good =
    let rest = splice (next ∷ lines) others in
    onto_good number (line_of known line) (entries_from known (number + 1) (counting rest)) (entries_from known (number + 1) (counting (next ∷ lines)))
    (good_by known (number + 1) (next ∷ lines) others)
    (subst (λ (ls : List (List ℕ)). (entries_from known number ls).bad ≡ None) (counting-cons line rest (some_spliced (next ∷ lines) others (omega arith))) good)

-- bytes in which no bad line is heard begin with bytes in which none is
pub heard_good : (known : Known) (bytes more : List ℕ) → (heard known (bytes ++ more)).bad ≡ None → (heard known bytes).bad ≡ None
heard_good known bytes more good =
    good_by known 1 (lines_of bytes) (lines_of more)
    (subst (λ (ls : List (List ℕ)). (entries_from known 1 (counting ls)).bad ≡ None) (slice_split-append is_end bytes more) good)
