-- The answer of a reader is what the lines held say first.
use Rattle.std.proofs.Common.{◌≡◌, ◌≢◌, ℕ, ◌<◌, Bool, true, false, cond, List, [], ◌∷◌, ◌++◌, length, Option, None, Some, Result, Ok, Err, ◌⊎◌, inl, inr, refl, sym, ap, ◌∙◌, arith}
use Rattle.event_file.specs.Lines.{lines_of, is_too_long}
use Rattle.event_file.specs.Reader.{Reader, said_by}
use Rattle.event_file.specs.Calls.{SayNothing, Skips, Advances, IsDue, first_said, or_later}
use Rattle.event_file.specs.declared.entry.Entry.{Entry}
use Rattle.event_file.specs.declared.fault.LineFault.{LineFault}
use Rattle.event_file.specs.declared.fault.LineFault.TheVariants.{LineTooLong}
use Rattle.event_file.specs.declared.next.Next.{Next}
use Rattle.event_file.specs.declared.next.Next.TheVariants as next
use Rattle.event_file.proofs.SplitLists.{some_part}
use Rattle.event_file.proofs.Continuing.{is_end}
use Rattle.event_file.proofs.WithinLimits.{long_line}

-- a whole line that says nothing leaves the word to those below it
past_line : (r : Reader) (line : List ℕ) (lines : List (List ℕ)) → 0 < length lines → said_by r line ≡ Ok None
    → first_said r (line ∷ lines) ≡ first_said r lines
past_line r line [] l h = absurd (omega arith)
past_line r line (next ∷ lines) l h =
    ap (λ (said : Result (Option Entry) LineFault). or_later said (first_said r (next ∷ lines))) h

some_after : (skipped lines : List (List ℕ)) → 0 < length lines → 0 < length (skipped ++ lines)
some_after [] lines l = l
some_after (line ∷ skipped) lines l = omega arith

past_lines : (r : Reader) (skipped lines : List (List ℕ)) → 0 < length lines → SayNothing r skipped
    → first_said r (skipped ++ lines) ≡ first_said r lines
past_lines r [] lines l h = refl
past_lines r (line ∷ skipped) lines l h =
    past_line r line (skipped ++ lines) (some_after skipped lines l) h.0 ∙ past_lines r skipped lines l h.1

past_skips : (old new : Reader) → Skips old new
    → first_said old (lines_of old.kept) ≡ first_said new (lines_of new.kept)
past_skips old new s =
    ap (λ (lines : List (List ℕ)). first_said old lines) s.whole
    ∙ (past_lines old s.skipped (lines_of new.kept) (some_part is_end new.kept) s.nothing
    ∙ sym (ap (λ (r : Reader). first_said r (lines_of new.kept)) s.same))

-- a whole line that says something
speaks : (r : Reader) (line : List ℕ) (lines : List (List ℕ)) (said : Result (Option Entry) LineFault) → 0 < length lines
    → said_by r line ≡ said → first_said r (line ∷ lines) ≡ or_later said (first_said r lines)
speaks r line [] said l h = absurd (omega arith)
speaks r line (next ∷ lines) said l h =
    ap (λ (said : Result (Option Entry) LineFault). or_later said (first_said r (next ∷ lines))) h

abbrev long_fault : Result Entry LineFault
long_fault = Err LineTooLong

long_by : (b : Bool) (fault : LineFault) → b ≡ true → fault ≡ LineTooLong → cond b (Some long_fault) None ≡ Some (Err fault)
long_by true fault h e = ap (λ (f : LineFault). Some (Err f)) (sym e)
long_by false fault h e = absurd (cc)

stops_by : (r : Reader) (line : List ℕ) (below : List (List ℕ)) (fault : LineFault)
    → (below ≢ []) ⊎ (is_too_long line ≡ true) → said_by r line ≡ Err fault
    → first_said r (line ∷ below) ≡ Some (Err fault)
stops_by r line [] fault (inl whole) h = absurd (whole refl)
stops_by r line [] fault (inr long) h =
    let now = long_line r.known line long in
    let e : fault ≡ LineTooLong = cc in
    long_by (is_too_long line) fault long e
stops_by r line (next ∷ below) fault ready h = speaks r line (next ∷ below) (Err fault) (omega arith) h

short_by : (b : Bool) → b ≡ false → cond b (Some long_fault) None ≡ None
short_by true h = absurd (cc)
short_by false h = refl

said_something : (said : Result (Option Entry) LineFault) (later : Option (Result Entry LineFault)) → said ≢ Ok None
    → or_later said later ≢ None
said_something (Ok None) later h = λ e. h refl
said_something (Ok (Some entry)) later h = λ e. absurd (cc)
said_something (Err fault) later h = λ e. absurd (cc)

waits_by : (r : Reader) (line : List ℕ) (below : List (List ℕ)) → below ≢ [] → said_by r line ≢ Ok None
    → first_said r (line ∷ below) ≢ None
waits_by r line [] whole h = absurd (whole refl)
waits_by r line (next ∷ below) whole h = said_something (said_by r line) (first_said r (next ∷ below)) h

pub is_due : (old new : Reader) (answer : Next) → Advances old new answer
    → IsDue (first_said old (lines_of old.kept)) answer
is_due old new (next.Entry entry) a =
    past_skips old a.between a.skips
    ∙ (ap (λ (lines : List (List ℕ)). first_said a.between lines) a.goes.whole
    ∙ speaks a.between a.goes.line (lines_of new.kept) (Ok (Some entry)) (some_part is_end new.kept) a.goes.says)
is_due old new (next.Bad bad) a =
    past_skips old a.between a.skips
    ∙ (ap (λ (lines : List (List ℕ)). first_said a.between lines) a.goes.lines
    ∙ stops_by a.between a.goes.line a.goes.below bad.fault a.goes.ready.ready a.goes.faulty)
is_due old new next.NoLine a =
    let e : a.between ≡ new = sym a.goes.0 in
    past_skips old a.between a.skips
    ∙ (ap (λ (r : Reader). first_said r (lines_of r.kept)) e
    ∙ (ap (λ (lines : List (List ℕ)). first_said new lines) a.goes.1.part ∙ short_by (is_too_long new.kept) a.goes.1.short))
is_due old new next.NoMemory a =
    λ none.
    let e : a.between ≡ new = sym a.goes.0 in
    let w = a.goes.1 in
    waits_by new w.line w.below w.whole w.says
    (sym (ap (λ (lines : List (List ℕ)). first_said new lines) w.lines)
    ∙ (sym (ap (λ (r : Reader). first_said r (lines_of r.kept)) e) ∙ (sym (past_skips old a.between a.skips) ∙ none)))
