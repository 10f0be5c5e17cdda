-- What a reader hears, line by line.
use Rattle.std.proofs.Common.{◌≡◌, ◌≢◌, ℕ, ◌+◌, ◌<◌, Bool, true, List, [], ◌∷◌, ◌++◌, length, Option, None, Some, Result, Err, ◌⊎◌, inl, inr, cond, refl, sym, ap, ◌∙◌, arith, length-append, append-nil}
use Rattle.event_file.specs.Lines.{lines_of, is_too_long}
use Rattle.event_file.specs.Script.{Entries, entries_from, after, onto}
use Rattle.event_file.specs.Reader.{Reader, said_by}
use Rattle.event_file.specs.Heard.{counting, heard_with}
use Rattle.event_file.specs.Calls.{Skips, Uses, Stops, Advances, Continues, IsShort}
use Rattle.event_file.specs.declared.entry.Entry.{Entry}
use Rattle.event_file.specs.declared.fault.LineFault.{LineFault}
use Rattle.event_file.specs.declared.fault.LineError.{LineError}
use Rattle.event_file.specs.declared.next.Next.{Next}
use Rattle.event_file.specs.declared.next.Next.TheVariants as next
use Rattle.event_file.proofs.SplitLists.{slice_split-append, splice, some_part}
use Rattle.event_file.proofs.WithinLimits.{long_line}
use Rattle.event_file.proofs.Continuing.{is_end, lines-append, skipped_lines, longer_by}

some_lines : (bytes : List ℕ) → 0 < length (lines_of bytes)
some_lines bytes = some_part is_end bytes

pub counting-cons : (line : List ℕ) (lines : List (List ℕ)) → 0 < length lines → counting (line ∷ lines) ≡ line ∷ counting lines
counting-cons line [] l = absurd (omega arith)
counting-cons line (next ∷ lines) l = refl

counting-append : (firsts lines : List (List ℕ)) → 0 < length lines → counting (firsts ++ lines) ≡ firsts ++ counting lines
counting-append [] lines l = refl
counting-append (line ∷ firsts) lines l =
    counting-cons line (firsts ++ lines) (omega (arith, length-append firsts lines)) ∙ ap (λ ls. line ∷ ls) (counting-append firsts lines l)

pub skips_heard : (old new : Reader) (more : List ℕ) → Skips old new → heard_with old more ≡ heard_with new more
skips_heard old new more s =
    let e : old.lines + 1 + length s.skipped ≡ old.lines + length s.skipped + 1 = omega arith in
    ap (λ (lines : List (List ℕ)). entries_from old.known (old.lines + 1) (counting lines))
    (lines-append s.skipped old.kept new.kept more s.whole)
    ∙ (ap (entries_from old.known (old.lines + 1)) (counting-append s.skipped (lines_of (new.kept ++ more)) (some_lines (new.kept ++ more)))
    ∙ (skipped_lines old s.skipped (counting (lines_of (new.kept ++ more))) (old.lines + 1) s.nothing
    ∙ (ap (λ (n : ℕ). entries_from old.known n (counting (lines_of (new.kept ++ more)))) e
    ∙ sym (ap (λ (r : Reader). heard_with r more) s.same))))

uses_heard : (old new : Reader) (entry : Entry) (more : List ℕ) → Uses old new entry → heard_with old more ≡ after (entry ∷ []) (heard_with new more)
uses_heard old new entry more u =
    ap (λ (lines : List (List ℕ)). entries_from old.known (old.lines + 1) (counting lines))
    (lines-append (u.line ∷ []) old.kept new.kept more u.whole)
    ∙ (ap (entries_from old.known (old.lines + 1)) (counting-cons u.line (lines_of (new.kept ++ more)) (some_lines (new.kept ++ more)))
    ∙ (ap (λ (answer : Result (Option Entry) LineFault). onto (old.lines + 1) answer (entries_from old.known (old.lines + 1 + 1) (counting (lines_of (new.kept ++ more))))) u.says
    ∙ sym (ap (λ (r : Reader). after (entry ∷ []) (heard_with r more)) u.same)))

-- a bad line comes with its number
numbered : (bad : LineError) (number : ℕ) (others : Entries) → bad.line ≡ number → onto number (Err bad.fault) others ≡ record { entries = []; bad = Some bad }
numbered bad number others e = ap (λ (n : ℕ). onto n (Err bad.fault) others) (sym e)

-- a line that is too long counts
long_counts : (line : List ℕ) (lines : List (List ℕ)) → is_too_long line ≡ true → counting (line ∷ lines) ≡ line ∷ counting lines
long_counts line [] h = rw h refl
long_counts line (next ∷ lines) h = refl

some_spliced : (parts others : List (List ℕ)) → 0 < length parts → 0 < length (splice parts others)
some_spliced [] others l = absurd (omega arith)
some_spliced (part ∷ []) [] l = omega arith
some_spliced (part ∷ []) (other ∷ others) l = omega arith
some_spliced (part ∷ next ∷ parts) others l = omega arith

ready_by : (r : Reader) (line : List ℕ) (below others : List (List ℕ)) (bad : LineError)
    → (below ≢ []) ⊎ (is_too_long line ≡ true) → said_by r line ≡ Err bad.fault → (number : ℕ) → bad.line ≡ number
    → entries_from r.known number (counting (splice (line ∷ below) others)) ≡ record { entries = []; bad = Some bad }
ready_by r line [] others bad (inl whole) h number e = absurd (whole refl)
ready_by r line [] [] bad (inr long) h number e =
    ap (entries_from r.known number) (long_counts line [] long)
    ∙ (ap (λ (answer : Result (Option Entry) LineFault). onto number answer (record { entries = []; bad = None })) h
    ∙ numbered bad number (record { entries = []; bad = None }) e)
ready_by r line [] (other ∷ others) bad (inr long) h number e =
    let now = long_line r.known line long in
    let longer = longer_by line other long in
    let then = long_line r.known (line ++ other) longer in
    ap (entries_from r.known number) (long_counts (line ++ other) others longer)
    ∙ (ap (λ (answer : Result (Option Entry) LineFault). onto number answer (entries_from r.known (number + 1) (counting others))) (then ∙ (sym now ∙ h))
    ∙ numbered bad number (entries_from r.known (number + 1) (counting others)) e)
ready_by r line (next ∷ below) others bad ready h number e =
    let rest = splice (next ∷ below) others in
    ap (entries_from r.known number) (counting-cons line rest (some_spliced (next ∷ below) others (omega arith)))
    ∙ (ap (λ (answer : Result (Option Entry) LineFault). onto number answer (entries_from r.known (number + 1) (counting rest))) h
    ∙ numbered bad number (entries_from r.known (number + 1) (counting rest)) e)

stops_heard : (old new : Reader) (bad : LineError) (more : List ℕ) → Stops old new bad → heard_with old more ≡ record { entries = []; bad = Some bad }
stops_heard old new bad more s =
    ap (λ (lines : List (List ℕ)). entries_from old.known (old.lines + 1) (counting lines))
    (slice_split-append is_end old.kept more ∙ ap (λ (parts : List (List ℕ)). splice parts (lines_of more)) s.lines)
    ∙ ready_by old s.line s.below (lines_of more) bad s.ready.ready s.faulty (old.lines + 1) s.number

pub hears : (old new : Reader) (answer : Next) (more : List ℕ) → Advances old new answer → Continues heard_with old new answer more
hears old new (next.Entry entry) more a = skips_heard old a.between more a.skips ∙ uses_heard a.between new entry more a.goes
hears old new (next.Bad bad) more a = skips_heard old a.between more a.skips ∙ stops_heard a.between new bad more a.goes
hears old new next.NoLine more a = skips_heard old a.between more a.skips ∙ sym (ap (λ (r : Reader). heard_with r more) a.goes.0)
hears old new next.NoMemory more a = skips_heard old a.between more a.skips ∙ sym (ap (λ (r : Reader). heard_with r more) a.goes.0)

-- a part of a line that is not too long is not heard
pub short_heard : (r : Reader) → IsShort r → heard_with r [] ≡ record { entries = []; bad = None }
short_heard r s =
    ap (λ (bytes : List ℕ). entries_from r.known (r.lines + 1) (counting (lines_of bytes))) (append-nil r.kept)
    ∙ (ap (λ (lines : List (List ℕ)). entries_from r.known (r.lines + 1) (counting lines)) s.part
    ∙ ap (λ (long : Bool). entries_from r.known (r.lines + 1) (cond long (r.kept ∷ []) [])) s.short)
