-- An answer of a reader continues the entries of the bytes that it holds and is fed.
use Rattle.std.proofs.Common.{◌≡◌, ◌≢◌, ℕ, suc, ◌+◌, ◌<◌, Bool, true, List, [], ◌∷◌, ◌++◌, length, Option, None, Some, Result, Ok, Err, ◌⊎◌, inl, inr, refl, sym, ap, ◌∙◌, arith, length-append, nat_eq, take}
use Rattle.std.proofs.lemmas.List.{append-nil, take_all}
use borrow.Author.Tests.{ltb-true, lt-ltb}
use Rattle.event_file.specs.Lines.{lines_of, is_too_long, longest_line}
use Rattle.event_file.specs.Script.{Entries, entries_from, after, onto}
use Rattle.event_file.specs.Reader.{Reader, said_by, entries_with, IsOneLine}
use Rattle.event_file.specs.Calls.{SayNothing, Skips, Uses, Stops, Advances, Continues, Finishes}
use Rattle.event_file.specs.declared.entry.Entry.{Entry}
use Rattle.event_file.specs.declared.fault.LineFault.{LineFault}
use Rattle.event_file.specs.declared.fault.LineError.{LineError}
use Rattle.event_file.specs.declared.next.Next.{Next}
use Rattle.event_file.specs.declared.next.Next.TheVariants as next
use Rattle.event_file.proofs.SplitLists.{slice_split-append, splice-append, splice, some_part}
use Rattle.event_file.proofs.WithinLimits.{long_line, empty_line}

abbrev pub is_end : ℕ → Bool
is_end byte = nat_eq byte 10

-- the lines of bytes that begin with whole lines
pub lines-append : (firsts : List (List ℕ)) (bytes rest more : List ℕ) → lines_of bytes ≡ firsts ++ lines_of rest
    → lines_of (bytes ++ more) ≡ firsts ++ lines_of (rest ++ more)
lines-append firsts bytes rest more h =
    slice_split-append is_end bytes more
    ∙ (ap (λ (parts : List (List ℕ)). splice parts (lines_of more)) h
    ∙ (splice-append firsts (lines_of rest) (lines_of more) (some_part is_end rest)
    ∙ ap (λ (parts : List (List ℕ)). firsts ++ parts) (sym (slice_split-append is_end rest more))))

-- lines that say nothing give no entry
pub skipped_lines : (r : Reader) (skipped lines : List (List ℕ)) (number : ℕ) → SayNothing r skipped
    → entries_from r.known number (skipped ++ lines)
    ≡ entries_from r.known (number + length skipped) lines
skipped_lines r [] lines number h =
    let e : number ≡ number + 0 = omega arith in
    ap (λ (n : ℕ). entries_from r.known n lines) e
skipped_lines r (line ∷ skipped) lines number h =
    let e : number + 1 + length skipped ≡ number + suc (length skipped) = omega arith in
    ap (λ (said : Result (Option Entry) LineFault). onto number said (entries_from r.known (number + 1) (skipped ++ lines))) h.0
    ∙ (skipped_lines r skipped lines (number + 1) h.1
    ∙ ap (λ (n : ℕ). entries_from r.known n lines) e)

pub skips_with : (old new : Reader) (more : List ℕ) → Skips old new → entries_with old more ≡ entries_with new more
skips_with old new more s =
    let e : old.lines + 1 + length s.skipped ≡ old.lines + length s.skipped + 1 = omega arith in
    ap (λ (lines : List (List ℕ)). entries_from old.known (old.lines + 1) lines)
    (lines-append s.skipped old.kept new.kept more s.whole)
    ∙ (skipped_lines old s.skipped (lines_of (new.kept ++ more)) (old.lines + 1) s.nothing
    ∙ (ap (λ (n : ℕ). entries_from old.known n (lines_of (new.kept ++ more))) e
    ∙ sym (ap (λ (r : Reader). entries_with r more) s.same)))

pub uses_with : (old new : Reader) (entry : Entry) (more : List ℕ) → Uses old new entry
    → entries_with old more ≡ after (entry ∷ []) (entries_with new more)
uses_with old new entry more u =
    ap (λ (lines : List (List ℕ)). entries_from old.known (old.lines + 1) lines)
    (lines-append (u.line ∷ []) old.kept new.kept more u.whole)
    ∙ (ap (λ (said : Result (Option Entry) LineFault). onto (old.lines + 1) said (entries_from old.known (old.lines + 1 + 1) (lines_of (new.kept ++ more)))) u.says
    ∙ sym (ap (λ (r : Reader). after (entry ∷ []) (entries_with r more)) u.same))

-- a bad line comes with its number
numbered : (bad : LineError) (number : ℕ) → bad.line ≡ number
    → onto number (Err bad.fault) (record { entries = []; bad = None }) ≡ record { entries = []; bad = Some bad }
numbered bad number e =
    ap (λ (n : ℕ). onto n (Err bad.fault) (record { entries = []; bad = None })) (sym e)

pub longer_by : (line more : List ℕ) → is_too_long line ≡ true → is_too_long (line ++ more) ≡ true
longer_by line more h =
    let l : longest_line < length line = ltb-true longest_line (length line) h in
    lt-ltb longest_line (length (line ++ more)) (omega (arith, length-append line more))

-- the lines of bytes that begin with a bad line, which is whole or too long already
ready_by : (r : Reader) (line : List ℕ) (below others : List (List ℕ)) (bad : LineError)
    → (below ≢ []) ⊎ (is_too_long line ≡ true) → said_by r line ≡ Err bad.fault
    → (number : ℕ) → bad.line ≡ number
    → entries_from r.known number (splice (line ∷ below) others) ≡ record { entries = []; bad = Some bad }
ready_by r line [] others bad (inl whole) h number e = absurd (whole refl)
ready_by r line [] [] bad (inr long) h number e =
    ap (λ (said : Result (Option Entry) LineFault). onto number said (record { entries = []; bad = None })) h
    ∙ numbered bad number e
ready_by r line [] (other ∷ others) bad (inr long) h number e =
    let now = long_line r.known line long in
    let then = long_line r.known (line ++ other) (longer_by line other long) in
    ap (λ (said : Result (Option Entry) LineFault). onto number said (entries_from r.known (number + 1) others)) (then ∙ (sym now ∙ h))
    ∙ numbered bad number e
ready_by r line (next ∷ below) others bad ready h number e =
    ap (λ (said : Result (Option Entry) LineFault). onto number said (entries_from r.known (number + 1) (splice (next ∷ below) others))) h
    ∙ numbered bad number e

pub stops_with : (old new : Reader) (bad : LineError) (more : List ℕ) → Stops old new bad
    → entries_with old more ≡ record { entries = []; bad = Some bad }
stops_with old new bad more s =
    ap (λ (lines : List (List ℕ)). entries_from old.known (old.lines + 1) lines)
    (slice_split-append is_end old.kept more ∙ ap (λ (parts : List (List ℕ)). splice parts (lines_of more)) s.lines)
    ∙ ready_by old s.line s.below (lines_of more) bad s.ready.ready s.faulty (old.lines + 1) s.number

-- the answer continues the entries
pub continues : (old new : Reader) (answer : Next) (more : List ℕ) → Advances old new answer → Continues entries_with old new answer more
continues old new (next.Entry entry) more a = skips_with old a.between more a.skips ∙ uses_with a.between new entry more a.goes
continues old new (next.Bad bad) more a = skips_with old a.between more a.skips ∙ stops_with a.between new bad more a.goes
continues old new next.NoLine more a =
    skips_with old a.between more a.skips ∙ sym (ap (λ (r : Reader). entries_with r more) a.goes.0)
continues old new next.NoMemory more a =
    skips_with old a.between more a.skips ∙ sym (ap (λ (r : Reader). entries_with r more) a.goes.0)

-- what an unfinished last line says, to a reader whose feeding has ended
last_said : (old mid : Reader) (said : Result (Option Entry) LineFault) (len : ℕ) → mid ≡ record old { finished = true }
    → len ≡ length mid.kept → said_by mid (take len mid.kept) ≡ said → said_by old old.kept ≡ said
last_said old mid said len same e says =
    let kept : take len mid.kept ≡ old.kept =
    ap (λ (n : ℕ). take n mid.kept) e ∙ (take_all (length mid.kept) mid.kept (omega arith) ∙ ap (λ (r : Reader). r.kept) same) in
    ap (λ (line : List ℕ). said_by old line) (sym kept) ∙ (sym (ap (λ (r : Reader). said_by r (take len mid.kept)) same) ∙ says)

-- a bad unfinished last line is answered, and is all that is left
abbrev pub bad_last : Reader → LineFault → LineError
bad_last mid fault = record { line = mid.lines + 1; fault = fault }

pub finishes_bad : (old mid new : Reader) (fault : LineFault) (len : ℕ) → mid ≡ record old { finished = true } → len ≡ length mid.kept
    → said_by mid (take len mid.kept) ≡ Err fault → new ≡ record mid { bad = Some (bad_last mid fault) }
    → Finishes old new (next.Bad (bad_last mid fault))
finishes_bad old mid new fault len same e says is = (
  last_said old mid (Err fault) len same e says,
  ap (λ (r : Reader). r.lines + 1) same,
  is ∙ ap (λ (r : Reader). record r { bad = Some (bad_last mid fault) }) same,
)

pub completes_bad : (old mid : Reader) (fault : LineFault) (len : ℕ) → IsOneLine old.kept → mid ≡ record old { finished = true }
    → len ≡ length mid.kept → said_by mid (take len mid.kept) ≡ Err fault
    → entries_with old [] ≡ record { entries = []; bad = Some (bad_last mid fault) }
completes_bad old mid fault len one same e says =
    let said : said_by old old.kept ≡ Err fault = last_said old mid (Err fault) len same e says in
    let lines : lines_of (old.kept ++ []) ≡ old.kept ∷ [] = ap lines_of (append-nil old.kept) ∙ one in
    let number : old.lines ≡ mid.lines = sym (ap (λ (r : Reader). r.lines) same) in
    ap (λ (parts : List (List ℕ)). entries_from old.known (old.lines + 1) parts) lines
    ∙ (ap (λ (answer : Result (Option Entry) LineFault). onto (old.lines + 1) answer (record { entries = []; bad = None })) said
    ∙ ap (λ (n : ℕ). record { entries = []; bad = Some (record { line = n + 1; fault = fault }) }) number)

-- an unfinished last line gives its entry, and the reader that used it up has no more
pub completes_entry : (old mid new : Reader) (entry : Entry) (len : ℕ) → IsOneLine old.kept
    → mid ≡ record old { finished = true } → len ≡ length mid.kept → said_by mid (take len mid.kept) ≡ Ok (Some entry)
    → new.kept ≡ [] → entries_with old [] ≡ after (entry ∷ []) (entries_with new [])
completes_entry old mid new entry len one same e says used =
    let said : said_by old old.kept ≡ Ok (Some entry) = last_said old mid (Ok (Some entry)) len same e says in
    let lines : lines_of (old.kept ++ []) ≡ old.kept ∷ [] = ap lines_of (append-nil old.kept) ∙ one in
    let none : lines_of (new.kept ++ []) ≡ [] ∷ [] = ap (λ (bytes : List ℕ). lines_of (bytes ++ [])) used in
    let left : entries_with new [] ≡ record { entries = []; bad = None } =
    ap (λ (parts : List (List ℕ)). entries_from new.known (new.lines + 1) parts) none
    ∙ ap (λ (answer : Result (Option Entry) LineFault). onto (new.lines + 1) answer (record { entries = []; bad = None }))
    (empty_line new.known) in
    ap (λ (parts : List (List ℕ)). entries_from old.known (old.lines + 1) parts) lines
    ∙ (ap (λ (answer : Result (Option Entry) LineFault). onto (old.lines + 1) answer (record { entries = []; bad = None })) said
    ∙ sym (ap (λ (others : Entries). after (entry ∷ []) others) left))
