-- How a reader advances, by the first of the lines kept.
use Rattle.std.proofs.Common.{◌≡◌, ◌≢◌, ℕ, ◌+◌, ◌<◌, ◌≤◌, List, [], ◌∷◌, ◌++◌, length, None, Some, Ok, Err, inl, inr, refl, sym, ap, ◌∙◌, subst, arith, append_assoc, length-append, add-zero, take, drop}
use borrow.Author.Tests.{lt-ltb, le-ltb}
use Rattle.event_file.specs.Known.{Known}
use Rattle.event_file.specs.Lines.{lines_of, longest_line}
use Rattle.event_file.specs.Script.{IsWithin, line_of}
use Rattle.event_file.specs.Reader.{Reader, said_by, IsOneLine}
use Rattle.event_file.specs.Calls.{SayNothing, Skips, Uses, Stops, IsShort, Advances, bad_after}
use Rattle.event_file.specs.declared.entry.Entry.{Entry}
use Rattle.event_file.specs.declared.fault.LineFault.{LineFault}
use Rattle.event_file.specs.declared.fault.LineFault.TheVariants.{LineTooLong}
use Rattle.event_file.specs.declared.fault.LineError.{LineError}
use Rattle.event_file.specs.declared.next.Next.{Next}
use Rattle.event_file.specs.declared.next.Next.TheVariants as next
use Rattle.event_file.proofs.SplitLists.{some_part}
use Rattle.event_file.proofs.Continuing.{is_end}
use Rattle.event_file.proofs.WithinLimits.{long_line, line_within}

-- the first line is whole, and this rest follows it
pub record First (reader : Reader) (line rest : List ℕ) : Type 0 where
  pub lines : lines_of reader.kept ≡ line ∷ lines_of rest

-- the first line is used and counted
abbrev pub Used : Reader → Reader → List ℕ → Type 0
Used old new rest = new ≡ record old { kept = rest; lines = old.lines + 1 }

pub skips_none : (r : Reader) → Skips r r
skips_none r = record {
  skipped = [];
  nothing = tt;
  whole = refl;
  same = ap (λ (n : ℕ). record r { lines = n }) (sym (add-zero r.lines));
}

nothing_push : (r : Reader) (skipped : List (List ℕ)) (line : List ℕ) → SayNothing r skipped → said_by r line ≡ Ok None
    → SayNothing r (skipped ++ line ∷ [])
nothing_push r [] line h e = (e, tt)
nothing_push r (first ∷ skipped) line h e = (h.0, nothing_push r skipped line h.1 e)

pub skips_more : (old mid new : Reader) (line rest : List ℕ) → Skips old mid → First mid line rest
    → said_by mid line ≡ Ok None → Used mid new rest → Skips old new
skips_more old mid new line rest s f says used =
    let kept : new.kept ≡ rest = ap (λ (r : Reader). r.kept) used in
    let before : mid.lines ≡ old.lines + length s.skipped = ap (λ (r : Reader). r.lines) s.same in
    let count : mid.lines + 1 ≡ old.lines + length (s.skipped ++ line ∷ []) = omega (arith, length-append s.skipped (line ∷ [])) in
    let same_names : said_by mid line ≡ said_by old line = ap (λ (r : Reader). said_by r line) s.same in
    record {
      skipped = s.skipped ++ line ∷ [];
      nothing = nothing_push old s.skipped line s.nothing (sym same_names ∙ says);
      whole =
          s.whole
          ∙ (ap (λ (lines : List (List ℕ)). s.skipped ++ lines) (f.lines ∙ ap (λ (bytes : List ℕ). line ∷ lines_of bytes) (sym kept))
          ∙ sym (append_assoc s.skipped (line ∷ []) (lines_of new.kept)));
      same =
          used
          ∙ (ap (λ (r : Reader). record r { kept = rest; lines = mid.lines + 1 }) s.same
          ∙ (ap (λ (bytes : List ℕ). record old { kept = bytes; lines = mid.lines + 1 }) (sym kept)
          ∙ ap (λ (n : ℕ). record old { kept = new.kept; lines = n }) count));
    }

pub advances_entry : (old mid new : Reader) (line rest : List ℕ) (entry : Entry) → Skips old mid → First mid line rest
    → said_by mid line ≡ Ok (Some entry) → Used mid new rest → Advances old new (next.Entry entry)
advances_entry old mid new line rest entry s f says used =
    let kept : new.kept ≡ rest = ap (λ (r : Reader). r.kept) used in
    record {
      between = mid;
      skips = s;
      goes = record {
        line = line;
        says = says;
        whole = f.lines ∙ ap (λ (bytes : List ℕ). line ∷ lines_of bytes) (sym kept);
        same = used ∙ ap (λ (bytes : List ℕ). record mid { kept = bytes; lines = mid.lines + 1 }) (sym kept);
      };
    }

some_lines : (bytes : List ℕ) → lines_of bytes ≢ []
some_lines bytes h = absurd (omega (arith, some_part is_end bytes, ap length h))

-- the bad line of a fault at the first line
abbrev pub at_first : Reader → LineFault → LineError
at_first r fault = record { line = r.lines + 1; fault = fault }

pub advances_bad : (old mid new : Reader) (line rest : List ℕ) (fault : LineFault) → Skips old mid → First mid line rest
    → said_by mid line ≡ Err fault → new ≡ record mid { bad = Some (at_first mid fault) }
    → Advances old new (next.Bad (at_first mid fault))
advances_bad old mid new line rest fault s f says same = record {
  between = mid;
  skips = s;
  goes = record {
    line = line;
    below = lines_of rest;
    lines = f.lines;
    ready = record { ready = inl (some_lines rest) };
    faulty = says;
    number = refl;
    same = same;
  };
}

pub advances_long : (old mid new : Reader) → Skips old mid → IsOneLine mid.kept → longest_line < length mid.kept
    → new ≡ record mid { bad = Some (at_first mid LineTooLong) } → Advances old new (next.Bad (at_first mid LineTooLong))
advances_long old mid new s one long same =
    let test = lt-ltb longest_line (length mid.kept) long in
    record {
      between = mid;
      skips = s;
      goes = record {
        line = mid.kept;
        below = [];
        lines = one;
        ready = record { ready = inr test };
        faulty = long_line mid.known mid.kept test;
        number = refl;
        same = same;
      };
    }

pub short_one : (r : Reader) → IsOneLine r.kept → length r.kept ≤ longest_line → IsShort r
short_one r one short = record { part = one; short = le-ltb longest_line (length r.kept) short }

pub advances_none : (old new : Reader) → Skips old new → IsShort new → Advances old new next.NoLine
advances_none old new s short = record { between = new; skips = s; goes = (refl, short) }

pub advances_waiting : (old new : Reader) (line rest : List ℕ) → Skips old new → First new line rest
    → said_by new line ≢ Ok None → Advances old new next.NoMemory
advances_waiting old new line rest s f says = record {
  between = new;
  skips = s;
  goes = (refl, record { line = line; below = lines_of rest; lines = f.lines; whole = some_lines rest; says = says });
}

-- what stays the same
pub stays_skipped : (old new : Reader) → Skips old new → new ≡ record old { kept = new.kept; lines = new.lines }
stays_skipped old new s =
    s.same ∙ ap (λ (n : ℕ). record old { kept = new.kept; lines = n }) (sym (ap (λ (r : Reader). r.lines) s.same))

stays_entry : (old mid new : Reader) (entry : Entry) → Skips old mid → Uses mid new entry
    → new ≡ record old { kept = new.kept; lines = new.lines }
stays_entry old mid new entry s u =
    u.same
    ∙ (ap (λ (r : Reader). record r { kept = new.kept; lines = mid.lines + 1 }) s.same
    ∙ ap (λ (n : ℕ). record old { kept = new.kept; lines = n }) (sym (ap (λ (r : Reader). r.lines) u.same)))

stays_bad : (old mid new : Reader) (bad : LineError) → Skips old mid → Stops mid new bad
    → new ≡ record old { kept = new.kept; lines = new.lines; bad = Some bad }
stays_bad old mid new bad s t =
    let kept : new.kept ≡ mid.kept = ap (λ (r : Reader). r.kept) t.same in
    let lines : new.lines ≡ mid.lines = ap (λ (r : Reader). r.lines) t.same in
    t.same
    ∙ (ap (λ (r : Reader). record r { kept = mid.kept; lines = mid.lines; bad = Some bad }) s.same
    ∙ (ap (λ (bytes : List ℕ). record old { kept = bytes; lines = mid.lines; bad = Some bad }) (sym kept)
    ∙ ap (λ (n : ℕ). record old { kept = new.kept; lines = n; bad = Some bad }) (sym lines)))

pub stays : (old new : Reader) (answer : Next) → Advances old new answer
    → new ≡ record old { kept = new.kept; lines = new.lines; bad = bad_after old.bad answer }
stays old new (next.Entry entry) a = stays_entry old a.between new entry a.skips a.goes
stays old new (next.Bad bad) a = stays_bad old a.between new bad a.skips a.goes
stays old new next.NoLine a =
    let P : Reader → Type 0 = λ r. r ≡ record old { kept = r.kept; lines = r.lines } in
    subst P (sym a.goes.0) (stays_skipped old a.between a.skips)
stays old new next.NoMemory a =
    let P : Reader → Type 0 = λ r. r ≡ record old { kept = r.kept; lines = r.lines } in
    subst P (sym a.goes.0) (stays_skipped old a.between a.skips)

-- the same reader, told by another name
pub skips_same : (old mid same : Reader) → same ≡ mid → Skips old mid → Skips old same
skips_same old mid same e s = let P : Reader → Type 0 = λ r. Skips old r in subst P (sym e) s

pub first_same : (mid same : Reader) (len : ℕ) → same ≡ mid
    → lines_of mid.kept ≡ take len mid.kept ∷ lines_of (drop (len + 1) mid.kept)
    → First same (take len same.kept) (drop (len + 1) same.kept)
first_same mid same len e h =
    let P : Reader → Type 0 = λ r. First r (take len r.kept) (drop (len + 1) r.kept) in
    subst P (sym e) (record { lines = h })

pub within_same : (known : Known) (line : List ℕ) (entry : Entry) (new : Reader)
    → new.known ≡ known → line_of known line ≡ Ok (Some entry) → IsWithin new.known entry
within_same known line entry new same says =
    let P : Known → Type 0 = λ k. IsWithin k entry in
    subst P (sym same) (line_within known line entry says)

-- the clauses of an answer that is told by another name
pub answered : (old new : Reader) (answer same : Next) → same ≡ answer → Advances old new answer → Advances old new same
answered old new answer same e a = let P : Next → Type 0 = λ n. Advances old new n in subst P (sym e) a

pub one_line_same : (mid same : Reader) → same ≡ mid → IsOneLine mid.kept → IsOneLine same.kept
one_line_same mid same e h = let P : Reader → Type 0 = λ r. IsOneLine r.kept in subst P (sym e) h
