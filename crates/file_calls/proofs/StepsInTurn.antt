-- A step after an accepted step is a step over the files of both.
use Rattle.std.proofs.Common.{◌≡◌, ℕ, ◌+◌, ◌≤◌, List, [], ◌∷◌, ◌++◌, length, Some, None, IfSome, Result, Ok, Err, ◌⊎◌, inl, inr, refl, sym, ap, subst, ◌∙◌, append_assoc, append-nil, length-append, arith}
use Rattle.std.specs.declared.option.Option.{Option}
use Rattle.trapeze_io.specs.Seen.{Seen, Held, OpensAll}
use Rattle.trapeze_io.proofs.Opens.{OpensAll-append, OpensAll-held, OpensAll-faults}
use Rattle.file_calls.specs.declared.error.FileError.{FileError}
use Rattle.file_calls.specs.declared.error.FileError.TheVariants.{Refused, TooLong, Fault, NoMemory}
use Rattle.file_calls.specs.Sources.{Source, names_of, TakesPart, OpensEach, OpensUpTo}
use Rattle.file_calls.specs.Steps.{Step, SaysInTurn, ReachesInTurn, and_then, no_file, one_file, IsCaused, AtPlace, Ends, StepsBy, JudgesBy}
use Rattle.file_calls.proofs.OneFile.{IfSome-map, IfSome-all}

-- the files that were opened

names-append : (first second : List Source) → names_of (first ++ second) ≡ names_of first ++ names_of second
names-append [] second = refl
names-append (s ∷ first) second = ap (λ names. s.name ∷ names) (names-append first second)

-- the last of two lists is the last of the second, if it has one
last_of_both : (first : List Source) (source : Source) (second before : List Source) (last : Source)
    → first ++ source ∷ second ≡ before ++ last ∷ [] → (front : List Source) × (source ∷ second ≡ front ++ last ∷ [])
last_of_both [] source second before last split = (before, split)
last_of_both (x ∷ first) source second [] last split = absurd (let none : length (first ++ source ∷ second) ≡ 0 = cc in omega (arith, none, length-append first (source ∷ second)))
last_of_both (x ∷ first) source second (b ∷ before) last split =
    let rest : first ++ source ∷ second ≡ before ++ last ∷ [] = cc in last_of_both first source second before last rest

both_taken : (first second before : List Source) (last : Source) (old mid new : Seen) → OpensEach first old mid → OpensEach second mid new
    → first ++ second ≡ before ++ last ∷ [] → TakesPart last old.held new.current
both_taken first [] before last old mid new p q split =
    subst (λ (s : Seen). TakesPart last old.held s.current) (sym q.opens) (p.taken before last (sym (append-nil first) ∙ split))
both_taken first (s ∷ second) before last old mid new p q split =
    let l = last_of_both first s second before last split in
    subst (λ (held : Option Held). TakesPart last held new.current) (OpensAll-held (names_of first) old mid p.opens) (q.taken l.0 last l.1)

pub opens_both : (first second : List Source) (old mid new : Seen) → OpensEach first old mid → OpensEach second mid new → OpensEach (first ++ second) old new
opens_both first second old mid new p q = record {
  opens = subst (λ names. OpensAll names old new) (sym (names-append first second)) (OpensAll-append (names_of first) (names_of second) old mid new p.opens q.opens);
  taken = λ before last split. both_taken first second before last old mid new p q split;
}

-- the files of the first step were opened, and then some of the second
pub opens_later : (at : ℕ) (first second : List Source) (place : ℕ) (old mid new : Seen) → OpensEach first old mid
    → OpensUpTo (at + length first) second place mid new → OpensUpTo at (first ++ second) place old new
opens_later at first second place old mid new p q =
    let both = first ++ q.before in
    let names : names_of first ++ names_of (q.before ++ q.last ∷ []) ≡ names_of (both ++ q.last ∷ []) =
    sym (names-append first (q.before ++ q.last ∷ [])) ∙ ap names_of (sym (append_assoc first q.before (q.last ∷ []))) in
    record {
      before = both;
      last = q.last;
      after = q.after;
      split = ap (λ rest. first ++ rest) q.split ∙ sym (append_assoc first q.before (q.last ∷ q.after));
      placed = omega (arith, q.placed, length-append first q.before);
      opens = subst (λ names. OpensAll names old new) names
          (OpensAll-append (names_of first) (names_of (q.before ++ q.last ∷ [])) old mid new p.opens q.opens);
      taken = subst (λ (held : Option Held). TakesPart q.last held new.current) (OpensAll-held (names_of first) old mid p.opens) q.taken;
    }

-- some files of the first step were opened, and none of the second
opens_first : (at : ℕ) (first second : List Source) (place : ℕ) (old new : Seen) → OpensUpTo at first place old new
    → OpensUpTo at (first ++ second) place old new
opens_first at first second place old new p = record {
  before = p.before;
  last = p.last;
  after = p.after ++ second;
  split = ap (λ sources. sources ++ second) p.split ∙ append_assoc p.before (p.last ∷ p.after) second;
  placed = p.placed;
  opens = p.opens;
  taken = p.taken;
}

at_map : {R : Type 0} {P Q : ℕ → Type 0} (error : FileError R) → ((place : ℕ) → P place → Q place) → AtPlace error P → AtPlace error Q
at_map (Refused place refusal) k p = k place p
at_map (TooLong place) k p = k place p
at_map (Fault place) k p = k place p
at_map NoMemory k p = (p.0, k p.0 p.1)

-- why the error came

pub held_told : (P Q : Held → Type 0) (held mid : Option Held) → mid ≡ held → IfSome held (λ h. P h → Q h) → IfSome mid P → IfSome held Q
held_told P Q None mid same k p = tt
held_told P Q (Some h) mid same k p = k (subst (λ (o : Option Held). IfSome o P) same p)

-- a step is a part of a whole one, whose errors and reached files are errors and reached files of the whole
pub record IsPart {X Y R : Type 0} (step : Step X R) (whole : Step Y R) (held : Held) : Type 0 where
  pub errors : (error : FileError R) → step.says held (Err error) → whole.says held (Err error)
  pub reached : (place : ℕ) → step.reaches held place → whole.reaches held place

caused_by : {X Y R : Type 0} (step : Step X R) (whole : Step Y R) (old mid new : Seen) (error : FileError R) → mid.held ≡ old.held → old.faults ≤ mid.faults
    → IfSome old.held (IsPart step whole) → IsCaused step mid new error → IsCaused whole old new error
caused_by step whole old mid new (Refused place refusal) same later part c =
    held_told (λ h. step.says h (Err (Refused place refusal))) (λ h. whole.says h (Err (Refused place refusal))) old.held mid.held same
    (IfSome-map old.held (λ h p. p.errors (Refused place refusal)) part) c
caused_by step whole old mid new (TooLong place) same later part c =
    held_told (λ h. step.says h (Err (TooLong place))) (λ h. whole.says h (Err (TooLong place))) old.held mid.held same
    (IfSome-map old.held (λ h p. p.errors (TooLong place)) part) c
caused_by step whole old mid new (Fault place) same later part c = (
  record { rose = omega (arith, later, c.0.rose); marked = c.0.marked },
  held_told (λ h. step.reaches h place) (λ h. whole.reaches h place) old.held mid.held same (IfSome-map old.held (λ h p. p.reached place) part) c.1,
)
caused_by step whole old mid new NoMemory same later part c = tt

-- the step ended the call, and so the whole one
pub ends_whole : {X Y R : Type 0} (at : ℕ) (sources more : List Source) (step : Step X R) (whole : Step Y R) (old new : Seen) (error : FileError R)
    → IfSome old.held (IsPart step whole) → Ends at sources step old new error → Ends at (sources ++ more) whole old new error
ends_whole at sources more step whole old new error part e = record {
  opened = at_map error (λ place. opens_first at sources more place old new) e.opened;
  caused = caused_by step whole old old new error refl (omega arith) part e.caused;
}

-- a step ended the call after others were accepted
pub ends_after : {X Y R : Type 0} (at : ℕ) (first second : List Source) (step : Step X R) (whole : Step Y R) (old mid new : Seen) (error : FileError R)
    → OpensEach first old mid → IfSome old.held (IsPart step whole) → Ends (at + length first) second step mid new error → Ends at (first ++ second) whole old new error
ends_after at first second step whole old mid new error p part e = record {
  opened = at_map error (λ place. opens_later at first second place old mid new p) e.opened;
  caused = caused_by step whole old mid new error (OpensAll-held (names_of first) old mid p.opens) (OpensAll-faults (names_of first) old mid p.opens) part e.caused;
}

pub part_of_part : {X Y Z R : Type 0} (step : Step X R) (mid : Step Y R) (whole : Step Z R) (held : Held) → IsPart step mid held → IsPart mid whole held → IsPart step whole held
part_of_part step mid whole held p q = record {
  errors = λ error says. q.errors error (p.errors error says);
  reached = λ place reaches. q.reached place (p.reached place reaches);
}

-- of two steps, the first one and the second are parts
pub first_part : {X Y R : Type 0} (step : Step X R) (next : X → Step Y R) (held : Held) → IsPart step (and_then step next) held
first_part step next held = record { errors = λ error says. inl says; reached = λ place reaches. inl reaches }

pub next_part : {X Y R : Type 0} (step : Step X R) (next : X → Step Y R) (x : X) (held : Held) → step.says held (Ok x) → IsPart (next x) (and_then step next) held
next_part step next x held said = record { errors = λ error says. inr (x, said, says); reached = λ place reaches. inr (x, said, reaches) }

pub ends_first : {X Y R : Type 0} (at : ℕ) (sources more : List Source) (step : Step X R) (next : X → Step Y R) (old new : Seen) (error : FileError R)
    → Ends at sources step old new error → Ends at (sources ++ more) (and_then step next) old new error
ends_first at sources more step next old new error e =
    ends_whole at sources more step (and_then step next) old new error (IfSome-all old.held (first_part step next)) e

pub steps_then : {A X Y R : Type 0} (shown : A → Y) (at : ℕ) (first second : List Source) (step : Step X R) (next : X → Step Y R) (x : X) (old mid new : Seen) (result : Result A (FileError R))
    → OpensEach first old mid → IfSome old.held (λ h. step.says h (Ok x)) → StepsBy shown (at + length first) second (next x) mid new result
    → StepsBy shown at (first ++ second) (and_then step next) old new result
steps_then shown at first second step next x old mid new (Ok value) p said q = (
  opens_both first second old mid new p q.0,
  held_told (λ h. (next x).says h (Ok (shown value))) (λ h. (and_then step next).says h (Ok (shown value))) old.held mid.held (OpensAll-held (names_of first) old mid p.opens)
      (IfSome-map old.held (λ h s says. (x, s, says)) said) q.1,
)
steps_then shown at first second step next x old mid new (Err error) p said q =
    ends_after at first second (next x) (and_then step next) old mid new error p (IfSome-map old.held (next_part step next x) said) q

-- all files up to this one were opened, and memory was refused
pub memory_ends : {X R : Type 0} (at : ℕ) (first more : List Source) (last : Source) (step : Step X R) (old new : Seen) → OpensEach (first ++ last ∷ []) old new
    → Ends at (first ++ last ∷ more) step old new NoMemory
memory_ends at first more last step old new p = record {
  opened = (
    at + length first,
    record { before = first; last = last; after = more; split = refl; placed = refl; opens = p.opens; taken = p.taken first last refl },
  );
  caused = tt;
}

-- a file was read, and its bytes were judged
module _ {A X R : Type 0} (shown : A → X) (place : ℕ) (source : Source) (test : List ℕ → Result X (FileError R) → Type 0) (bytes : List ℕ) (old new : Seen) where
  abbrev whole : Step X R
  whole = and_then (one_file place source) (λ bytes. no_file (test bytes))

  refused_here : (at : ℕ) (refusal : R) → at ≡ place → OpensEach (source ∷ []) old new → OpensUpTo place (source ∷ []) at old new
  refused_here at refusal is p =
      record { before = []; last = source; after = []; split = refl; placed = omega (arith, is); opens = p.opens; taken = p.taken [] source refl }

  pub file_judged : (result : Result A (FileError R)) → OpensEach (source ∷ []) old new → IfSome old.held (λ h. (one_file {R = R} place source).says h (Ok bytes))
      → JudgesBy shown place (test bytes) result → StepsBy shown place (source ∷ []) whole old new result
  file_judged (Ok value) p said judged = (p, IfSome-map old.held (λ h is. (bytes, is, judged)) said)
  file_judged (Err (Refused at refusal)) p said judged = record {
    opened = refused_here at refusal judged.0 p;
    caused = IfSome-map old.held (λ h is. inr (bytes, is, judged.1)) said;
  }
  file_judged (Err (TooLong at)) p said judged = absurd judged
  file_judged (Err (Fault at)) p said judged = absurd judged
  file_judged (Err NoMemory) p said judged = memory_ends place [] [] source whole old new p
