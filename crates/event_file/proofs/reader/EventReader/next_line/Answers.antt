use Rattle.std.proofs.Common.{◌+◌, length, refl, ap, ◌∙◌, arith, length-drop}
use Rattle.event_file.specs.Reader.{Reader}
use Rattle.event_file.specs.Calls.{Advances}
use Rattle.event_file.specs.declared.next.Next.TheVariants as next
use Rattle.event_file.specs.declared.fault.LineFault.TheVariants.{LineTooLong}
use Rattle.event_file.proofs.Continuing.{continues, skips_with}
use Rattle.event_file.proofs.HeardLines.{hears, skips_heard}
use Rattle.event_file.proofs.DueAnswers.{is_due}
use Rattle.event_file.proofs.Advancing.{skips_more, skips_same, first_same, one_line_same, within_same, answered, at_first, advances_entry, advances_bad, advances_long, advances_none, advances_waiting, short_one}
use Rattle.event_file.proofs.reader.EventReader.next_line.Goals as goal

pub lines-preserved : goal.lines-preserved
lines-preserved c =
    let mid = c.line_end.new.self in
    let same = c.line_end.ensures.same in
    let used = c.use_first.ensures in
    let says = rw c.in-Ok-None.field-0-is at c.in-Ok-None.ensures.said in
    let kept = ap (λ (r : Reader). length r.kept) used in
    let before = ap (λ (r : Reader). length r.kept) same in
    record {
      skips =
          skips_more c.args.self.now mid c.use_first.new.self _ _ (skips_same _ _ mid same c.lines.invariant.skips)
          (first_same c.lines.self mid c.in-Some-line_end.len same c.in-Some-line_end.ensures.end.1) says used;
      none = ap (λ (r : Reader). r.bad) used ∙ (ap (λ (r : Reader). r.bad) same ∙ c.lines.invariant.none);
      shrinks = omega (arith, kept, before, length-drop (c.in-Some-line_end.len + 1) mid.kept, c.lines.invariant.shrinks);
    }

given : (c : goal.After-use_first-in-Ok-Some)
    → Advances c.args.self.now c.use_first-in-Ok-Some.new.self (next.Entry c.in-Ok-Some.entry)
given c =
    let mid = c.line_end.new.self in
    let same = c.line_end.ensures.same in
    let says = rw c.in-Ok-Some.field-0-is at c.in-Ok-Some.ensures.said in
    advances_entry c.args.self.now mid c.use_first-in-Ok-Some.new.self _ _ c.in-Ok-Some.entry
    (skips_same _ _ mid same c.lines.invariant.skips)
    (first_same c.lines.self mid c.in-Some-line_end.len same c.in-Some-line_end.ensures.end.1) says c.use_first-in-Ok-Some.ensures

pub returns-in-Ok-Some-clause-due : goal.returns-in-Ok-Some-clause-due
returns-in-Ok-Some-clause-due c =
    λ none. is_due c.args.self.now c.use_first-in-Ok-Some.new.self (next.Entry c.in-Ok-Some.entry) (given c)

pub returns-in-Ok-Some-clause-entries : goal.returns-in-Ok-Some-clause-entries
returns-in-Ok-Some-clause-entries c =
    λ none more. continues c.args.self.now c.use_first-in-Ok-Some.new.self (next.Entry c.in-Ok-Some.entry) more (given c)

pub returns-in-Ok-Some-clause-within : goal.returns-in-Ok-Some-clause-within
returns-in-Ok-Some-clause-within c =
    let says = rw c.in-Ok-Some.field-0-is at c.in-Ok-Some.ensures.said in
    within_same _ _ c.in-Ok-Some.entry c.use_first-in-Ok-Some.new.self
    (ap (λ (r : Reader). r.known) c.use_first-in-Ok-Some.ensures) says

faulty : (c : goal.After-stop) → Advances c.args.self.now c.stop.new.self c.stop.result
faulty c =
    let mid = c.line_end.new.self in
    let same = c.line_end.ensures.same in
    let says = rw c.in-Err-Fault.field-0-is at c.in-Err-Fault.ensures.said in
    answered c.args.self.now c.stop.new.self (next.Bad (at_first mid c.in-Err-Fault.fault)) c.stop.result c.stop.ensures.bad
    (advances_bad c.args.self.now mid c.stop.new.self _ _ c.in-Err-Fault.fault (skips_same _ _ mid same c.lines.invariant.skips)
    (first_same c.lines.self mid c.in-Some-line_end.len same c.in-Some-line_end.ensures.end.1) (says c.in-Err-Fault.fault refl) c.stop.ensures.same)

pub returns-in-Err-Fault-clause-due : goal.returns-in-Err-Fault-clause-due
returns-in-Err-Fault-clause-due c = λ none. is_due c.args.self.now c.stop.new.self c.stop.result (faulty c)

pub returns-in-Err-Fault-clause-answer : goal.returns-in-Err-Fault-clause-answer
returns-in-Err-Fault-clause-answer c = λ none. faulty c

pub returns-in-Err-Fault-clause-entries : goal.returns-in-Err-Fault-clause-entries
returns-in-Err-Fault-clause-entries c = λ none more. continues c.args.self.now c.stop.new.self c.stop.result more (faulty c)

waiting : (c : goal.In-Err-NoMemory) → Advances c.args.self.now c.line_end.new.self next.NoMemory
waiting c =
    let mid = c.line_end.new.self in
    let same = c.line_end.ensures.same in
    advances_waiting c.args.self.now mid _ _ (skips_same _ _ mid same c.lines.invariant.skips)
    (first_same c.lines.self mid c.in-Some-line_end.len same c.in-Some-line_end.ensures.end.1)
    (λ says. let h = c.in-Err-NoMemory.ensures.nothing says in absurd (cc))

pub returns-in-Err-NoMemory-clause-due : goal.returns-in-Err-NoMemory-clause-due
returns-in-Err-NoMemory-clause-due c = λ none. is_due c.args.self.now c.line_end.new.self next.NoMemory (waiting c)

pub returns-in-Err-NoMemory-clause-answer : goal.returns-in-Err-NoMemory-clause-answer
returns-in-Err-NoMemory-clause-answer c = λ none. waiting c

pub returns-in-Err-NoMemory-clause-entries : goal.returns-in-Err-NoMemory-clause-entries
returns-in-Err-NoMemory-clause-entries c = λ none more. continues c.args.self.now c.line_end.new.self next.NoMemory more (waiting c)

long : (c : goal.After-stop-then-held-gt-LONGEST_LINE)
    → Advances c.args.self.now c.stop-then-held-gt-LONGEST_LINE.new.self c.stop-then-held-gt-LONGEST_LINE.result
long c =
    let mid = c.line_end.new.self in
    let same = c.line_end.ensures.same in
    let stopped = c.stop-then-held-gt-LONGEST_LINE in
    answered c.args.self.now stopped.new.self (next.Bad (at_first mid LineTooLong)) stopped.result stopped.ensures.bad
    (advances_long c.args.self.now mid stopped.new.self (skips_same _ _ mid same c.lines.invariant.skips)
    (one_line_same c.lines.self mid same c.in_default-line_end.ensures.end) (omega arith) stopped.ensures.same)

pub returns-then-held-gt-LONGEST_LINE-clause-due : goal.returns-then-held-gt-LONGEST_LINE-clause-due
returns-then-held-gt-LONGEST_LINE-clause-due c =
    λ none. is_due c.args.self.now c.stop-then-held-gt-LONGEST_LINE.new.self c.stop-then-held-gt-LONGEST_LINE.result (long c)

pub returns-then-held-gt-LONGEST_LINE-clause-answer : goal.returns-then-held-gt-LONGEST_LINE-clause-answer
returns-then-held-gt-LONGEST_LINE-clause-answer c = λ none. long c

pub returns-then-held-gt-LONGEST_LINE-clause-entries : goal.returns-then-held-gt-LONGEST_LINE-clause-entries
returns-then-held-gt-LONGEST_LINE-clause-entries c =
    λ none more. continues c.args.self.now c.stop-then-held-gt-LONGEST_LINE.new.self c.stop-then-held-gt-LONGEST_LINE.result more (long c)

pub returns-clause-due : goal.returns-clause-due
returns-clause-due c =
    let mid = c.line_end.new.self in
    let same = c.line_end.ensures.same in
    let one = one_line_same c.lines.self mid same c.in_default-line_end.ensures.end in
    λ none. is_due c.args.self.now mid next.NoLine
    (advances_none c.args.self.now mid (skips_same _ _ mid same c.lines.invariant.skips) (short_one mid one (omega arith)))

pub returns-clause-entries : goal.returns-clause-entries
returns-clause-entries c =
    λ none more. skips_with c.args.self.now c.line_end.new.self more
    (skips_same _ _ c.line_end.new.self c.line_end.ensures.same c.lines.invariant.skips)

pub returns-in-Ok-Some-clause-heard : goal.returns-in-Ok-Some-clause-heard
returns-in-Ok-Some-clause-heard c =
    λ none more. hears c.args.self.now c.use_first-in-Ok-Some.new.self (next.Entry c.in-Ok-Some.entry) more (given c)

pub returns-in-Err-Fault-clause-heard : goal.returns-in-Err-Fault-clause-heard
returns-in-Err-Fault-clause-heard c = λ none more. hears c.args.self.now c.stop.new.self c.stop.result more (faulty c)

pub returns-in-Err-NoMemory-clause-heard : goal.returns-in-Err-NoMemory-clause-heard
returns-in-Err-NoMemory-clause-heard c = λ none more. hears c.args.self.now c.line_end.new.self next.NoMemory more (waiting c)

pub returns-then-held-gt-LONGEST_LINE-clause-heard : goal.returns-then-held-gt-LONGEST_LINE-clause-heard
returns-then-held-gt-LONGEST_LINE-clause-heard c =
    λ none more. hears c.args.self.now c.stop-then-held-gt-LONGEST_LINE.new.self c.stop-then-held-gt-LONGEST_LINE.result more (long c)

pub returns-clause-heard : goal.returns-clause-heard
returns-clause-heard c =
    λ none more. skips_heard c.args.self.now c.line_end.new.self more
    (skips_same _ _ c.line_end.new.self c.line_end.ensures.same c.lines.invariant.skips)
