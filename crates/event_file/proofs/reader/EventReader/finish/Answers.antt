use Rattle.std.proofs.Common.{true, refl, sym, ap, subst}
use Rattle.event_file.specs.Reader.{Reader}
use Rattle.event_file.specs.Calls.{Finishes, Completes}
use Rattle.event_file.specs.declared.next.Next.{Next}
use Rattle.event_file.proofs.Continuing.{completes_entry, finishes_bad, completes_bad}
use Rattle.event_file.proofs.Advancing.{within_same}
use Rattle.event_file.proofs.reader.EventReader.finish.Goals as goal

pub returns-in-Ok-Some-clause-entries : goal.returns-in-Ok-Some-clause-entries
returns-in-Ok-Some-clause-entries c =
    let says = rw c.in-Ok-Some.field-0-is at c.in-Ok-Some.ensures.said in
    let used = c.use_last-in-Ok-Some.ensures in
    λ none. completes_entry c.args.self.now _ c.use_last-in-Ok-Some.new.self c.in-Ok-Some.entry c.held-len.result (c.requires none)
    (ap (λ (r : Reader). record r { finished = true }) c.self.view_is) c.held-len.ensures says (ap (λ (r : Reader). r.kept) used)

pub returns-in-Ok-Some-clause-within : goal.returns-in-Ok-Some-clause-within
returns-in-Ok-Some-clause-within c =
    let says = rw c.in-Ok-Some.field-0-is at c.in-Ok-Some.ensures.said in
    within_same _ _ c.in-Ok-Some.entry c.use_last-in-Ok-Some.new.self (ap (λ (r : Reader). r.known) c.use_last-in-Ok-Some.ensures) says

pub returns-in-Err-Fault-clause-answer : goal.returns-in-Err-Fault-clause-answer
returns-in-Err-Fault-clause-answer c =
    let says = rw c.in-Err-Fault.field-0-is at c.in-Err-Fault.ensures.said in
    let bad = finishes_bad c.args.self.now _ c.stop.new.self c.in-Err-Fault.fault c.held-len.result
    (ap (λ (r : Reader). record r { finished = true }) c.self.view_is) c.held-len.ensures (says c.in-Err-Fault.fault refl) c.stop.ensures.same in
    λ none. subst (λ (n : Next). Finishes c.args.self.now c.stop.new.self n) (sym c.stop.ensures.bad) bad

pub returns-in-Err-Fault-clause-entries : goal.returns-in-Err-Fault-clause-entries
returns-in-Err-Fault-clause-entries c =
    let says = rw c.in-Err-Fault.field-0-is at c.in-Err-Fault.ensures.said in
    λ none. let bad = completes_bad c.args.self.now _ c.in-Err-Fault.fault c.held-len.result (c.requires none)
    (ap (λ (r : Reader). record r { finished = true }) c.self.view_is) c.held-len.ensures (says c.in-Err-Fault.fault refl) in
    subst (λ (n : Next). Completes c.args.self.now c.stop.new.self n) (sym c.stop.ensures.bad) bad
