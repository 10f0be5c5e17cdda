use Rattle.std.proofs.Common.{ℕ, subst}
use Rattle.sandbox.specs.Threads.{thread_of}
use Rattle.host_rules.specs.States.{then_move}
use Rattle.host_rules.specs.Turns.{stint, closing}
use Rattle.trapeze_host.specs.Adding.{AddsPart}
use Rattle.trapeze_host.specs.Loans.{rules_in, guest_in, module_in}
use Rattle.trapeze_host.specs.Keeping.{Makes}
use Rattle.trapeze_host.specs.Turning.{run_of, end_of}
use Rattle.trapeze_host.proofs.MoreRequests.{run_more, same_more}
use Rattle.trapeze_host.proofs.Keeping.{part_then}
use Rattle.trapeze_host.proofs.Running.{closed, given_is}
use Rattle.trapeze_host.proofs.kept.Kept.run.Goals as goal

pub close-requires-clause-run : goal.close-requires-clause-run
close-requires-clause-run g c = run_more c.args.lent.now c.args.self.now.requests c.stint.new.self.requests (same_more c.args.self.now c.stint.new.self c.in-Ok.ensures.numbers) c.args.run c.requires.run

pub returns-in-Ok-clause-moved : goal.returns-in-Ok-clause-moved
returns-in-Ok-clause-moved g c = λ before s keeps.
    let rows = g.F.Facets.rows in
    let loan = c.args.lent.now in
    let r = c.args.run in
    let l = r.at.number in
    let P = rules_in loan in
    let M = guest_in loan in
    let m = module_in loan r.function in
    let a = run_of before r in
    let t = thread_of m c.args.sandbox in
    let n = c.min-given.result in
    let e = end_of m c.in-Ok.end in
    let o = c.in-Ok.ensures.finished before s keeps in
    let all = closed rows loan c.stint.new.self c.close.new.self c.args.lines.now c.stint.new.lines c.close.new.lines (stint P M l a n t s) e o c.close.result P l r.number n a (c.close.ensures.moved before o.done.state o.keeps) in
    subst (λ (n : ℕ). Makes rows loan c.close.result (then_move (stint P M l a n t s).moved (closing P l r.number a n (stint P M l a n t s).end (stint P M l a n t s).moved.state)) c.close.new.self c.args.lines.now c.close.new.lines)
    (given_is P l a c.limits-limits.result n c.saturating_sub.result c.limits-limits.ensures c.saturating_sub.ensures c.min-given.ensures) all

pub returns-in-Err-clause-moved : goal.returns-in-Err-clause-moved
returns-in-Err-clause-moved g c = λ before s keeps.
    let rows = g.F.Facets.rows in
    let loan = c.args.lent.now in
    let r = c.args.run in
    let l = r.at.number in
    let P = rules_in loan in
    let M = guest_in loan in
    let a = run_of before r in
    let t = thread_of (module_in loan r.function) c.args.sandbox in
    let n = c.min-given.result in
    let x = stint P M l a n t s in
    let all = part_then rows loan x.moved (closing P l r.number a n x.end x.moved.state) c.args.lines.now c.stint.new.lines (c.in-Err.ensures.finished before s keeps) in
    subst (λ (n : ℕ). AddsPart (then_move (stint P M l a n t s).moved (closing P l r.number a n (stint P M l a n t s).end (stint P M l a n t s).moved.state)).lines c.args.lines.now c.stint.new.lines)
    (given_is P l a c.limits-limits.result n c.saturating_sub.result c.limits-limits.ensures c.saturating_sub.ensures c.min-given.ensures) all
