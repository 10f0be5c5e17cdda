use Rattle.std.proofs.Common.{Option, sym, subst}
use Rattle.shim_calls.specs.declared.effect.Effect.{Effect}
use Rattle.shim_calls.specs.Performing.{made}
use Rattle.trapeze_host.specs.Loans.{rules_in}
use Rattle.trapeze_host.specs.Turning.{run_of}
use Rattle.trapeze_host.specs.Keeping.{IsWritten, Makes}
use Rattle.trapeze_host.proofs.kept.Kept.follow.Goals as goal

pub returns-in-Some-clause-moved : goal.returns-in-Some-clause-moved
returns-in-Some-clause-moved g c = λ before s written.
    let rows = g.F.Facets.rows in
    let loan = c.args.lent.now in
    let k = c.args.self.now in
    let r = c.args.run.now in
    let P = rules_in loan in
    let a = run_of before r in
    let is = subst (λ (e : Option Effect). IsWritten rows loan k s (made P r.at.number a e s)) c.in-Some.is written in
    subst (λ (e : Option Effect). Makes rows loan c.effect.result (made P r.at.number a e s) c.effect.new.self c.args.lines.now c.effect.new.lines) (sym c.in-Some.is)
    (c.effect.ensures.moved before s is)
