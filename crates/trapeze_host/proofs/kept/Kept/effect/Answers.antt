use Rattle.std.proofs.Common.{Some, None, sym, subst}
use Rattle.host_rules.specs.States.{fresh}
use Rattle.shim_calls.specs.declared.effect.Effect.{Effect}
use Rattle.shim_calls.specs.declared.effect.Effect.TheVariants as effect
use Rattle.shim_calls.specs.Performing.{made}
use Rattle.trapeze_host.specs.Loans.{rules_in}
use Rattle.trapeze_host.specs.Turning.{run_of}
use Rattle.trapeze_host.specs.Keeping.{IsWritten, Makes}
use Rattle.trapeze_host.proofs.Performing.{arrive_store, sent_store, keeps_unwritten}
use Rattle.trapeze_host.proofs.kept.Kept.effect.Goals as goal

pub returns-in-Released-clause-moved : goal.returns-in-Released-clause-moved
returns-in-Released-clause-moved g c = λ before s written.
    let rows = g.F.Facets.rows in
    let loan = c.args.lent.now in
    let k = c.args.self.now in
    let r = c.args.run.now in
    let P = rules_in loan in
    let gate = c.in-Released.gate in
    let bytes = c.in-Released.bytes in
    let a = run_of before r in
    let is : IsWritten rows loan k s (made P r.at.number a (Some (effect.Released gate bytes)) s) =
    subst (λ (e : Effect). IsWritten rows loan k s (made P r.at.number a (Some e) s)) c.in-Released.is written in
    subst (λ (e : Effect). Makes rows loan c.let_in.result (made P r.at.number a (Some e) s) c.let_in.new.self c.args.lines.now c.let_in.new.lines) (sym c.in-Released.is)
    (c.let_in.ensures.moved before s (keeps_unwritten rows loan k s (made P r.at.number a (Some (effect.Released gate bytes)) s) is
    (arrive_store P gate.target.number gate.source.number (fresh gate.function bytes None) s)))

pub returns-in-Sent-clause-moved : goal.returns-in-Sent-clause-moved
returns-in-Sent-clause-moved g c = λ before s written.
    let rows = g.F.Facets.rows in
    let loan = c.args.lent.now in
    let k = c.args.self.now in
    let r = c.args.run.now in
    let P = rules_in loan in
    let channel = c.in-Sent.channel in
    let bytes = c.in-Sent.bytes in
    let to = c.in-Sent.to in
    let a = run_of before r in
    let is : IsWritten rows loan k s (made P r.at.number a (Some (effect.Sent channel bytes to)) s) =
    subst (λ (e : Effect). IsWritten rows loan k s (made P r.at.number a (Some e) s)) c.in-Sent.is written in
    subst (λ (e : Effect). Makes rows loan c.send.result (made P r.at.number a (Some e) s) c.send.new.self c.args.lines.now c.send.new.lines) (sym c.in-Sent.is)
    (c.send.ensures.moved before s (keeps_unwritten rows loan k s (made P r.at.number a (Some (effect.Sent channel bytes to)) s) is
    (sent_store P r.at.number a channel bytes to s)))
