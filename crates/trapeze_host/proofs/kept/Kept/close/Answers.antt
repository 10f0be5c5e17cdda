use Rattle.std.proofs.Common.{◌≡◌, ◌≢◌, ◌+◌, sym, ◌∙◌, ap, subst}
use Rattle.label_limits.specs.declared.limits.Limits.{Limits}
use Rattle.wasm_semantics.specs.Threads.{Thread}
use Rattle.host_rules.specs.Rules.{limits_at}
use Rattle.host_rules.specs.States.{Moved}
use Rattle.trapeze_host.specs.declared.runs.Ending.{Ending}
use Rattle.trapeze_host.specs.Loans.{rules_in}
use Rattle.trapeze_host.specs.Keeping.{Makes}
use Rattle.trapeze_host.specs.Turning.{run_closes}
use Rattle.trapeze_host.proofs.Closings.{fuel_used, fuel_left}
use Rattle.trapeze_host.proofs.kept.Kept.close.Goals as goal

pub returns-in-Ended-clause-moved : goal.returns-in-Ended-clause-moved
returns-in-Ended-clause-moved g c = λ before s keeps.
    let loan = c.args.lent.now in
    let r = c.args.run in
    subst (λ (e : Ending). Makes g.F.Facets.rows loan c.finish.result (run_closes loan r before c.args.given e s)
    c.finish.new.self c.args.lines.now c.finish.new.lines) (sym c.in-Ended.is) (c.finish.ensures.moved before s keeps)

pub returns-in-Trapped-clause-moved : goal.returns-in-Trapped-clause-moved
returns-in-Trapped-clause-moved g c = λ before s keeps.
    let loan = c.args.lent.now in
    let r = c.args.run in
    subst (λ (e : Ending). Makes g.F.Facets.rows loan c.finish-in-Trapped.result (run_closes loan r before c.args.given e s)
    c.finish-in-Trapped.new.self c.args.lines.now c.finish-in-Trapped.new.lines) (sym c.in-Trapped.is) (c.finish-in-Trapped.ensures.moved before s keeps)

pub returns-in-Raised-clause-moved : goal.returns-in-Raised-clause-moved
returns-in-Raised-clause-moved g c = λ before s keeps.
    let loan = c.args.lent.now in
    let r = c.args.run in
    subst (λ (e : Ending). Makes g.F.Facets.rows loan c.raise.result (run_closes loan r before c.args.given e s)
    c.raise.new.self c.args.lines.now c.raise.new.lines) (sym c.in-Raised.is) (c.raise.ensures.moved before c.args.given s keeps)

pub returns-then-run-given-clause-moved : goal.returns-then-run-given-clause-moved
returns-then-run-given-clause-moved g c = λ before s keeps.
    let loan = c.args.lent.now in
    let r = c.args.run in
    let same : r.used + c.args.given ≡ (limits_at (rules_in loan) r.at.number).fuel = c.if-run-given.true ∙ ap (λ (x : Limits). x.fuel) c.limits.ensures in
    subst (λ (e : Ending). Makes g.F.Facets.rows loan c.finish-then-run-given.result (run_closes loan r before c.args.given e s) c.finish-then-run-given.new.self c.args.lines.now c.finish-then-run-given.new.lines) (sym c.in-Spent.is)
    (subst (λ (m : Moved Thread). Makes g.F.Facets.rows loan c.finish-then-run-given.result m c.finish-then-run-given.new.self c.args.lines.now c.finish-then-run-given.new.lines) (sym (fuel_used loan r before c.args.given c.in-Spent.sandbox s same))
    (c.finish-then-run-given.ensures.moved before s keeps))

pub returns-else-run-given-clause-moved : goal.returns-else-run-given-clause-moved
returns-else-run-given-clause-moved g c = λ before s keeps.
    let loan = c.args.lent.now in
    let r = c.args.run in
    let other : r.used + c.args.given ≢ (limits_at (rules_in loan) r.at.number).fuel = λ e. c.if-run-given.false (e ∙ sym (ap (λ (x : Limits). x.fuel) c.limits.ensures)) in
    subst (λ (e : Ending). Makes g.F.Facets.rows loan c.wait.result (run_closes loan r before c.args.given e s) c.wait.new.self c.args.lines.now c.wait.new.lines) (sym c.in-Spent.is)
    (subst (λ (m : Moved Thread). Makes g.F.Facets.rows loan c.wait.result m c.wait.new.self c.args.lines.now c.wait.new.lines) (sym (fuel_left loan r before c.args.given c.in-Spent.sandbox s other))
    (c.wait.ensures.moved before s keeps))
