use Rattle.std.proofs.Common.{Some, sym, subst}
use Rattle.trapeze_lines.specs.declared.outcome.Outcome.TheVariants as outcome
use Rattle.wasm_semantics.specs.Threads.{Thread}
use Rattle.sandbox.specs.Threads.{thread_of}
use Rattle.host_rules.specs.States.{Activation}
use Rattle.host_rules.specs.Effects.{arrive}
use Rattle.host_rules.specs.Turns.{ends}
use Rattle.trapeze_host.specs.declared.requests.Requests.{Requests}
use Rattle.trapeze_host.specs.declared.kept.Activation.{Activation as Kept_activation}
use Rattle.trapeze_host.specs.Loans.{rules_in, module_in}
use Rattle.trapeze_host.specs.Keeping.{IsFitActivation}
use Rattle.trapeze_host.specs.Turning.{run_of}
use Rattle.trapeze_host.proofs.Keeping.{then_makes, part_then}
use Rattle.trapeze_host.proofs.Closings.{fit_run}
use Rattle.trapeze_host.proofs.kept.Kept.raise.Goals as goal

pub returns-in_default-clause-moved : goal.returns-in_default-clause-moved
returns-in_default-clause-moved g c = λ before given s keeps.
    let loan = c.args.lent.now in
    let P = rules_in loan in
    let r = c.args.run in
    let l = r.at.number in
    let first = ends P l r.number (run_of before r) outcome.Raised s in
    let next : Activation Thread = record (run_of before r) { thread = Some (thread_of (module_in loan r.function) c.args.sandbox) } in
    part_then g.F.Facets.rows loan first (arrive P c.args.label.number l next first.state) c.args.lines.now c.finish.new.lines (c.in_default.ensures.moved before s keeps)

pub arrive-requires-clause-fit : goal.arrive-requires-clause-fit
arrive-requires-clause-fit g c =
    let loan = c.args.lent.now in
    let r = c.args.run in
    let a : Kept_activation = record { function = r.function; input = r.input; serves = r.serves; sandbox = Some c.args.sandbox; used = 0 } in
    subst (λ (t : Requests). IsFitActivation loan t a) (sym c.finish.ensures.requests) (fit_run loan c.args.self.now.requests r c.args.sandbox 0 c.requires.run c.requires.ready)

pub returns-clause-moved : goal.returns-clause-moved
returns-clause-moved g c = λ before given s keeps.
    let rows = g.F.Facets.rows in
    let loan = c.args.lent.now in
    let P = rules_in loan in
    let r = c.args.run in
    let l = r.at.number in
    let first = ends P l r.number (run_of before r) outcome.Raised s in
    let next : Activation Thread = record (run_of before r) { thread = Some (thread_of (module_in loan r.function) c.args.sandbox) } in
    let made = c.in-Ok.ensures.moved before s keeps in
    then_makes rows loan c.arrive.result first (arrive P c.args.label.number l next first.state) c.finish.new.self c.arrive.new.self c.args.lines.now c.finish.new.lines c.arrive.new.lines
    made (c.arrive.ensures.moved first.state made.keeps)
