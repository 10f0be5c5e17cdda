use Rattle.std.proofs.Common.{None, sym, subst, arith}
use Rattle.std.specs.Prelude.{option_map}
use Rattle.wasm_semantics.specs.Threads.{Thread}
use Rattle.sandbox.specs.Threads.{thread_of}
use Rattle.host_rules.specs.States.{Moved}
use Rattle.trapeze_host.specs.declared.kept.Activation.{Activation}
use Rattle.trapeze_host.specs.Loans.{rules_in, guest_in, module_in}
use Rattle.label_queues.specs.Lists.{list_of}
use Rattle.trapeze_host.specs.Keeping.{Makes, IsFitActivation}
use Rattle.trapeze_host.proofs.Closings.{all_front}
use Rattle.trapeze_host.proofs.Running.{sound_husk, front_run, husked, keeps_husk, turn_runs, turn_traps}
use Rattle.trapeze_host.proofs.kept.Kept.run_front.Goals as goal

pub run-requires-clause-sound : goal.run-requires-clause-sound
run-requires-clause-sound g c = sound_husk g.F.Facets.limits c.args.lent.now c.args.self.now c.replace_front-front.new.queues c.args.at.number c.replace_front-front.result c.new.result c.requires.sound c.requires.at
    c.replace_front-front.ensures.front c.new.ensures c.replace_front-front.ensures.after

pub run-requires-clause-run : goal.run-requires-clause-run
run-requires-clause-run g c = front_run g.F.Facets.limits c.args.lent.now c.args.self.now c.args.at c.args.number c.replace_front-front.result c.requires.sound c.requires.at c.replace_front-front.ensures.front

pub close-requires-clause-sound : goal.close-requires-clause-sound
close-requires-clause-sound g c = sound_husk g.F.Facets.limits c.args.lent.now c.args.self.now c.replace_front-front.new.queues c.args.at.number c.replace_front-front.result c.new.result c.requires.sound c.requires.at
    c.replace_front-front.ensures.front c.new.ensures c.replace_front-front.ensures.after

pub close-requires-clause-run : goal.close-requires-clause-run
close-requires-clause-run g c = front_run g.F.Facets.limits c.args.lent.now c.args.self.now c.args.at c.args.number c.replace_front-front.result c.requires.sound c.requires.at c.replace_front-front.ensures.front

pub returns-in-Ok-Ready-clause-moved : goal.returns-in-Ok-Ready-clause-moved
returns-in-Ok-Ready-clause-moved g c = λ s keeps.
    let rows = g.F.Facets.rows in
    let loan = c.args.lent.now in
    let k = c.args.self.now in
    let l = c.args.at.number in
    let husk : Activation = record { function = 0; input = c.new.result; serves = None; sandbox = None; used = 0 } in
    let front = c.replace_front-front.result in
    let queues = c.replace_front-front.new.queues in
    let first = c.replace_front-front.ensures.front in
    let before = option_map (thread_of (module_in loan front.function)) front.sandbox in
    let stood = keeps_husk rows loan k queues l s keeps front husk first (omega (arith, c.requires.at, c.requires.sound.lists)) c.replace_front-front.ensures.after in
    let runs = turn_runs rows loan k queues l s keeps front husk first (c.the_running_place_is_not_looked_at.ensures (rules_in loan) (guest_in loan)) c.args.number c.in-Ok-Ready.field-0 c.in-Ok-Ready.ensures c.in-Ok-Ready.sandbox c.in-Ok-Ready.field-0-is in
    subst (λ (m : Moved Thread). Makes rows loan c.run.result m c.run.new.self c.args.lines.now c.run.new.lines) (sym runs) (c.run.ensures.moved before (husked rows loan k queues l s keeps front husk first) stood)

pub returns-in-Ok-Pages-clause-moved : goal.returns-in-Ok-Pages-clause-moved
returns-in-Ok-Pages-clause-moved g c = λ s keeps.
    let rows = g.F.Facets.rows in
    let loan = c.args.lent.now in
    let k = c.args.self.now in
    let l = c.args.at.number in
    let husk : Activation = record { function = 0; input = c.new.result; serves = None; sandbox = None; used = 0 } in
    let front = c.replace_front-front.result in
    let queues = c.replace_front-front.new.queues in
    let first = c.replace_front-front.ensures.front in
    let before = option_map (thread_of (module_in loan front.function)) front.sandbox in
    let stood = keeps_husk rows loan k queues l s keeps front husk first (omega (arith, c.requires.at, c.requires.sound.lists)) c.replace_front-front.ensures.after in
    let traps = turn_traps rows loan k queues l s keeps front husk first (c.the_running_place_is_not_looked_at.ensures (rules_in loan) (guest_in loan)) c.args.number c.in-Ok-Pages.field-0 c.in-Ok-Pages.ensures c.in-Ok-Pages.field-0-is in
    subst (λ (m : Moved Thread). Makes rows loan c.close.result m c.close.new.self c.args.lines.now c.close.new.lines) (sym traps) (c.close.ensures.moved before (husked rows loan k queues l s keeps front husk first) stood)

pub returns-in-Err-clause-sound : goal.returns-in-Err-clause-sound
returns-in-Err-clause-sound g c = sound_husk g.F.Facets.limits c.args.lent.now c.args.self.now c.replace_front-front.new.queues c.args.at.number c.replace_front-front.result c.new.result c.requires.sound c.requires.at
    c.replace_front-front.ensures.front c.new.ensures c.replace_front-front.ensures.after

pub begin-requires-clause-ready : goal.begin-requires-clause-ready
begin-requires-clause-ready g c =
    (all_front (IsFitActivation c.args.lent.now c.args.self.now.requests) (list_of c.args.self.now.queues c.args.at.number) c.replace_front-front.result
    c.replace_front-front.ensures.front (c.requires.sound.fit c.args.at.number)).ready
