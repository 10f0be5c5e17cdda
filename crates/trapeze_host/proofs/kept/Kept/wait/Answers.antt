use Rattle.std.proofs.Common.{ℕ, ◌≡◌, ◌+◌, ◌++◌, ◌∷◌, [], List, Option, Some, drop, sym, ◌∙◌, ap, arith}
use Rattle.std.specs.Prelude.{option_map}
use Rattle.label_queues.specs.Lists.{list_of, with_list}
use Rattle.trapeze_lines.specs.declared.line.Kind.TheVariants as kind
use Rattle.trapeze_lines.specs.declared.outcome.Outcome.TheVariants as outcome
use Rattle.trapeze_lines.specs.Lines.{line_at}
use Rattle.wasm_semantics.specs.Threads.{Thread}
use Rattle.host_rules.specs.States.{State, told, leave, push}
use Rattle.trapeze_host.specs.declared.kept.Activation.{Activation}
use Rattle.trapeze_host.specs.Keeping.{serving_of, activation_of, IsFitActivation}
use Rattle.trapeze_host.proofs.Adding.{all_push}
use Rattle.trapeze_host.proofs.Keeping.{by_line}
use Rattle.trapeze_host.proofs.SoundLists.{sound_list}
use Rattle.trapeze_host.proofs.Closings.{all_drop, replaced_turned, keeps_turned, fit_run}
use Rattle.trapeze_host.proofs.kept.Kept.wait.Goals as goal

pub returns-clause-moved : goal.returns-clause-moved
returns-clause-moved g c = λ before s keeps.
    let rows = g.F.Facets.rows in
    let loan = c.args.lent.now in
    let k = c.args.self.now in
    let r = c.args.run in
    let l = r.at.number in
    let id : Option (List ℕ) = option_map (λ x. x.id) (option_map serving_of r.serves) in
    let a : Activation = record { function = r.function; input = r.input; serves = r.serves; sandbox = Some c.args.sandbox; used = r.used + c.args.given } in
    let after : State Thread = push (leave s l) l (activation_of loan a) in
    let queues : c.rotate.new.self ≡ with_list k.queues l (drop 1 (list_of k.queues l) ++ a ∷ []) =
    replaced_turned k.queues c.replace_front.new.queues c.rotate.new.self l a (omega (arith, c.requires.run.at, c.requires.sound.lists)) c.requires.some c.replace_front.ensures.after c.rotate.ensures in
    by_line rows loan c.say.result _ (line_at l (kind.Turn r.number c.function_name.result c.id_of.result outcome.Waits)) after _ c.args.lines.now c.say.new.lines
    (ap (λ (f : List ℕ). told (line_at l (kind.Turn r.number f id outcome.Waits)) after) (sym c.function_name.ensures)
    ∙ ap (λ (id : Option (List ℕ)). told (line_at l (kind.Turn r.number c.function_name.result id outcome.Waits)) after) (sym c.id_of.ensures))
    (keeps_turned rows loan k c.rotate.new.self l s keeps a (omega (arith, c.requires.run.at, c.requires.sound.lists)) queues)
    c.say.ensures.ok c.say.ensures.err

pub returns-clause-sound : goal.returns-clause-sound
returns-clause-sound g c =
    let loan = c.args.lent.now in
    let k = c.args.self.now in
    let r = c.args.run in
    let l = r.at.number in
    let a : Activation = record { function = r.function; input = r.input; serves = r.serves; sandbox = Some c.args.sandbox; used = r.used + c.args.given } in
    let queues : c.rotate.new.self ≡ with_list k.queues l (drop 1 (list_of k.queues l) ++ a ∷ []) =
    replaced_turned k.queues c.replace_front.new.queues c.rotate.new.self l a (omega (arith, c.requires.run.at, c.requires.sound.lists)) c.requires.some c.replace_front.ensures.after c.rotate.ensures in
    sound_list g.F.Facets.limits loan k c.rotate.new.self l (drop 1 (list_of k.queues l) ++ a ∷ []) c.requires.sound (omega (arith, c.requires.run.at, c.requires.sound.lists)) queues
    (all_push (IsFitActivation loan k.requests) (drop 1 (list_of k.queues l)) a (all_drop (IsFitActivation loan k.requests) (list_of k.queues l) (c.requires.sound.fit l))
    (fit_run loan k.requests r c.args.sandbox (r.used + c.args.given) c.requires.run c.requires.ready))
