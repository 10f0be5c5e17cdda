use Rattle.std.proofs.Common.{ℕ, List, Option, drop, sym, ◌∙◌, ap, arith}
use Rattle.std.specs.Prelude.{option_map}
use Rattle.label_queues.specs.Lists.{list_of}
use Rattle.trapeze_lines.specs.declared.line.Kind.TheVariants as kind
use Rattle.trapeze_lines.specs.Lines.{line_at}
use Rattle.wasm_semantics.specs.Threads.{Thread}
use Rattle.host_rules.specs.States.{State, told, leave}
use Rattle.trapeze_host.specs.Keeping.{serving_of, IsFitActivation}
use Rattle.trapeze_host.proofs.Keeping.{by_line}
use Rattle.trapeze_host.proofs.SoundLists.{sound_list}
use Rattle.trapeze_host.proofs.Closings.{all_drop, keeps_left}
use Rattle.trapeze_host.proofs.kept.Kept.finish.Goals as goal

pub returns-clause-moved : goal.returns-clause-moved
returns-clause-moved g c = λ before s keeps.
    let rows = g.F.Facets.rows in
    let loan = c.args.lent.now in
    let k = c.args.self.now in
    let r = c.args.run.now in
    let l = r.at.number in
    let id : Option (List ℕ) = option_map (λ x. x.id) (option_map serving_of r.serves) in
    let after : State Thread = leave s l in
    by_line rows loan c.say.result _ (line_at l (kind.Turn r.number c.function_name.result c.id_of.result c.args.outcome)) after _ c.args.lines.now c.say.new.lines
    (ap (λ (f : List ℕ). told (line_at l (kind.Turn r.number f id c.args.outcome)) after) (sym c.function_name.ensures)
    ∙ ap (λ (id : Option (List ℕ)). told (line_at l (kind.Turn r.number c.function_name.result id c.args.outcome)) after) (sym c.id_of.ensures))
    (keeps_left rows loan k c.leave.new.self l s keeps (omega (arith, c.requires.run.at, c.requires.sound.lists)) c.leave.ensures.rest)
    c.say.ensures.ok c.say.ensures.err

pub returns-clause-sound : goal.returns-clause-sound
returns-clause-sound g c =
    let loan = c.args.lent.now in
    let k = c.args.self.now in
    let l = c.args.run.now.at.number in
    sound_list g.F.Facets.limits loan k c.leave.new.self l (drop 1 (list_of k.queues l)) c.requires.sound (omega (arith, c.requires.run.at, c.requires.sound.lists)) c.leave.ensures.rest
    (all_drop (IsFitActivation loan k.requests) (list_of k.queues l) (c.requires.sound.fit l))
