use Rattle.std.proofs.Common.{◌≡◌, ◌<◌, ◌+◌, ℕ, ◌∷◌, ◌++◌, [], List, Option, length, sym, ◌∙◌, ap, subst, arith}
use Rattle.label_queues.specs.Lists.{list_of, limit_of}
use Rattle.trapeze_lines.specs.declared.line.Kind.TheVariants.{Dropped, Start}
use Rattle.trapeze_lines.specs.Lines.{line_at}
use Rattle.wasm_semantics.specs.Threads.{Thread}
use Rattle.host_rules.specs.States.{State, told, push}
use Rattle.std.specs.Prelude.{option_map}
use Rattle.trapeze_host.specs.Keeping.{serving_of, activation_of, Keeps, IsFitActivation}
use Rattle.trapeze_host.proofs.Adding.{all_push}
use Rattle.trapeze_host.proofs.Keeping.{by_line, keeps_list, keeps_same_list}
use Rattle.trapeze_host.proofs.SoundLists.{sound_list}
use Rattle.trapeze_host.proofs.Arrivals.{full, room, pushed, ok_or_err, err_when}
use Rattle.trapeze_host.proofs.kept.Kept.arrive.Goals as goal

-- a number that is not the greatest one may be raised
not_full : (n m : ℕ) → (n ≡ m → ⊥) → n < m + 1 → n < m
not_full n m h k = omega arith

pub returns-in-Ok-clause-moved : goal.returns-in-Ok-clause-moved
returns-in-Ok-clause-moved g c = λ s keeps.
    let rows = g.F.Facets.rows in
    let loan = c.args.lent.now in
    let k = c.args.self.now in
    let l = c.args.at.number in
    let m = c.args.from.number in
    let a = c.args.activation in
    let id : Option (List ℕ) = option_map (λ x. x.id) (option_map serving_of a.serves) in
    let sound = c.requires.sound in
    let free : length (list_of k.queues l) < limit_of k.queues l = not_full _ _ (ok_or_err _ _ c.in-Ok.ensures.full) (omega (arith, c.len-within.ensures.len, c.len-within.ensures.within)) in
    let after : State Thread = push s l (record (activation_of loan a) { used = 0 }) in
    by_line rows loan c.say.result _ (line_at l (Start c.args.from c.function_name-function.result c.id_of-id.result)) after _ c.args.lines.now c.say.new.lines
    (room rows g.F.Facets.limits loan k l m a s sound keeps free
    ∙ ap (λ (f : List ℕ). told (line_at l (Start c.args.from f id)) after) (sym c.function_name-function.ensures)
    ∙ ap (λ (id : Option (List ℕ)). told (line_at l (Start c.args.from c.function_name-function.result id)) after) (sym c.id_of-id.ensures))
    (subst (Keeps rows loan _) (pushed rows g.F.Facets.limits loan k l m a s sound keeps c.requires.unused)
    (keeps_list rows loan k c.arrive.new.self l (list_of k.queues l ++ a ∷ []) s keeps (omega (arith, c.requires.at, sound.lists)) c.in-Ok.ensures.ok))
    c.say.ensures.ok c.say.ensures.err

pub returns-in-Ok-clause-sound : goal.returns-in-Ok-clause-sound
returns-in-Ok-clause-sound g c =
    let k = c.args.self.now in
    let l = c.args.at.number in
    sound_list g.F.Facets.limits c.args.lent.now k c.arrive.new.self l (list_of k.queues l ++ c.args.activation ∷ []) c.requires.sound (omega (arith, c.requires.at, c.requires.sound.lists)) c.in-Ok.ensures.ok
    (all_push (IsFitActivation c.args.lent.now k.requests) (list_of k.queues l) c.args.activation (c.requires.sound.fit l) c.requires.fit)

pub returns-in-Err-default-Full-clause-moved : goal.returns-in-Err-default-Full-clause-moved
returns-in-Err-default-Full-clause-moved g c = λ s keeps.
    let rows = g.F.Facets.rows in
    let loan = c.args.lent.now in
    let k = c.args.self.now in
    let l = c.args.at.number in
    let m = c.args.from.number in
    let a = c.args.activation in
    let id : Option (List ℕ) = option_map (λ x. x.id) (option_map serving_of a.serves) in
    by_line rows loan c.say-in-Err-default-Full.result _ (line_at l (Dropped c.function_name-function.result c.id_of-id.result)) s _ c.args.lines.now c.say-in-Err-default-Full.new.lines
    (full rows g.F.Facets.limits loan k l m a s c.requires.sound keeps (err_when _ _ _ _ c.in-Err-default-Full.ensures.err.0 c.in-Err-default-Full.field-0-1-is c.in-Err-default-Full.ensures.full)
    ∙ ap (λ (f : List ℕ). told (line_at l (Dropped f id)) s) (sym c.function_name-function.ensures)
    ∙ ap (λ (id : Option (List ℕ)). told (line_at l (Dropped c.function_name-function.result id)) s) (sym c.id_of-id.ensures))
    (keeps_same_list rows loan k c.arrive.new.self s keeps c.in-Err-default-Full.ensures.err.1)
    c.say-in-Err-default-Full.ensures.ok c.say-in-Err-default-Full.ensures.err
