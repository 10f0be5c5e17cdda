use Rattle.std.proofs.Common.{◌∷◌, ◌++◌, [], ℕ, List, Some, refl, sym, ◌∙◌, ap, subst, arith}
use Rattle.trapeze_lines.specs.declared.line.Kind.TheVariants as kind
use Rattle.trapeze_lines.specs.Lines.{line_at}
use Rattle.wasm_semantics.specs.Threads.{Thread}
use Rattle.host_rules.specs.Rules.{clearance, client_name}
use Rattle.host_rules.specs.States.{Moved, told, then_lines, answer}
use Rattle.host_rules.specs.Calls.{answer_lines}
use Rattle.trapeze_host.specs.Loans.{rules_in}
use Rattle.trapeze_host.specs.Requests.{request_of}
use Rattle.trapeze_host.specs.Keeping.{serving_of, Made, Makes}
use Rattle.trapeze_host.proofs.Keeping.{by_line, then_makes, none_part}
use Rattle.trapeze_host.proofs.MoreRequests.{sound_more}
use Rattle.trapeze_host.proofs.Replies.{reached, reply_vanishes, reply_reaches, keeps_answered}
use Rattle.trapeze_host.proofs.kept.Kept.reply.Goals as goal

pub returns-then-not-reaches-clause-moved : goal.returns-then-not-reaches-clause-moved
returns-then-not-reaches-clause-moved g c = λ s keeps.
    let rows = g.F.Facets.rows in
    let loan = c.args.lent.now in
    let k = c.args.self.now in
    let l = c.args.at.number in
    let x = c.args.serving.now in
    by_line rows loan c.say.result _ (line_at l (kind.Answer c.client_name-client.result x.id c.args.bytes)) s k c.args.lines.now c.say.new.lines
    (ap (λ (m : Moved Thread). then_lines (answer_lines (rules_in loan) l (Some (serving_of x)) c.args.bytes) m) (reply_vanishes rows loan k s keeps l x c.args.bytes (sym c.if-not-reaches.true ∙ c.reaches.ensures))
    ∙ ap (λ (name : List ℕ). told (line_at l (kind.Answer name x.id c.args.bytes)) s) (sym c.client_name-client.ensures))
    keeps c.say.ensures.ok c.say.ensures.err

pub returns-in_default-say-clause-moved : goal.returns-in_default-say-clause-moved
returns-in_default-say-clause-moved g c = λ s keeps. none_part _ _ _ c.in_default-say.ensures.err

pub returns-clause-moved : goal.returns-clause-moved
returns-clause-moved g c = λ s keeps.
    let rows = g.F.Facets.rows in
    let loan = c.args.lent.now in
    let k = c.args.self.now in
    let l = c.args.at.number in
    let x = c.args.serving.now in
    let q = request_of x.request in
    let name : List ℕ = client_name (rules_in loan) x.client in
    let first = told (line_at l (kind.Answer name x.id c.args.bytes)) s in
    let second = reached rows loan k s keeps l x c.args.bytes in
    let j = record k { requests = c.answer.new.self } in
    let pushed : Made rows loan first k c.args.lines.now c.say-2.new.lines =
    record { keeps = keeps; lines = c.in-Ok-say.ensures.ok ∙ ap (λ (name : List ℕ). c.args.lines.now ++ line_at l (kind.Answer name x.id c.args.bytes) ∷ []) c.client_name-client.ensures } in
    let told_so : Makes rows loan c.say-3.result second j c.say-2.new.lines c.say-3.new.lines =
    by_line rows loan c.say-3.result second (line_at c.clearance.result.number (kind.Reply c.client_name-client.result x.id c.in-Ok.copy)) (answer s q) j c.say-2.new.lines c.say-3.new.lines
    (ap (λ (bytes : List ℕ). told (line_at (clearance (rules_in loan) x.client) (kind.Reply name x.id bytes)) (answer s q)) (sym c.in-Ok.ensures)
    ∙ ap (λ (n : ℕ). told (line_at n (kind.Reply name x.id c.in-Ok.copy)) (answer s q)) (sym c.clearance.ensures.label)
    ∙ ap (λ (name : List ℕ). told (line_at c.clearance.result.number (kind.Reply name x.id c.in-Ok.copy)) (answer s q)) (sym c.client_name-client.ensures))
    (keeps_answered rows loan k s c.answer.new.self q keeps c.answer.ensures.taken c.answer.ensures.answered)
    c.say-3.ensures.ok c.say-3.ensures.err in
    subst (λ (m : Moved Thread). Makes rows loan c.say-3.result (then_lines (answer_lines (rules_in loan) l (Some (serving_of x)) c.args.bytes) m) j c.args.lines.now c.say-3.new.lines)
    (sym (reply_reaches rows loan k s keeps l x c.args.bytes (sym c.if-not-reaches.false ∙ c.reaches.ensures)))
    (then_makes rows loan c.say-3.result first second k j c.args.lines.now c.say-2.new.lines c.say-3.new.lines pushed told_so)

pub returns-clause-sound : goal.returns-clause-sound
returns-clause-sound g c = sound_more g.F.Facets.limits c.args.lent.now c.args.self.now c.answer.new.self c.requires.sound (λ l. omega (arith, ap (λ (f : ℕ → ℕ). f l) c.answer.ensures.taken)) c.answer.ensures.labels c.answer.ensures.room

pub returns-clause-labelled : goal.returns-clause-labelled
returns-clause-labelled g c = λ h. c.say-3.ensures.labelled (c.in-Ok-say.ensures.labelled h)

pub returns-clause-numbers : goal.returns-clause-numbers
returns-clause-numbers g c = record { turns = λ l. refl; requests = λ l. ap (λ (f : ℕ → ℕ). f l) c.answer.ensures.taken }
