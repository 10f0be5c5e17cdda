use Rattle.std.proofs.Common.{◌≡◌, ◌+◌, ◌<◌, ℕ, List, length, sym, ◌∙◌, ap, subst, arith}
use Rattle.std.specs.Prelude.{slice_index}
use Rattle.std.specs.Vec.{with_item}
use Rattle.std.proofs.Math.ListN.{set}
use Rattle.std.proofs.lemmas.List.{get_or_read, length-map}
use Rattle.label_queues.specs.Lists.{list_of}
use Rattle.trapeze_lines.specs.declared.line.Kind.TheVariants as kind
use Rattle.trapeze_lines.specs.Lines.{line_at}
use Rattle.wasm_semantics.specs.Threads.{Thread}
use Rattle.host_rules.specs.States as rules
use Rattle.host_rules.specs.States.{State, told, count_turn}
use Rattle.host_rules.specs.Turns.{turn_of}
use Rattle.trapeze_host.specs.Loans.{rules_in, guest_in}
use Rattle.trapeze_host.specs.Keeping.{activation_of, Makes}
use Rattle.trapeze_host.proofs.Keeping.{by_line, list_here}
use Rattle.trapeze_host.proofs.Running.{keeps_turn, none_of}
use Rattle.trapeze_host.proofs.kept.Kept.turn.Goals as goal

pub returns-then-len-eq0-clause-moved : goal.returns-then-len-eq0-clause-moved
returns-then-len-eq0-clause-moved g c = λ s keeps.
    let rows = g.F.Facets.rows in
    let loan = c.args.lent.now in
    let k = c.args.self.now in
    let l = c.args.at.number in
    let P = rules_in loan in
    let M = guest_in loan in
    let n = c.index.result.now in
    let place = c.number-place.result in
    let within : place < length k.turns.items = omega (arith, c.requires.at, c.requires.sound.turns, c.number-place.ensures) in
    let read : n ≡ slice_index k.turns.items l = get_or_read k.turns.items place n within c.index.ensures 0 ∙ ap (slice_index k.turns.items) c.number-place.ensures in
    let number : n + 1 ≡ s.turns l + 1 = ap (λ n. n + 1) (read ∙ ap (λ (s : State Thread). s.turns l) keeps.state) in
    let kept = keeps_turn rows loan k (with_item k.turns place (n + 1)) l s keeps (omega (arith, c.requires.at, c.requires.sound.turns))
    (ap (λ p. set k.turns.items p (n + 1)) c.number-place.ensures ∙ ap (λ n. set k.turns.items l (n + 1)) read) in
    let none = none_of (s.lists l) (omega (arith, ap length (list_here rows loan k l s keeps), length-map (list_of k.queues l) (activation_of loan), c.len.ensures.len, c.if-len-eq0.true)) in
    by_line rows loan c.say.result _ (line_at l (kind.Idle (n + 1))) (count_turn s l) _ c.args.lines.now c.say.new.lines
    (ap (λ (xs : List (rules.Activation Thread)). turn_of P M l (s.turns l + 1) xs (count_turn s l)) none ∙ ap (λ (n : ℕ). told (line_at l (kind.Idle n)) (count_turn s l)) (sym number))
    kept c.say.ensures.ok c.say.ensures.err

pub returns-else-len-eq0-clause-moved : goal.returns-else-len-eq0-clause-moved
returns-else-len-eq0-clause-moved g c = λ s keeps.
    let rows = g.F.Facets.rows in
    let loan = c.args.lent.now in
    let k = c.args.self.now in
    let l = c.args.at.number in
    let P = rules_in loan in
    let M = guest_in loan in
    let n = c.index.result.now in
    let place = c.number-place.result in
    let within : place < length k.turns.items = omega (arith, c.requires.at, c.requires.sound.turns, c.number-place.ensures) in
    let read : n ≡ slice_index k.turns.items l = get_or_read k.turns.items place n within c.index.ensures 0 ∙ ap (slice_index k.turns.items) c.number-place.ensures in
    let number : n + 1 ≡ s.turns l + 1 = ap (λ n. n + 1) (read ∙ ap (λ (s : State Thread). s.turns l) keeps.state) in
    let kept = keeps_turn rows loan k (with_item k.turns place (n + 1)) l s keeps (omega (arith, c.requires.at, c.requires.sound.turns))
    (ap (λ p. set k.turns.items p (n + 1)) c.number-place.ensures ∙ ap (λ n. set k.turns.items l (n + 1)) read) in
    subst (λ (n : ℕ). Makes rows loan c.run_front.result (turn_of P M l n (s.lists l) (count_turn s l)) c.run_front.new.self c.args.lines.now c.run_front.new.lines) number (c.run_front.ensures.moved (count_turn s l) kept)
