use Rattle.std.proofs.Common.{◌≡◌, ◌+◌, ℕ, List, Some, length, ◌∙◌, ap, subst, arith}
use Rattle.wasm_semantics.specs.Threads.{Thread}
use Rattle.host_rules.specs.States as rules
use Rattle.host_rules.specs.States.{State, fresh, count_request}
use Rattle.host_rules.specs.Effects.{arrive}
use Rattle.trapeze_host.specs.declared.kept.Serving.{Serving}
use Rattle.trapeze_host.specs.Loans.{rules_in}
use Rattle.trapeze_host.specs.Keeping.{IsServed, Makes}
use Rattle.trapeze_host.proofs.MoreRequests.{sound_more}
use Rattle.trapeze_host.proofs.Asking.{taken_more, taken_raised, taken_here, keeps_taken, fit_asked}
use Rattle.trapeze_host.proofs.kept.Kept.ask.Goals as goal

pub returns-in_default-take-clause-sound : goal.returns-in_default-take-clause-sound
returns-in_default-take-clause-sound g c = sound_more g.F.Facets.limits c.args.lent.now c.args.self.now c.take.new.self c.requires.sound (λ l. omega (arith, ap (λ (f : ℕ → ℕ). f l) c.in_default-take.ensures.refused))
    c.in_default-take.ensures.labels c.in_default-take.ensures.room

pub returns-in_default-take-clause-raised : goal.returns-in_default-take-clause-raised
returns-in_default-take-clause-raised g c = record { turns = λ l. omega arith; requests = λ l. omega (arith, ap (λ (f : ℕ → ℕ). f l) c.in_default-take.ensures.refused) }

pub arrive-requires-clause-sound : goal.arrive-requires-clause-sound
arrive-requires-clause-sound g c = sound_more g.F.Facets.limits c.args.lent.now c.args.self.now c.take.new.self c.requires.sound
    (taken_more c.args.self.now.requests c.take.new.self c.args.at.number c.in-Ok-take.number c.in-Ok-take.ensures.number c.in-Ok-take.ensures.taken) c.in-Ok-take.ensures.labels c.in-Ok-take.ensures.room

pub arrive-requires-clause-fit : goal.arrive-requires-clause-fit
arrive-requires-clause-fit g c =
    let loan = c.args.lent.now in
    let x : Serving = record { request = record { label = c.args.at; number = c.in-Ok-take.number }; client = c.args.client; id = c.args.id } in
    let served : IsServed loan c.take.new.self x = record {
      client = c.requires.client;
      label = c.requires.at;
      request = record {
        from_one = omega (arith, c.in-Ok-take.ensures.number);
        to_last = omega (arith, taken_here c.args.self.now.requests c.take.new.self c.args.at.number c.in-Ok-take.number c.in-Ok-take.ensures.number c.in-Ok-take.ensures.taken);
      };
    } in
    fit_asked loan c.take.new.self c.args.function 0 c.in-Ok.input x c.requires.function (omega (arith, c.requires.body, ap length c.in-Ok.ensures)) served

pub returns-clause-moved : goal.returns-clause-moved
returns-clause-moved g c = λ s keeps.
    let rows = g.F.Facets.rows in
    let loan = c.args.lent.now in
    let k = c.args.self.now in
    let l = c.args.at.number in
    let r = k.requests in
    let kept = keeps_taken rows loan k c.take.new.self l c.in-Ok-take.number s keeps c.in-Ok-take.ensures.number c.in-Ok-take.ensures.taken c.take.ensures.answered in
    let number : c.in-Ok-take.number ≡ s.requests l + 1 = c.in-Ok-take.ensures.number ∙ ap (λ n. n + 1) (ap (λ (s : State Thread). s.requests l) keeps.state) in
    let asked = λ (input : List ℕ) (n : ℕ). (let a : rules.Activation Thread = fresh c.args.function input (Some (record { request = record { label = l; number = n }; client = c.args.client; id = c.args.id })) in a) in
    subst (λ (a : rules.Activation Thread). Makes rows loan c.arrive.result (arrive (rules_in loan) l l a (count_request s l)) c.arrive.new.self c.args.lines.now c.arrive.new.lines)
    (ap (λ (input : List ℕ). asked input c.in-Ok-take.number) c.in-Ok.ensures ∙ ap (λ (n : ℕ). asked c.args.body.now n) number)
    (c.arrive.ensures.moved (count_request s l) kept)

pub returns-clause-raised : goal.returns-clause-raised
returns-clause-raised g c = record {
  turns = λ l. omega (arith, c.arrive.ensures.numbers.turns l);
  requests = λ l. omega (arith, c.arrive.ensures.numbers.requests l, taken_raised c.args.self.now.requests c.take.new.self c.args.at.number c.in-Ok-take.number c.in-Ok-take.ensures.number c.in-Ok-take.ensures.taken l);
}
