use Rattle.std.proofs.Common.{◌∙◌, ◌+◌, ◌++◌, ◌∷◌, [], sym, ap, take, length, arith}
use Rattle.std.proofs.lemmas.List.{take_all}
use Rattle.label_lattice.specs.Reach.{flows}
use Rattle.facet_index.specs.Steps.{rows_played, answer_of, answers_of}
use Rattle.facet_index.proofs.Played.{answers_of-push, step_more, rows_more}
use Rattle.facet_index.proofs.steps.play_steps.Goals as goal

pub steps-preserved : goal.steps-preserved
steps-preserved g c =
    let limits = g.F.Facets.limits c.args.facets.now in
    let rows = g.F.Facets.rows c.args.facets.now in
    let order = flows c.args.lattice.now in
    let step = c.step-item.result in
    let front = take c.steps.step-index c.args.steps.now in
    let more = step_more c.args.steps.now c.steps.step-index step c.steps-test.true c.step-item.is in
    record {
      kept = c.in-Ok.ensures.limits ∙ c.steps.invariant.kept;
      made = rows_more limits _ rows (g.F.Facets.rows c.steps.facets) _ c.args.steps.now c.steps.step-index step c.steps-test.true c.step-item.is c.steps.invariant.kept c.steps.invariant.made c.in-Ok.ensures.rows;
      said = c.in-Ok-push.ensures.items ∙ ap (λ a. c.steps.items.items ++ a ∷ []) (c.in-Ok.ensures.answer ∙ ap (λ ls. answer_of order ls (g.F.Facets.rows c.steps.facets) step) c.steps.invariant.kept
          ∙ ap (λ rs. answer_of order limits rs step) c.steps.invariant.made)
          ∙ ap (λ said. said ++ answer_of order limits (rows_played limits rows front) step ∷ []) c.steps.invariant.said
          ∙ sym (answers_of-push order limits rows front step) ∙ ap (answers_of order limits rows) (sym more);
    }

pub returns-clause-answers : goal.returns-clause-answers
returns-clause-answers g c = c.steps.invariant.said ∙ ap (answers_of (flows c.args.lattice.now) (g.F.Facets.limits c.args.facets.now) (g.F.Facets.rows c.args.facets.now)) (take_all c.steps.step-index c.args.steps.now c.steps-test.false)

pub returns-clause-rows : goal.returns-clause-rows
returns-clause-rows g c = c.steps.invariant.made ∙ ap (rows_played (g.F.Facets.limits c.args.facets.now) (g.F.Facets.rows c.args.facets.now)) (take_all c.steps.step-index c.args.steps.now c.steps-test.false)

pub play_step-requires-clause-labels : goal.play_step-requires-clause-labels
play_step-requires-clause-labels g c = c.requires.labels ∙ ap length (sym c.steps.invariant.kept)

pub returns-in_default-push-clause-part : goal.returns-in_default-push-clause-part
returns-in_default-push-clause-part g c = record {
  made = c.steps.step-index + 1;
  within = let lt = c.steps-test.true in omega (arith, lt);
  rows = rows_more (g.F.Facets.limits c.args.facets.now) _ (g.F.Facets.rows c.args.facets.now) (g.F.Facets.rows c.steps.facets) _ c.args.steps.now c.steps.step-index c.step-item.result c.steps-test.true c.step-item.is
      c.steps.invariant.kept c.steps.invariant.made c.in-Ok.ensures.rows;
}
