use Rattle.std.proofs.Common.{◌∙◌, ℕ, List, ap, sym}
use Rattle.label_lattice.specs.Reach.{flows}
use Rattle.facet_list.specs.Rows.{row_of, read_row}
use Rattle.facet_index.specs.declared.steps.StoreAnswer.TheVariants.{Value}
use Rattle.facet_index.specs.Steps.{answer_of, answer_read}
use Rattle.facet_index.proofs.steps.play_step.Goals as goal

pub returns-in_ok-copy-in-Some-read-clause-answer : goal.returns-in_ok-copy-in-Some-read-clause-answer
returns-in_ok-copy-in-Some-read-clause-answer g c =
    let order = flows c.args.lattice.now in let rows = g.F.Facets.rows c.args.facets.now in
    ap Value c.in_ok-copy-in-Some-read.ensures
    ∙ ap answer_read (c.in-Some-read.ensures.value ∙ ap (λ (key : List ℕ). read_row order c.in-Read.at.number (row_of rows key)) c.as_slice-in-Read.ensures)
    ∙ sym (ap (answer_of order (g.F.Facets.limits c.args.facets.now) rows) c.in-Read.is)

pub returns-in-None-read-clause-answer : goal.returns-in-None-read-clause-answer
returns-in-None-read-clause-answer g c =
    let order = flows c.args.lattice.now in let rows = g.F.Facets.rows c.args.facets.now in
    ap answer_read (c.in-None-read.ensures.value ∙ ap (λ (key : List ℕ). read_row order c.in-Read.at.number (row_of rows key)) c.as_slice-in-Read.ensures)
    ∙ sym (ap (answer_of order (g.F.Facets.limits c.args.facets.now) rows) c.in-Read.is)
