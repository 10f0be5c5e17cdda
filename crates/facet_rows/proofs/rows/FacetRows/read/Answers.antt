use Rattle.std.proofs.Common.{◌∙◌, ◌<◌, ◌≡◌, sym, ap, subst, Some, None, ℕ, List}
use Rattle.std.specs.Prelude.{All}
use Rattle.std.specs.Option.{option_copied}
use Rattle.std.specs.Map.{lookup}
use Rattle.label_lattice.specs.Order.{count}
use Rattle.label_lattice.specs.Reach.{flows}
use Rattle.facet_list.specs.Rows.{Row, read_row, row_of}
use Rattle.facet_rows.specs.Rows.{rows_in}
use Rattle.facet_rows.proofs.MapRows.{row_found, finds}
use Rattle.facet_rows.proofs.rows.FacetRows.read.Goals as goal

pub read-requires-clause-labels : goal.read-requires-clause-labels
read-requires-clause-labels c =
    let es = c.self.inside.rows.entries in
    let h : lookup (finds c.args.key.now) es ≡ Some c.in-Some.row.now = sym c.get.ensures.value ∙ ap option_copied c.in-Some.is in
    subst (λ (row : Row). All (λ m. m.0 < count c.args.lattice.now) row)
    (ap (λ (s : List (List ℕ × Row)). row_of (rows_in s) c.args.key.now) (sym c.self.view_is) ∙ row_found es c.args.key.now (Some c.in-Some.row.now) h) (c.requires.labels c.args.key.now)

pub returns-in-Some : goal.returns-in-Some
returns-in-Some c =
    let es = c.self.inside.rows.entries in
    let h : lookup (finds c.args.key.now) es ≡ Some c.in-Some.row.now = sym c.get.ensures.value ∙ ap option_copied c.in-Some.is in
    c.read.ensures ∙ ap (read_row (flows c.args.lattice.now) c.args.at.number) (sym (row_found es c.args.key.now (Some c.in-Some.row.now) h)
    ∙ ap (λ (s : List (List ℕ × Row)). row_of (rows_in s) c.args.key.now) c.self.view_is)

pub returns-in-None : goal.returns-in-None
returns-in-None c =
    let es = c.self.inside.rows.entries in
    ap (read_row (flows c.args.lattice.now) c.args.at.number) (sym (row_found es c.args.key.now None (sym c.get.ensures.value ∙ ap option_copied c.in-None.is))
    ∙ ap (λ (s : List (List ℕ × Row)). row_of (rows_in s) c.args.key.now) c.self.view_is)
