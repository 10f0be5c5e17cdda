use Rattle.std.proofs.Common.{◌∙◌, ◌≡◌, sym, ap, Some, ℕ, List}
use Rattle.std.specs.Prelude.{option_map}
use Rattle.std.specs.Borrow.{Bor}
use Rattle.std.specs.Option.{option_copied}
use Rattle.std.specs.Map.{lookup}
use Rattle.facet_list.specs.Rows.{Member, Row, facet_at}
use Rattle.facet_rows.specs.Rows.{rows_in}
use Rattle.facet_rows.proofs.MapRows.{facet_found, facet_missing, finds}
use Rattle.facet_rows.proofs.rows.FacetRows.last.Goals as goal

pub returns-in_default : goal.returns-in_default
returns-in_default c =
    sym (facet_missing c.self.inside.rows.entries c.args.key.now c.args.at.number (sym c.get.ensures.value ∙ ap option_copied c.in_default.is))
    ∙ ap (λ (s : List (List ℕ × Row)). facet_at (rows_in s) (c.args.key.now, c.args.at.number)) c.self.view_is

pub returns-in_default-find : goal.returns-in_default-find
returns-in_default-find c =
    let h : lookup (finds c.args.key.now) c.self.inside.rows.entries ≡ Some c.in-Some.row.now = sym c.get.ensures.value ∙ ap option_copied c.in-Some.is in
    sym (ap (option_map (λ (m : Bor Member). m.now.1)) c.in_default-find.is) ∙ c.find.ensures
    ∙ sym (facet_found c.self.inside.rows.entries c.args.key.now c.args.at.number c.in-Some.row.now h)
    ∙ ap (λ (s : List (List ℕ × Row)). facet_at (rows_in s) (c.args.key.now, c.args.at.number)) c.self.view_is

pub returns : goal.returns
returns c =
    let h : lookup (finds c.args.key.now) c.self.inside.rows.entries ≡ Some c.in-Some.row.now = sym c.get.ensures.value ∙ ap option_copied c.in-Some.is in
    ap Some c.value.ensures
    ∙ sym (ap (option_map (λ (m : Bor Member). m.now.1)) c.in-Some-find.is) ∙ c.find.ensures
    ∙ sym (facet_found c.self.inside.rows.entries c.args.key.now c.args.at.number c.in-Some.row.now h)
    ∙ ap (λ (s : List (List ℕ × Row)). facet_at (rows_in s) (c.args.key.now, c.args.at.number)) c.self.view_is
