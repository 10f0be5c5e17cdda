use Rattle.std.proofs.Common.{◌∙◌, sym, ap, Some, None}
use Rattle.std.specs.Option.{option_copied}
use Rattle.std.specs.Map.{lookup}
use Rattle.std.proofs.lemmas.Map.Lookups.{exact_bytes}
use Rattle.facet_list.specs.Rows.{member}
use Rattle.facet_rows.specs.Rows.{entry_rows}
use Rattle.facet_rows.proofs.MapRows.{row_found, finds}
use Rattle.facet_rows.proofs.NextFacets.{rest_found, rest_none}
use Rattle.facet_rows.proofs.walk.rest_of.Goals as goal

pub returns-in_default : goal.returns-in_default
returns-in_default c = λ k lt.
    let es = c.args.rows.now.entries in
    ap (member k) (row_found es c.args.key.now.items None (ap (λ key. lookup (finds key) es) (sym c.as_slice.ensures.value) ∙ sym c.in_default.ensures.value))

pub returns-in_default-first_after : goal.returns-in_default-first_after
returns-in_default-first_after c =
    let es = c.args.rows.now.entries in
    rest_none (entry_rows es) c.args.key.now.items c.in-Some.row.now c.args.label.number
    (row_found es c.args.key.now.items (Some c.in-Some.row.now) (ap (λ key. lookup (finds key) es) (sym c.as_slice.ensures.value) ∙ sym c.in-Some.ensures.value)) c.in_default-first_after.ensures.least

pub returns : goal.returns
returns c =
    let es = c.args.rows.now.entries in
    rest_found (entry_rows es) c.args.key.now.items c.in-Some.key.now.items c.in-Some.row.now c.args.label.number c.label.result.number c.in-Some-first_after.member.now (option_copied c.value.result)
    (row_found es c.args.key.now.items (Some c.in-Some.row.now) (ap (λ key. lookup (finds key) es) (sym c.as_slice.ensures.value) ∙ sym c.in-Some.ensures.value)) c.in-Some-first_after.ensures.least
    (sym (exact_bytes c.as_slice.result.now c.in-Some.key.now.items c.in-Some.ensures.same_key) ∙ c.as_slice.ensures.value) c.label.ensures c.value.ensures
