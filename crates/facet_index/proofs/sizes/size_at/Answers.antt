use Rattle.std.proofs.Common.{◌≡◌, ◌∙◌, sym, ap, Some}
use Rattle.std.specs.Prelude.{option_map}
use Rattle.std.specs.Option.{option_copied}
use Rattle.facet_list.specs.Rows.{Member, facet_at, row_of, IsSized}
use Rattle.facet_list.proofs.Sizes.{All-member}
use Rattle.facet_rows.specs.Rows.{rows_in}
use Rattle.facet_index.proofs.sizes.size_at.Goals as goal

pub size_of-requires-clause-value : goal.size_of-requires-clause-value
size_of-requires-clause-value c =
    let key = c.args.key.now in
    let row = row_of (rows_in c.args.rows.now) key in
    let here : facet_at (rows_in c.args.rows.now) (key, c.args.at.number) ≡ Some (option_copied c.in-Some.value) = sym c.last.ensures ∙ ap (option_map option_copied) c.in-Some.is in
    (All-member (λ (m : Member). IsSized key m.1) c.args.at.number (option_copied c.in-Some.value) row here c.requires.sized).value_fits
