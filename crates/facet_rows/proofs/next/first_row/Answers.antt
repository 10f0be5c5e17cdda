use Rattle.std.proofs.Common.{◌≡◌, ◌∙◌, ap, sym, map, None, rules}
use Rattle.std.specs.Prelude.{option_map, slice_get}
use Rattle.std.specs.Map.Iter.{deref_pair}
use Rattle.facet_rows.specs.Rows.{keyed, row_lent}
use Rattle.facet_rows.proofs.MapRows.{next_in, lent_keyed, keyed_first, all_past}
use Rattle.facet_rows.proofs.next.first_row.Goals as goal

pub returns : goal.returns
returns c =
    let es = c.args.rows.now.entries in
    let here : option_map deref_pair c.next.result ≡ slice_get es 0 = search rules in
    next_in es None (option_map row_lent c.next.result) c.iter.ensures.ordered
    (lent_keyed c.next.result ∙ ap (option_map keyed) here ∙ keyed_first es ∙ ap (λ xs. slice_get xs 0) (sym (all_past (map keyed es))))
