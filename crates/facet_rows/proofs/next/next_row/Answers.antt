use Rattle.std.proofs.Common.{◌≡◌, ◌∙◌, ap, Some, rules}
use Rattle.std.specs.Prelude.{option_map, slice_get}
use Rattle.std.specs.Map.Iter.{deref_pair}
use Rattle.std.specs.BTreeMap.Range.{entries_between}
use Rattle.std.specs.declared.ops.Bound.TheVariants.{Excluded, Unbounded}
use Rattle.facet_rows.specs.Rows.{keyed, row_lent}
use Rattle.facet_rows.proofs.MapRows.{vec_cmp, next_in, lent_keyed, keyed_first, between_past}
use Rattle.facet_rows.proofs.next.next_row.Goals as goal

pub returns : goal.returns
returns c =
    let es = c.args.rows.now.entries in
    let between = entries_between vec_cmp (Excluded c.args.key.now) Unbounded es in
    let here : option_map deref_pair c.next.result ≡ slice_get between 0 = search rules in
    next_in es (Some c.args.key.now.items) (option_map row_lent c.next.result) c.range.ensures.ordered
    (lent_keyed c.next.result ∙ ap (option_map keyed) here ∙ keyed_first between ∙ ap (λ xs. slice_get xs 0) (between_past c.args.key.now es))
