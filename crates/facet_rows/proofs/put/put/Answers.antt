use Rattle.std.proofs.Common.{◌∙◌, sym, ap, Some, None, ◌≡◌, ◌∷◌, []}
use Rattle.std.specs.Option.{option_copied, option_copied_mut}
use Rattle.std.specs.Map.{lookup, set_value}
use Rattle.std.specs.FinMap as finite
use Rattle.std.specs.BTreeMap.{insert_entry}
use Rattle.std.proofs.lemmas.Map.Steps.{set_value_same}
use Rattle.facet_list.specs.Rows.{row_after}
use Rattle.facet_rows.specs.Rows.{entry_rows}
use Rattle.facet_rows.proofs.MapRows.{row_found, rows_set, rows_insert, finds, vec_cmp}
use Rattle.facet_rows.proofs.put.put.Goals as goal

pub returns-in-Ok-put-clause-ok : goal.returns-in-Ok-put-clause-ok
returns-in-Ok-put-clause-ok c =
    let es = c.args.rows.now.entries in
    let key = c.args.key.now in
    let row = c.in-Some.row.now in
    let h : lookup (finds key) es ≡ Some row = sym c.get_mut.ensures.value ∙ ap option_copied_mut c.in-Some.is in
    ap entry_rows (c.get_mut.follows.holds c.put.new.self).0 ∙ rows_set es key row c.put.new.self h
    ∙ ap (λ r. finite.insert (entry_rows es) key r) (c.in-Ok-put.ensures.ok ∙ ap (λ m. row_after m.0 m.1 row) c.in-Ok.ensures ∙ ap (row_after c.args.at.number (option_copied c.args.value)) (sym (row_found es key (Some row) h)))

pub returns-in-Err-clause-err : goal.returns-in-Err-clause-err
returns-in-Err-clause-err c =
    let es = c.args.rows.now.entries in
    let key = c.args.key.now in
    let row = c.in-Some.row.now in
    let h : lookup (finds key) es ≡ Some row = sym c.get_mut.ensures.value ∙ ap option_copied_mut c.in-Some.is in
    ap entry_rows ((c.get_mut.follows.holds c.put.new.self).0 ∙ ap (set_value (finds key) es) c.in-Err.ensures.err ∙ set_value_same (finds key) es row h)

pub returns-clause-ok : goal.returns-clause-ok
returns-clause-ok c =
    let es = c.args.rows.now.entries in
    let key = c.args.key.now in
    let value = option_copied c.args.value in
    let h : lookup (finds key) es ≡ None = sym c.get_mut.ensures.value ∙ ap option_copied_mut c.in_default-get_mut.is in
    ap entry_rows c.in-Ok-insert.ensures.entries
    ∙ ap (λ m. entry_rows (insert_entry vec_cmp m.entries c.in-Ok-from_slice.key c.in-Ok-of.row)) c.get_mut.follows.holds-at-none
    ∙ rows_insert es c.in-Ok-from_slice.key c.in-Ok-of.row
    ∙ ap (λ k. finite.insert (entry_rows es) k c.in-Ok-of.row) c.in-Ok-from_slice.ensures.items
    ∙ ap (λ r. finite.insert (entry_rows es) key r) (c.in-Ok-of.ensures ∙ ap (λ m. m ∷ []) c.in-Ok.ensures ∙ ap (row_after c.args.at.number value) (sym (row_found es key None h)))
