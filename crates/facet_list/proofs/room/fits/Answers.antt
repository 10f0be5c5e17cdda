use Rattle.std.proofs.Common.{◌∙◌, ◌≡◌, ◌+◌, ◌-◌, ◌^◌, min, sym, ap, refl, cond, ℕ, length, List, Some, None, arith}
use Rattle.std.specs.Prelude.{sum_by}
use Rattle.std.specs.Option.{option_copied}
use Rattle.facet_list.specs.Store.{Slot, Facet, Write, written}
use Rattle.facet_list.specs.Rows.{Rows, rows_of, facets_in}
use Rattle.facet_list.specs.Room.{size}
use Rattle.facet_list.specs.Kept.{chosen, facet_of}
use Rattle.facet_list.specs.Walk.{slot_after, facets_left}
use Rattle.facet_list.proofs.LiveFacets.{others}
use Rattle.facet_list.proofs.FacetsLeft.{all_left, next_left}
use Rattle.facet_list.proofs.Tallies.{tally_none, tally_more, same_tally, tally_count, tally_sum, room, fewer}
use Rattle.facet_list.proofs.room.fits.Goals as goal
use Rattle.facet_list.proofs.room.fits.Goals.{then-not-is_of, else-not-is_of}

-- the facets after a slot of equal parts
same_left : (rows : Rows) (k j : List ℕ) (l m : ℕ) → j ≡ k → m ≡ l → facets_left rows (Some (j, m)) ≡ facets_left rows (Some (k, l))
same_left rows k j l m p q = ap (λ z. facets_left rows (Some (z, m))) p ∙ ap (λ z. facets_left rows (Some (k, z))) q

pub facets-init : goal.facets-init
facets-init c =
    let rows = rows_of (chosen (Some c.args.at) c.args.writes.now) in
    tally_none (c.args.key.now, c.args.at.number) (option_copied c.args.value) (facets_in rows) (facets_left rows None) (all_left rows) c.size_of-bytes.result c.size_of-bytes.ensures (omega arith)

pub facets-smaller : goal.facets-smaller
facets-smaller c =
    let rows = rows_of (chosen (Some c.args.at) c.args.writes.now) in
    let f : Facet = facet_of c.in-Some.write in
    fewer _ (facets_left rows (Some f.0)) _ f (next_left rows (slot_after c.facets.after) (Some f) c.in-Some.ensures)
    (same_left rows c.in-Some.write.now.key c.key.result.now.items c.in-Some.write.now.label c.label.result.number c.key.ensures c.label.ensures)

pub facets-preserved : goal.facets-preserved
facets-preserved c =
    let rows = rows_of (chosen (Some c.args.at) c.args.writes.now) in
    let s : Slot = (c.args.key.now, c.args.at.number) in
    let f : Facet = facet_of c.in-Some.write in
    let tally = tally_more s (option_copied c.args.value) (facets_in rows) (facets_left rows (slot_after c.facets.after)) (facets_left rows (Some f.0)) c.facets.count c.facets.bytes f
    c.is_of.result c.is_of.ensures (next_left rows (slot_after c.facets.after) (Some f) c.in-Some.ensures) c.facets.invariant in
    same_tally s (option_copied c.args.value) (facets_in rows) (facets_left rows (Some f.0)) _ _ c.if-not-is_of.count _ c.if-not-is_of.bytes
    (same_left rows c.in-Some.write.now.key c.key.result.now.items c.in-Some.write.now.label c.label.result.number c.key.ensures c.label.ensures)
    (elim c.if-not-is_of.branch [
      | then-not-is_of v ↦ v.count-is ∙ v.saturating_add-count.ensures ∙ ap (λ b. cond b c.facets.count (min (c.facets.count + 1) (2 ^ 64 - 1))) (sym v.if-not-is_of.true)
      | else-not-is_of v ↦ v.count-is ∙ ap (λ b. cond b c.facets.count (min (c.facets.count + 1) (2 ^ 64 - 1))) (sym v.if-not-is_of.false)
    ])
    (elim c.if-not-is_of.branch [
      | then-not-is_of v ↦ v.bytes-is ∙ v.saturating_add-bytes.ensures ∙ ap (λ n. min (c.facets.bytes + n) (2 ^ 64 - 1)) v.size.ensures
          ∙ ap (λ b. cond b c.facets.bytes (min (c.facets.bytes + size f) (2 ^ 64 - 1))) (sym v.if-not-is_of.true)
      | else-not-is_of v ↦ v.bytes-is ∙ ap (λ b. cond b c.facets.bytes (min (c.facets.bytes + size f) (2 ^ 64 - 1))) (sym v.if-not-is_of.false)
    ]) tally

pub returns : goal.returns
returns c =
    let rows = rows_of (chosen (Some c.args.at) c.args.writes.now) in
    let x : Write = written c.args.at.number c.args.key.now (option_copied c.args.value) in
    let all = others (x.key, x.label) (facets_in rows) in
    let end = next_left rows (slot_after c.facets.after) None c.in_default.ensures in
    c.is_room.ensures (1 + length all) (size ((x.key, x.label), x.value) + sum_by size all)
    (tally_count (x.key, x.label) x.value (facets_in rows) _ c.facets.count c.facets.bytes end c.facets.invariant)
    (tally_sum (x.key, x.label) x.value (facets_in rows) _ c.facets.count c.facets.bytes end c.facets.invariant)
    ∙ room c.args.at c.args.writes.now x c.args.limits refl
