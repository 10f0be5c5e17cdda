use Rattle.std.proofs.Common.{◌∙◌, ◌≡◌, ◌<◌, sym, ap, subst, map, length, List, ◌++◌, ◌∷◌, [], arith, Some}
use Rattle.std.specs.Option.{option_copied}
use Rattle.facet_list.specs.Store.{Facet}
use Rattle.facet_list.specs.Rows.{facets_in}
use Rattle.facet_list.specs.Walk.{facets_left, slot_after}
use Rattle.facet_list.proofs.FacetsLeft.{all_left}
use Rattle.trapeze_lines.specs.declared.line.Line.{Line}
use Rattle.host_rules.specs.Stores.{facet_line}
use Rattle.trapeze_host.proofs.Adding.{Shown, none_shown, one_shown, labelled_push}
use Rattle.trapeze_host.proofs.facets.add_facets.Goals as goal

pub facets-init : goal.facets-init
facets-init g c =
    let lines = map facet_line (facets_in (g.F.Facets.rows c.args.facets.now)) in
    record {
      shown = subst (λ (rest : List Line). Shown lines rest c.args.lines.now c.args.lines.now) (ap (map facet_line) (sym (all_left (g.F.Facets.rows c.args.facets.now)))) (none_shown lines c.args.lines.now);
      labelled = λ h. h;
    }

-- fewer are left after the next
fewer : (left rest : List Facet) (f : Facet) → left ≡ f ∷ rest → length rest < length left
fewer left rest f e = let h = ap length e in omega (arith, h)

pub facets-smaller : goal.facets-smaller
facets-smaller g c = fewer _ _ _ c.in-Some.ensures.next

pub facets-preserved : goal.facets-preserved
facets-preserved g c =
    let rows = g.F.Facets.rows c.args.facets.now in
    let f : Facet = ((c.in-Some.key.now.items, c.in-Some.label.number), option_copied c.in-Some.value) in
    let is : c.in-Ok.line ≡ facet_line f = rw c.as_slice.ensures.value at c.in-Ok.ensures in
    let added = c.in-Ok-push.ensures.ok ∙ ap (λ (line : Line). c.facets.lines ++ line ∷ []) is in
    record {
      shown = one_shown (map facet_line (facets_in rows)) (map facet_line (facets_left rows (slot_after c.facets.after))) (map facet_line (facets_left rows (Some f.0)))
          c.args.lines.now c.facets.lines c.push.new.self (facet_line f) c.facets.invariant.shown (ap (map facet_line) c.in-Some.ensures.next) added;
      labelled = labelled_push (length (g.F.Facets.limits c.args.facets.now)) c.args.lines.now c.facets.lines c.push.new.self (facet_line f) c.facets.invariant.labelled added
          (record { at = c.in-Some.ensures.label; from = tt });
    }
