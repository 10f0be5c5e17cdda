use Rattle.std.proofs.Common.{◌∙◌, ◌≡◌, sym, subst, ℕ, List, Option, Some, None, length, ap}
use Rattle.std.specs.Option.{option_copied}
use Rattle.facet_list.specs.Store.{Slot, Facet, Write}
use Rattle.facet_list.specs.Rows.{Rows, rows_of, facet_at}
use Rattle.facet_list.specs.Walk.{slot_after, IsNext}
use Rattle.facet_list.specs.Kept.{chosen, facet_of, IsLeast}
use Rattle.facet_list.proofs.Sizes.{sized_at, below_at}
use Rattle.facet_list.proofs.Scans.{chosen_all}
use Rattle.facet_list.proofs.FacetsLeft.{next_left}
use Rattle.facet_list.proofs.list.FacetListFacets.next_facet.Goals as goal

-- the least facet of the list is the next one, as it is lent
lent : (rows : Rows) (after : Option Slot) (k j : List ℕ) (l m : ℕ) (v u : Option (List ℕ)) → j ≡ k → m ≡ l → u ≡ v → IsNext rows after (Some ((k, l), v)) → IsNext rows after (Some ((j, m), u))
lent rows after k j l m v u p q r h = subst (λ (z : List ℕ). IsNext rows after (Some ((z, m), u))) (sym p)
    (subst (λ (z : ℕ). IsNext rows after (Some ((k, z), u))) (sym q) (subst (λ (z : Option (List ℕ)). IsNext rows after (Some ((k, l), z))) (sym r) h))

held : (rows : Rows) (k j : List ℕ) (l m : ℕ) (v u : Option (List ℕ)) → j ≡ k → m ≡ l → u ≡ v → facet_at rows (k, l) ≡ Some v → facet_at rows (j, m) ≡ Some u
held rows k j l m v u p q r h = ap (λ z. facet_at rows (z, m)) p ∙ ap (λ z. facet_at rows (k, z)) q ∙ h ∙ ap Some (sym r)

least : (ws vs : List Write) (after : Option Slot) (o : Option Facet) → vs ≡ ws → IsLeast (rows_of (chosen None vs)) after o → IsLeast (rows_of ws) after o
least ws vs after o e h = subst (λ (w : List Write). IsLeast (rows_of w) after o) (chosen_all vs ∙ e) h

pub returns-in-Some-clause-next : goal.returns-in-Some-clause-next
returns-in-Some-clause-next c =
    let f : Facet = facet_of c.in-Some.write in
    lent (rows_of c.args.self.now.writes.items) (slot_after c.args.after) f.0.0 c.key.result.now.items f.0.1 c.label.result.number f.1 (option_copied c.value.result) c.key.ensures c.label.ensures c.value.ensures
    (next_left (rows_of c.args.self.now.writes.items) (slot_after c.args.after) (Some f) (least _ _ (slot_after c.args.after) (Some f) c.deref.ensures.value c.in-Some.ensures))

pub returns-in-Some-clause-sized : goal.returns-in-Some-clause-sized
returns-in-Some-clause-sized c =
    let f : Facet = facet_of c.in-Some.write in
    let rows = rows_of c.args.self.now.writes.items in
    sized_at (length c.args.self.now.limits.items) rows (c.key.result.now.items, c.label.result.number) (option_copied c.value.result) c.args.self.now.sound
    (held rows f.0.0 c.key.result.now.items f.0.1 c.label.result.number f.1 (option_copied c.value.result) c.key.ensures c.label.ensures c.value.ensures
    (least _ _ (slot_after c.args.after) (Some f) c.deref.ensures.value c.in-Some.ensures).here)

pub returns-in-Some-clause-label : goal.returns-in-Some-clause-label
returns-in-Some-clause-label c =
    let f : Facet = facet_of c.in-Some.write in
    let rows = rows_of c.args.self.now.writes.items in
    below_at (length c.args.self.now.limits.items) rows (c.key.result.now.items, c.label.result.number) (option_copied c.value.result) c.args.self.now.sound.below
    (held rows f.0.0 c.key.result.now.items f.0.1 c.label.result.number f.1 (option_copied c.value.result) c.key.ensures c.label.ensures c.value.ensures
    (least _ _ (slot_after c.args.after) (Some f) c.deref.ensures.value c.in-Some.ensures).here)

pub returns-in-None-clause-next : goal.returns-in-None-clause-next
returns-in-None-clause-next c = next_left (rows_of c.args.self.now.writes.items) (slot_after c.args.after) None
    (least _ _ (slot_after c.args.after) None c.deref.ensures.value c.in-None.ensures)
