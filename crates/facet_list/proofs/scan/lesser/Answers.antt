use Rattle.std.proofs.Common.{sym, subst, Option, ◌++◌, ◌∷◌, []}
use Rattle.std.specs.Prelude.{option_map, IfSome, ◌≢◌}
use Rattle.std.specs.Borrow.{Bor}
use Rattle.std.specs.declared.cmp.Ordering.TheVariants.{Less}
use Rattle.facet_list.specs.Store.{Write, slot_cmp}
use Rattle.facet_list.specs.Rows.{rows_of}
use Rattle.facet_list.specs.Walk.{slot_after}
use Rattle.facet_list.specs.Kept.{chosen, facet_of, IsLeast}
use Rattle.facet_list.proofs.Scans.{left_out, not_after, not_lesser, lesser, slot}
use Rattle.facet_list.proofs.scan.lesser.Goals as goal
use Rattle.facet_list.proofs.scan.lesser.Goals.{then-not-is_at-via-then-not-is_at, then-not-is_at-via-else-not-is_at+then-not-is_after, in_default-via-in-Some+else-not-is_no_greater, in_default-via-in_default}

pub returns-then-not-is_at : goal.returns-then-not-is_at
returns-then-not-is_at c = λ w h. elim c.then-not-is_at.branch [
  | then-not-is_at-via-then-not-is_at v ↦ left_out c.args.only w c.args.write.now (slot_after c.args.after) (option_map facet_of c.args.least) (sym v.if-not-is_at.ensures) h
  | then-not-is_at-via-else-not-is_at+then-not-is_after v ↦ not_after c.args.only w c.args.write.now (slot_after c.args.after) (option_map facet_of c.args.least) (sym v.if-not-is_at.ensures) (sym v.if-not-is_after.ensures) h
]

pub returns-in-Some : goal.returns-in-Some
returns-in-Some c = λ w h.
    subst (λ (o : Option (Bor Write)). IsLeast (rows_of (chosen c.args.only (w ++ c.args.write.now ∷ []))) (slot_after c.args.after) (option_map facet_of o)) (sym c.in-Some.is)
    (not_lesser c.args.only w c.args.write.now (slot_after c.args.after) (facet_of c.in-Some.other) (sym c.if-not-is_at.ensures) c.if-not-is_no_greater.ensures
    (subst (λ (o : Option (Bor Write)). IsLeast (rows_of (chosen c.args.only w)) (slot_after c.args.after) (option_map facet_of o)) c.in-Some.is h))

pub returns-in_default : goal.returns-in_default
returns-in_default c = λ w h. lesser c.args.only w c.args.write.now (slot_after c.args.after) (option_map facet_of c.args.least) (sym c.if-not-is_at.ensures) (sym c.if-not-is_after.ensures)
    (elim c.in_default.branch [
      | in_default-via-in-Some+else-not-is_no_greater v ↦ subst (λ (o : Option (Bor Write)). IfSome (option_map facet_of o) (λ f. slot_cmp f.0 (slot c.args.write.now) ≢ Less)) (sym v.in-Some.is) v.if-not-is_no_greater.ensures
      | in_default-via-in_default v ↦ subst (λ (o : Option (Bor Write)). IfSome (option_map facet_of o) (λ f. slot_cmp f.0 (slot c.args.write.now) ≢ Less)) (sym v.in_default.is) tt
    ]) h
