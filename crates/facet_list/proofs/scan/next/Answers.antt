use Rattle.std.proofs.Common.{sym, subst, take, List}
use Rattle.std.specs.Prelude.{option_map}
use Rattle.facet_list.specs.Store.{Write}
use Rattle.facet_list.specs.Rows.{rows_of}
use Rattle.facet_list.specs.Walk.{slot_after}
use Rattle.facet_list.specs.Kept.{chosen, facet_of, IsLeast}
use Rattle.facet_list.proofs.RowLaws.{more}
use Rattle.facet_list.proofs.Scans.{none_least}
use Rattle.facet_list.proofs.scan.next.Goals as goal

pub writes-init : goal.writes-init
writes-init c = none_least c.args.only (slot_after c.args.after)

pub writes-preserved : goal.writes-preserved
writes-preserved c = subst (λ (w : List Write). IsLeast (rows_of (chosen c.args.only w)) (slot_after c.args.after) (option_map facet_of c.lesser-least.result))
    (sym (more c.args.writes.now c.writes.write-index c.write-item.result c.writes-test.true c.write-item.is))
    (c.lesser-least.ensures (take c.writes.write-index c.args.writes.now) c.writes.invariant)
