use Rattle.std.proofs.Common.{◌≡◌, length, sym, subst}
use Rattle.std.specs.FinMap as finite
use Rattle.facet_list.specs.Rows.{AreStoreRows}
use Rattle.facet_list.proofs.Sizes.{store_empty}
use Rattle.facet_rows.specs.Rows.{rows_in}
use Rattle.facet_index.proofs.Metering.{metered_none}
use Rattle.facet_index.proofs.index.FacetIndex.new.Goals as goal

pub invariant_of-result : goal.invariant_of-result
invariant_of-result c =
    let none : rows_in c.new-2.result ≡ finite.empty = c.new-2.ensures in
    record {
      sound = subst (AreStoreRows (length c.in_ok-meter.meter.limits)) (sym none) (store_empty (length c.in_ok-meter.meter.limits));
      metered = metered_none c.in_ok-meter.meter c.args.limits.now (rows_in c.new-2.result) c.in_ok-meter.ensures.limits c.in_ok-meter.ensures.counts none;
    }
