use Rattle.std.proofs.Common.{sym, subst, List, length}
use Rattle.facet_list.specs.Store.{Write}
use Rattle.facet_list.specs.Rows.{rows_of, AreStoreRows}
use Rattle.facet_list.proofs.Sizes.{store_empty}
use Rattle.facet_list.proofs.list.FacetList.new.Goals as goal

pub invariant_of-result : goal.invariant_of-result
invariant_of-result c = record { sound = subst (λ (w : List Write). AreStoreRows (length c.in-Ok.limits.items) (rows_of w)) (sym c.new.ensures.items) (store_empty (length c.in-Ok.limits.items)) }
