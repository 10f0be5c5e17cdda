use Rattle.std.proofs.Common.{length}
use Rattle.std.specs.Prelude.{option_map}
use Rattle.facet_list.specs.Walk.{slot_after, facet_lent}
use Rattle.facet_list.proofs.FacetsLeft.{next_left}
use Rattle.facet_rows.specs.Rows.{rows_in}
use Rattle.facet_rows.proofs.NextFacets.{sized_least, below_least}
use Rattle.facet_index.proofs.index.FacetIndexFacets.next_facet.Goals as goal

pub returns-clause-next : goal.returns-clause-next
returns-clause-next c = next_left (rows_in c.args.self.now.rows) (slot_after c.args.after) (option_map facet_lent c.next_facet.result) c.next_facet.ensures

pub returns-clause-sized : goal.returns-clause-sized
returns-clause-sized c = sized_least (length c.args.self.now.meter.limits) (rows_in c.args.self.now.rows) (slot_after c.args.after) c.next_facet.result c.args.self.now.sound c.next_facet.ensures

pub returns-clause-label : goal.returns-clause-label
returns-clause-label c = below_least (length c.args.self.now.meter.limits) (rows_in c.args.self.now.rows) (slot_after c.args.after) c.next_facet.result c.args.self.now.sound c.next_facet.ensures
