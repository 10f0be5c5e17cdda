use Rattle.std.proofs.Common.{Some, length}
use Rattle.std.specs.Option.{option_copied}
use Rattle.facet_list.specs.Rows.{rows_of, facets_in}
use Rattle.facet_list.specs.Walk.{slot_after, facets_left}
use Rattle.facet_list.specs.Kept.{chosen}
use Rattle.facet_list.proofs.Tallies.{IsTally}
use Rattle.facet_list.proofs.room.fits.Given as goal

-- the facets so far are counted
abbrev pub invariant-facets : goal.invariant-facets
invariant-facets l =
    let rows = rows_of (chosen (Some l.at) l.writes) in
    IsTally (l.key, l.at.number) (option_copied l.value) (facets_in rows) (facets_left rows (slot_after l.after)) l.count l.bytes

-- facets are left
abbrev pub decreases-facets : goal.decreases-facets
decreases-facets l = length (facets_left (rows_of (chosen (Some l.at) l.writes)) (slot_after l.after))
