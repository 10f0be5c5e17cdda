use Rattle.std.proofs.Common.{length}
use Rattle.std.specs.Prelude.{map}
use Rattle.facet_list.specs.Rows.{facets_in}
use Rattle.facet_list.specs.Walk.{slot_after, facets_left}
use Rattle.host_rules.specs.Stores.{facet_line}
use Rattle.trapeze_host.specs.Adding.{KeepsLabelled}
use Rattle.trapeze_host.proofs.Adding.{Shown}
use Rattle.trapeze_host.proofs.facets.add_facets.Given as goal

-- the lines of the facets that are left come next
abbrev pub invariant-facets : goal.invariant-facets
invariant-facets g l = record {
  shown : Shown (map facet_line (facets_in (g.F.Facets.rows l.facets))) (map facet_line (facets_left (g.F.Facets.rows l.facets) (slot_after l.after))) l.initial.lines l.lines;
  labelled : KeepsLabelled (length (g.F.Facets.limits l.facets)) l.initial.lines l.lines;
}

abbrev pub decreases-facets : goal.decreases-facets
decreases-facets g l = length (facets_left (g.F.Facets.rows l.facets) (slot_after l.after))
