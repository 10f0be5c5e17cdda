use Rattle.facet_list.proofs.RowFacets.{facets_in_sorted, find_facets_in, facets_in_unique}
use Rattle.facet_list.proofs.laws.facets_of_rows.Goals as goal

pub returns-clause-sorted : goal.returns-clause-sorted
returns-clause-sorted c = facets_in_sorted

pub returns-clause-found : goal.returns-clause-found
returns-clause-found c = find_facets_in

pub returns-clause-whole : goal.returns-clause-whole
returns-clause-whole c = facets_in_unique
