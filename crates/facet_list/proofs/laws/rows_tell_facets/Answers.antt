use Rattle.facet_list.proofs.RowFacets.{last_of, facets_in_of}
use Rattle.facet_list.proofs.laws.rows_tell_facets.Goals as goal

pub returns-clause-last : goal.returns-clause-last
returns-clause-last c = last_of

pub returns-clause-facets : goal.returns-clause-facets
returns-clause-facets c = facets_in_of
