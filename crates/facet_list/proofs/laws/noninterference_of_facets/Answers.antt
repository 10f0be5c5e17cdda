use Rattle.facet_list.proofs.Slots.{noninterfering, noninterfering_from}
use Rattle.facet_list.proofs.laws.noninterference_of_facets.Goals as goal

pub returns-clause-whole : goal.returns-clause-whole
returns-clause-whole c = noninterfering

pub returns-clause-from : goal.returns-clause-from
returns-clause-from c = noninterfering_from
