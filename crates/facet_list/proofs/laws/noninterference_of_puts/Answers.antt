use Rattle.facet_list.proofs.Puts.{noninterfering_puts}
use Rattle.facet_list.proofs.laws.noninterference_of_puts.Goals as goal

pub returns : goal.returns
returns c = noninterfering_puts
