use Rattle.wasm_semantics.proofs.Counts.{at_most, all_used, none_used, some_used, units_join}
use Rattle.wasm_semantics.proofs.laws.units_are_counted.Goals as goal

pub returns-clause-most : goal.returns-clause-most
returns-clause-most c = at_most

pub returns-clause-all : goal.returns-clause-all
returns-clause-all c = all_used

pub returns-clause-none : goal.returns-clause-none
returns-clause-none c = none_used

pub returns-clause-some : goal.returns-clause-some
returns-clause-some c = some_used

pub returns-clause-join : goal.returns-clause-join
returns-clause-join c = units_join
