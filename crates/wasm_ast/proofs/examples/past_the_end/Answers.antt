use Rattle.wasm_ast.proofs.Refused.{element_past_refused, data_past_refused}
use Rattle.wasm_ast.proofs.examples.past_the_end.Goals as goal

pub returns-clause-element_past : goal.returns-clause-element_past
returns-clause-element_past c = element_past_refused

pub returns-clause-data_past : goal.returns-clause-data_past
returns-clause-data_past c = data_past_refused
