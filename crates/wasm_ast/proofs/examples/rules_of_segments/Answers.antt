use Rattle.wasm_ast.proofs.Refused.{element_without_table_refused, element_of_no_function_refused, data_without_memory_refused, data_without_offset_refused}
use Rattle.wasm_ast.proofs.examples.rules_of_segments.Goals as goal

pub returns-clause-element_without_table : goal.returns-clause-element_without_table
returns-clause-element_without_table c = element_without_table_refused

pub returns-clause-element_of_no_function : goal.returns-clause-element_of_no_function
returns-clause-element_of_no_function c = element_of_no_function_refused

pub returns-clause-data_without_memory : goal.returns-clause-data_without_memory
returns-clause-data_without_memory c = data_without_memory_refused

pub returns-clause-data_without_offset : goal.returns-clause-data_without_offset
returns-clause-data_without_offset c = data_without_offset_refused
