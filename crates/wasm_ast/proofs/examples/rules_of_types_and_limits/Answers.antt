use Rattle.wasm_ast.proofs.Refused.{two_results_refused, type_past_refused, two_tables_refused, table_over_maximum_refused, table_too_large_refused, two_memories_refused, memory_over_maximum_refused, memory_too_large_refused}
use Rattle.wasm_ast.proofs.examples.rules_of_types_and_limits.Goals as goal

pub returns-clause-two_results : goal.returns-clause-two_results
returns-clause-two_results c = two_results_refused

pub returns-clause-type_past : goal.returns-clause-type_past
returns-clause-type_past c = type_past_refused

pub returns-clause-two_tables : goal.returns-clause-two_tables
returns-clause-two_tables c = two_tables_refused

pub returns-clause-table_over_maximum : goal.returns-clause-table_over_maximum
returns-clause-table_over_maximum c = table_over_maximum_refused

pub returns-clause-table_too_large : goal.returns-clause-table_too_large
returns-clause-table_too_large c = table_too_large_refused

pub returns-clause-two_memories : goal.returns-clause-two_memories
returns-clause-two_memories c = two_memories_refused

pub returns-clause-memory_over_maximum : goal.returns-clause-memory_over_maximum
returns-clause-memory_over_maximum c = memory_over_maximum_refused

pub returns-clause-memory_too_large : goal.returns-clause-memory_too_large
returns-clause-memory_too_large c = memory_too_large_refused
