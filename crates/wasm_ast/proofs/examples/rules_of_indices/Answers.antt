use Rattle.wasm_ast.proofs.Refused.{global_without_value_refused, global_of_other_type_refused, export_past_refused, same_names_refused, start_past_refused, start_with_params_refused}
use Rattle.wasm_ast.proofs.examples.rules_of_indices.Goals as goal

pub returns-clause-global_without_value : goal.returns-clause-global_without_value
returns-clause-global_without_value c = global_without_value_refused

pub returns-clause-global_of_other_type : goal.returns-clause-global_of_other_type
returns-clause-global_of_other_type c = global_of_other_type_refused

pub returns-clause-export_past : goal.returns-clause-export_past
returns-clause-export_past c = export_past_refused

pub returns-clause-same_names : goal.returns-clause-same_names
returns-clause-same_names c = same_names_refused

pub returns-clause-start_past : goal.returns-clause-start_past
returns-clause-start_past c = start_past_refused

pub returns-clause-start_with_params : goal.returns-clause-start_with_params
returns-clause-start_with_params c = start_with_params_refused
