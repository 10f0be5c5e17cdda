use Rattle.wasm_ast.proofs.Refused.{handle_with_params_refused}
use Rattle.wasm_ast.proofs.examples.no_entry_point.Goals as goal

pub returns : goal.returns
returns c = handle_with_params_refused
