use Rattle.wasm_ast.proofs.Refused.{other_import_refused, unknown_import_refused}
use Rattle.wasm_ast.proofs.examples.no_host_call.Goals as goal

pub returns-clause-other_import : goal.returns-clause-other_import
returns-clause-other_import c = other_import_refused

pub returns-clause-unknown_import : goal.returns-clause-unknown_import
returns-clause-unknown_import c = unknown_import_refused
