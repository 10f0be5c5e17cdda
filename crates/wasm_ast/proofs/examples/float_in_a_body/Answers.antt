use Rattle.wasm_ast.proofs.Refused.{float_refused}
use Rattle.wasm_ast.proofs.examples.float_in_a_body.Goals as goal

pub returns : goal.returns
returns c = float_refused
