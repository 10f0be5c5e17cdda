use Rattle.wasm_ast.proofs.Worked.{unreached}
use Rattle.wasm_ast.proofs.examples.code_after_unreachable_has_a_typing.Goals as goal

pub returns : goal.returns
returns c = unreached
