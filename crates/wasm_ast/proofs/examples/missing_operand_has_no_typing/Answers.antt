use Rattle.wasm_ast.proofs.Worked.{no_operand}
use Rattle.wasm_ast.proofs.examples.missing_operand_has_no_typing.Goals as goal

pub returns : goal.returns
returns c = no_operand
