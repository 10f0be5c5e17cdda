use Rattle.wasm_semantics.proofs.Cases.{of_no_module}
use Rattle.wasm_semantics.proofs.control_examples.missing_operand_is_of_no_module.Goals as goal

pub returns : goal.returns
returns c = of_no_module
