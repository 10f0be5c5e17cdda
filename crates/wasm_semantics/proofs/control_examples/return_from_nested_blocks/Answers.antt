use Rattle.wasm_semantics.proofs.ControlCases.{returns_one}
use Rattle.wasm_semantics.proofs.control_examples.return_from_nested_blocks.Goals as goal

pub returns : goal.returns
returns c = returns_one
