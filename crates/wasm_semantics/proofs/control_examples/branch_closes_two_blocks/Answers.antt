use Rattle.wasm_semantics.proofs.ControlCases.{closes_two}
use Rattle.wasm_semantics.proofs.control_examples.branch_closes_two_blocks.Goals as goal

pub returns : goal.returns
returns c = closes_two
