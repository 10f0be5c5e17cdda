use Rattle.wasm_semantics.proofs.ControlCases.{blocks_within, blocks_past}
use Rattle.wasm_semantics.proofs.control_examples.limit_of_blocks.Goals as goal

pub returns-clause-within : goal.returns-clause-within
returns-clause-within c = blocks_within

pub returns-clause-past : goal.returns-clause-past
returns-clause-past c = blocks_past
