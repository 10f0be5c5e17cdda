use Rattle.wasm_semantics.proofs.ControlCases.{values_within, values_past}
use Rattle.wasm_semantics.proofs.control_examples.limit_of_values.Goals as goal

pub returns-clause-within : goal.returns-clause-within
returns-clause-within c = values_within

pub returns-clause-past : goal.returns-clause-past
returns-clause-past c = values_past
