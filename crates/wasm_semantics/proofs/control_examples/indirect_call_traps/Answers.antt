use Rattle.wasm_semantics.proofs.ControlCases.{traps_past, traps_unset, traps_differing}
use Rattle.wasm_semantics.proofs.control_examples.indirect_call_traps.Goals as goal

pub returns-clause-past : goal.returns-clause-past
returns-clause-past c = traps_past

pub returns-clause-unset : goal.returns-clause-unset
returns-clause-unset c = traps_unset

pub returns-clause-differs : goal.returns-clause-differs
returns-clause-differs c = traps_differing
