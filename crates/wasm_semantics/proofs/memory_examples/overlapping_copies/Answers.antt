use Rattle.wasm_semantics.proofs.MemoryCases.{copies_up, copies_down}
use Rattle.wasm_semantics.proofs.memory_examples.overlapping_copies.Goals as goal

pub returns-clause-upwards : goal.returns-clause-upwards
returns-clause-upwards c = copies_up

pub returns-clause-downwards : goal.returns-clause-downwards
returns-clause-downwards c = copies_down
