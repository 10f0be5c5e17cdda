use Rattle.wasm_semantics.proofs.Memory.{same_length, another_is_of, another_waits}
use Rattle.wasm_semantics.proofs.laws.another_memory.Goals as goal

pub returns-clause-thread : goal.returns-clause-thread
returns-clause-thread c = another_is_of

pub returns-clause-waits : goal.returns-clause-waits
returns-clause-waits c = another_waits

pub returns-clause-length : goal.returns-clause-length
returns-clause-length c = same_length
