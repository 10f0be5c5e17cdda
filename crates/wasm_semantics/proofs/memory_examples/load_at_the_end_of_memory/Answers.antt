use Rattle.wasm_semantics.proofs.Cases.{loads_last, loads_past}
use Rattle.wasm_semantics.proofs.memory_examples.load_at_the_end_of_memory.Goals as goal

pub returns-clause-last : goal.returns-clause-last
returns-clause-last c = loads_last

pub returns-clause-past : goal.returns-clause-past
returns-clause-past c = loads_past
