use Rattle.wasm_semantics.proofs.MemoryCases.{loads_signed, loads_unsigned, loads_wide}
use Rattle.wasm_semantics.proofs.memory_examples.narrow_loads_extend.Goals as goal

pub returns-clause-signed : goal.returns-clause-signed
returns-clause-signed c = loads_signed

pub returns-clause-unsigned : goal.returns-clause-unsigned
returns-clause-unsigned c = loads_unsigned

pub returns-clause-wide : goal.returns-clause-wide
returns-clause-wide c = loads_wide
