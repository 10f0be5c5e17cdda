use Rattle.wasm_semantics.proofs.MemoryCases.{grows}
use Rattle.wasm_semantics.proofs.memory_examples.memory_grows_by_a_page.Goals as goal

pub returns : goal.returns
returns c = grows
