use Rattle.wasm_semantics.proofs.Cases.{grows_by_nothing}
use Rattle.wasm_semantics.proofs.memory_examples.growing_by_nothing_past_a_lowered_limit.Goals as goal

pub returns : goal.returns
returns c = grows_by_nothing
