use Rattle.wasm_semantics.proofs.MemoryCases.{fills_nothing, fills_past, copies_from_past, copies_to_past}
use Rattle.wasm_semantics.proofs.memory_examples.nothing_past_the_end_traps.Goals as goal

pub returns-clause-fill_end : goal.returns-clause-fill_end
returns-clause-fill_end c = fills_nothing

pub returns-clause-fill_past : goal.returns-clause-fill_past
returns-clause-fill_past c = fills_past

pub returns-clause-copy_from_past : goal.returns-clause-copy_from_past
returns-clause-copy_from_past c = copies_from_past

pub returns-clause-copy_to_past : goal.returns-clause-copy_to_past
returns-clause-copy_to_past c = copies_to_past
