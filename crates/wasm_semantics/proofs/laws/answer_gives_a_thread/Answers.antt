use Rattle.wasm_semantics.proofs.Waits.{answer_is_of, answer_keeps_store, answer_and_memory}
use Rattle.wasm_semantics.proofs.laws.answer_gives_a_thread.Goals as goal

pub returns-clause-thread : goal.returns-clause-thread
returns-clause-thread c = answer_is_of

pub returns-clause-store : goal.returns-clause-store
returns-clause-store c = answer_keeps_store

pub returns-clause-memory : goal.returns-clause-memory
returns-clause-memory c = answer_and_memory
