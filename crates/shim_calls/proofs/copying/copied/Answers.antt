use Rattle.sandbox.specs.Threads.{waiting, memory_of}
use Rattle.wasm_memory.specs.declared.errors.StoreError.TheVariants.{Bounds}
use Rattle.shim_calls.proofs.Resuming.{copied_to, not_copied}
use Rattle.shim_calls.proofs.copying.copied.Goals as goal

pub returns-in-Ok-clause-performed : goal.returns-in-Ok-clause-performed
returns-in-Ok-clause-performed c = λ P m modules at a s lines rows waits tells stored.
    copied_to P m modules at a s (waiting m c.args.suspended) rows c.answer.result Bounds (waiting m c.put.new.self) (memory_of c.args.suspended) c.front.result.now c.args.bytes.now c.args.at c.args.cap lines c.args.effect c.in-Ok.field-0
    (c.memory_is.ensures m) c.front.ensures c.in-Ok.ensures.answer (c.put.ensures.thread m) (c.answer.ensures.thread m (c.put.ensures.kept m waits)) (c.answer.ensures.kept m (c.put.ensures.kept m waits)) tells stored

pub returns-in-Err-Bounds-clause-performed : goal.returns-in-Err-Bounds-clause-performed
returns-in-Err-Bounds-clause-performed c = λ P m modules at a s lines rows waits tells stored. (
  not_copied Bounds c.in-Err-Bounds.field-0 modules (waiting m c.args.suspended) (memory_of c.args.suspended) c.front.result.now c.args.bytes.now c.args.at c.args.cap lines
      (c.memory_is.ensures m) c.front.ensures c.in-Err-Bounds.ensures.answer,
  stored,
)
