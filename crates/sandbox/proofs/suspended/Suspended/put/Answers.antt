use Rattle.std.proofs.Common.{refl, ap, ◌∙◌}
use Rattle.wasm_ast.specs.Memory.{memory_write}
use Rattle.wasm_semantics.specs.Units.{with_memory}
use Rattle.wasm_exec.specs.Machines as machines
use Rattle.sandbox.specs.Threads.{waiting, IsWaiting, memory_of, asked_of}
use Rattle.sandbox.proofs.WrittenMemory.{bytes_after}
use Rattle.sandbox.proofs.suspended.Suspended.put.Goals as goal

pub returns-clause-answer : goal.returns-clause-answer
unfolding memory_of
returns-clause-answer c = c.put.ensures.answer

pub returns-clause-thread : goal.returns-clause-thread
unfolding waiting memory_of
returns-clause-thread c m =
    let x = c.args.self.now.machine in
    let old = machines.memory_in x in
    c.put.ensures.thread m ∙ ap (with_memory (machines.thread_of m x)) (ap (λ d. d.bytes) c.put.ensures.memory ∙ bytes_after old (memory_write old.bytes c.args.at c.args.from.now))

pub returns-clause-asked : goal.returns-clause-asked
unfolding asked_of
returns-clause-asked c = refl

pub returns-clause-kept : goal.returns-clause-kept
unfolding IsWaiting
returns-clause-kept c m w = c.put.ensures.waits m c.args.self.now.asked.name w
