use Rattle.std.proofs.Common.{refl}
use Rattle.wasm_exec.specs.Machines.{memory_in, thread_of}
use Rattle.wasm_exec.proofs.machine.Machine.memory.Goals as goal

pub returns-clause-is : goal.returns-clause-is
unfolding memory_in
returns-clause-is c = refl

pub returns-clause-thread : goal.returns-clause-thread
unfolding thread_of
returns-clause-thread c m = refl
