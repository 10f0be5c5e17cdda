use Rattle.std.proofs.Common.{refl}
use Rattle.wasm_exec.specs.Machines as machines
use Rattle.sandbox.specs.Threads.{waiting, memory_of}
use Rattle.sandbox.proofs.suspended.Suspended.memory_is.Goals as goal

pub returns : goal.returns
unfolding waiting memory_of machines.thread_of machines.memory_in
returns c m = refl
