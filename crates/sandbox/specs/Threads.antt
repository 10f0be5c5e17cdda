-- The threads that sandboxes stand for.
use Rattle.std.specs.Prelude.{ℕ, List}
use Rattle.wasm_ast.specs.declared.modules.Module.{Module}
use Rattle.wasm_semantics.specs.Threads.{Thread}
use Rattle.wasm_exec.specs.declared.stops.Asked.{Asked}
use Rattle.wasm_exec.specs.Machines as machines
use Rattle.sandbox.specs.declared.sandboxes.Sandbox.{Sandbox}
use Rattle.sandbox.specs.declared.suspended.Suspended.{Suspended}

-- the thread that a sandbox stands for in its module
unfoldable pub thread_of : Module → Sandbox → Thread
thread_of m s = machines.thread_of m s.machine

-- its thread is of the module, and it waits for no answer
unfoldable pub IsReady : Module → Sandbox → Type 0
IsReady m s = machines.IsReady m s.machine

-- the thread that waits for an answer
unfoldable pub waiting : Module → Suspended → Thread
waiting m s = machines.thread_of m s.machine

-- it waits for the answer of the call that was asked
unfoldable pub IsWaiting : Module → Suspended → Type 0
IsWaiting m s = machines.IsWaiting m s.asked.name s.machine

-- the bytes of its memory
unfoldable pub memory_of : Suspended → List ℕ
memory_of s = (machines.memory_in s.machine).bytes

-- the call, with its arguments
unfoldable pub asked_of : Suspended → Asked
asked_of s = s.asked
