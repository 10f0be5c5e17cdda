use Rattle.wasm_exec.specs.Machines.{IsReady}
use Rattle.engine_tests.proofs.machines.spins.Given as goal

abbrev pub invariant-runs : goal.invariant-runs
invariant-runs l = IsReady l.module-inside.module l.machine
