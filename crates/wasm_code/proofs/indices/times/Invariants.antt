use Rattle.wasm_code.specs.Answers.{place}
use Rattle.wasm_code.specs.Fields.{times, u32}
use Rattle.wasm_code.proofs.Loops.{SoFar}
use Rattle.wasm_code.proofs.indices.times.Given as goal

abbrev pub invariant-indices : goal.invariant-indices
invariant-indices l = SoFar u32 l.found.items l.count l.counter (place l.left) (times u32 l.count (place l.input))
