use Rattle.wasm_code.specs.Answers.{place}
use Rattle.wasm_code.specs.Fields.{times}
use Rattle.wasm_code.proofs.Loops.{SoFar}
use Rattle.wasm_decode.proofs.members.times.Given as goal

abbrev pub invariant-members : goal.invariant-members
invariant-members g l = SoFar g.T.Member.read l.found.items l.count l.counter (place l.left) (times g.T.Member.read l.count (place l.input))
