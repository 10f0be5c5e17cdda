use Rattle.wasm_code.specs.Answers.{place}
use Rattle.wasm_decode.specs.Parts.{bodies}
use Rattle.wasm_decode.proofs.NumberedBodies.{SoFar}
use Rattle.wasm_decode.proofs.sections.bodies.Given as goal

abbrev pub invariant-bodies : goal.invariant-bodies
invariant-bodies l = SoFar l.found.items l.count l.function (place l.left) (bodies 0 l.count (place l.input))
