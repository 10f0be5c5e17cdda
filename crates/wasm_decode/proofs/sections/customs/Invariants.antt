use Rattle.std.proofs.Common.{◌≡◌, length}
use Rattle.wasm_code.specs.Answers.{place}
use Rattle.wasm_decode.specs.Sections.{all_customs}
use Rattle.wasm_decode.proofs.sections.customs.Given as goal

abbrev pub invariant-customs : goal.invariant-customs
invariant-customs l = all_customs (place l.left) ≡ all_customs (place l.input)

abbrev pub decreases-customs : goal.decreases-customs
decreases-customs l = length l.left.rest.now
