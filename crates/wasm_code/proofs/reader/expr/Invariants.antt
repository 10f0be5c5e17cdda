use Rattle.std.proofs.Common.{◌≡◌, length}
use Rattle.wasm_code.specs.Answers.{place}
use Rattle.wasm_code.specs.Reading.{go, expr}
use Rattle.wasm_code.proofs.reader.expr.Given as goal

abbrev pub invariant-opcodes : goal.invariant-opcodes
invariant-opcodes l = go l.reader.frames l.reader.items (place l.reader.input) ≡ expr (place l.input)

abbrev pub decreases-opcodes : goal.decreases-opcodes
decreases-opcodes l = length l.reader.input.rest.now
