use Rattle.wasm_code.specs.Answers.{place}
use Rattle.wasm_code.specs.Reading.{locals}
use Rattle.wasm_code.proofs.LocalGroups.{Declares}
use Rattle.wasm_code.proofs.bodies.locals.Given as goal

abbrev pub invariant-groups : goal.invariant-groups
invariant-groups l = Declares l.function l.found.items l.groups l.counter l.room (place l.left) (locals l.function l.groups 1024 (place l.input))
