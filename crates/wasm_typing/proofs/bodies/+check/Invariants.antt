use Rattle.std.proofs.Common.{◌≡◌, take}
use Rattle.wasm_typing.specs.Scopes.{context_in, labels_of}
use Rattle.wasm_typing.proofs.Codes.{Exactly}
use Rattle.wasm_typing.proofs.bodies.+check.Given as goal

abbrev pub invariant-check_code-loop-instr : goal.invariant-check_code-loop-instr
invariant-check_code-loop-instr l = Exactly (context_in l.scope) (labels_of l.fn.labels) (take l.instr-index l.code) l.operands × (l.labels ≡ l.fn.labels)
