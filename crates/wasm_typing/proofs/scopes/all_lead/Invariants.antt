use Rattle.std.proofs.Common.{◌≡◌, ◌<◌, ℕ, get_or}
use Rattle.std.specs.Prelude.{Some, slice_get}
use Rattle.wasm_ast.specs.Typing.{results}
use Rattle.wasm_typing.specs.Scopes.{labels_of}
use Rattle.wasm_typing.proofs.scopes.all_lead.Given as goal

abbrev pub invariant-loop-label : goal.invariant-loop-label
invariant-loop-label l = (k : ℕ) → k < l.label-index → slice_get (labels_of l.labels) (get_or l.targets k 0) ≡ Some (results l.taken)
