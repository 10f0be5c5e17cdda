use Rattle.std.proofs.Common.{drop}
use Rattle.wasm_semantics.specs.Begin.{with_elements}
use Rattle.wasm_exec.proofs.Segments.{IsLaid}
use Rattle.wasm_exec.proofs.beginnings.table_at_first.Given as goal

abbrev pub invariant-segments : goal.invariant-segments
invariant-segments l = IsLaid (with_elements l.initial.table.items l.fn.program.elements) l.len l.table.items (drop l.element-index l.fn.program.elements)
