use Rattle.std.proofs.Common.{◌≡◌, take}
use Rattle.wasm_ast.specs.Bytes.{placed}
use Rattle.wasm_semantics.specs.Begin.{set_entries}
use Rattle.wasm_exec.proofs.beginnings.set_from.Given as goal

abbrev pub invariant-members : goal.invariant-members
invariant-members l = l.table ≡ placed l.initial.table l.at (set_entries (take l.number l.members))
