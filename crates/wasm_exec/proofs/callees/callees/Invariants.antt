use Rattle.std.proofs.Common.{◌+◌, length}
use Rattle.wasm_exec.proofs.Rows.{RowsTo}
use Rattle.wasm_exec.proofs.callees.callees.Given as goal

abbrev pub invariant-imports : goal.invariant-imports
invariant-imports l = RowsTo l.fn.program l.number l.rows.items

abbrev pub invariant-functions : goal.invariant-functions
invariant-functions l = RowsTo l.fn.program (length l.fn.program.imports + l.number) l.rows.items
