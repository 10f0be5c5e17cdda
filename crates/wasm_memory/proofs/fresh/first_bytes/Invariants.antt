use Rattle.std.proofs.Common.{drop}
use Rattle.wasm_ast.specs.Bytes.{with_pieces}
use Rattle.wasm_memory.proofs.Pieces.{IsLaid}
use Rattle.wasm_memory.proofs.fresh.first_bytes.Given as goal

abbrev pub invariant-loop-piece : goal.invariant-loop-piece
invariant-loop-piece l = IsLaid (with_pieces l.initial.bytes.items l.fn.module.pieces) l.len l.bytes.items (drop l.piece-index l.fn.module.pieces)
