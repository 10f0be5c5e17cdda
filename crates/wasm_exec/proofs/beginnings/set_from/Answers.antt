use Rattle.std.proofs.Common.{refl, arith}
use Rattle.wasm_exec.proofs.Segments.{entry_more}
use Rattle.wasm_exec.proofs.beginnings.set_from.Goals as goal

pub members-preserved : goal.members-preserved
members-preserved c = entry_more c.members.table _ c.args.table.now c.args.at c.members.number c.args.members.now c.requires (omega arith) c.members.invariant refl
