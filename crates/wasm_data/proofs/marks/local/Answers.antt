use Rattle.wasm_data.proofs.Arrays.{get_local}
use Rattle.std.proofs.Common.{arith}
use Rattle.wasm_data.proofs.marks.local.Goals as goal

pub returns : goal.returns
returns c = get_local c.args.marks.base c.args.marks.floor c.args.index c.args.values.now c.requires.there (omega (arith, c.requires.within.operands, c.requires.within.room))
