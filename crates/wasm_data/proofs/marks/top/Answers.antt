use Rattle.wasm_data.proofs.Arrays.{top_operand}
use Rattle.wasm_data.proofs.marks.top.Goals as goal

pub returns : goal.returns
returns c = top_operand c.args.marks.floor c.args.marks.sp c.args.values.now c.requires.some c.requires.within.room
