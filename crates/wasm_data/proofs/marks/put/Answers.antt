use Rattle.wasm_data.proofs.Arrays.{put_operands, put_locals}
use Rattle.wasm_data.proofs.marks.put.Goals as goal

pub returns-clause-operands : goal.returns-clause-operands
returns-clause-operands c = put_operands c.args.marks.floor c.args.marks.sp c.args.values.now c.args.value c.requires.within.operands c.requires.room

pub returns-clause-locals : goal.returns-clause-locals
returns-clause-locals c = put_locals c.args.marks.base c.args.marks.floor c.args.marks.sp c.args.values.now c.args.value c.requires.within.locals c.requires.within.operands
