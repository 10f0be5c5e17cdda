use Rattle.std.proofs.Common.{arith, ◌+◌}
use Rattle.wasm_data.proofs.Arrays.{set_locals, set_operands}
use Rattle.wasm_data.proofs.marks.set_local.Goals as goal

pub returns-clause-locals : goal.returns-clause-locals
returns-clause-locals c = set_locals c.args.marks.base c.args.marks.floor c.args.index c.args.values.now c.args.value c.requires.there

pub returns-clause-operands : goal.returns-clause-operands
returns-clause-operands c = set_operands c.args.marks.floor c.args.marks.sp (c.args.marks.base + c.args.index) c.args.values.now c.args.value (omega (arith, c.requires.there)) c.requires.within.operands
