use Rattle.wasm_typing.proofs.Images.{none_stand}
use Rattle.wasm_typing.proofs.operands.Operands.may_be_none.Goals as goal

pub returns : goal.returns
returns c = rw c.is_empty.ensures (none_stand c.args.self.now.anything c.args.self.now.kept)
