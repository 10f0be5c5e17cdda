use Rattle.std.proofs.Common.{◌∙◌}
use Rattle.wasm_typing.proofs.Images.{image_anything, drop_all}
use Rattle.wasm_typing.proofs.operands.Operands.forget.Goals as goal

pub returns : goal.returns
returns c = image_anything c.args.self.now.anything c.args.self.now.kept c.truncate.new.self (c.truncate.ensures ∙ drop_all c.args.self.now.kept)
