use Rattle.wasm_typing.specs.Operands.{Stand}
use Rattle.wasm_typing.proofs.Images.{image_one}
use Rattle.wasm_typing.proofs.operands.Operands.take_any.Goals as goal

pub returns-in-Some : goal.returns-in-Some
returns-in-Some c = image_one (Stand c.args.self.now) (Stand c.take_one.new.self) c.in-Some.field-0 c.in-Some.ensures
