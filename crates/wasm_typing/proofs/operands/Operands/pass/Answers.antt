use Rattle.std.proofs.Common.{subst}
use Rattle.wasm_ast.specs.Typing.{results}
use Rattle.wasm_typing.specs.Operands.{Stand, Image, Takes}
use Rattle.wasm_typing.proofs.Images.{image_changes, changes_stop}
use Rattle.wasm_typing.proofs.operands.Operands.pass.Goals as goal

pub returns-then-not-take_block : goal.returns-then-not-take_block
returns-then-not-take_block c =
    let P = Stand c.args.self.now in
    let M = Stand c.take_block.new.self in
    changes_stop (results c.args.wanted) (results c.args.wanted) P M (subst (λ ok. Image (Takes (results c.args.wanted)) P M ok) c.if-not-take_block.true c.take_block.ensures)

pub returns : goal.returns
returns c =
    let P = Stand c.args.self.now in
    let M = Stand c.take_block.new.self in
    image_changes (results c.args.wanted) (results c.args.wanted) P M (Stand c.leave_block.new.self) (subst (λ ok. Image (Takes (results c.args.wanted)) P M ok) c.if-not-take_block.false c.take_block.ensures) c.in_ok-leave_block.ensures
