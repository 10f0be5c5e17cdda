use Rattle.std.proofs.Common.{subst}
use Rattle.wasm_ast.specs.Typing.{results}
use Rattle.wasm_typing.specs.Operands.{Stand, Image, Takes}
use Rattle.wasm_typing.proofs.Images.{are_not, are_left}
use Rattle.wasm_typing.proofs.operands.Operands.are.Goals as goal

pub returns-then-not-take_block : goal.returns-then-not-take_block
returns-then-not-take_block c =
    let P = Stand c.args.self in
    let M = Stand c.take_block.new.self in
    are_not (results c.args.left) P M (subst (λ ok. Image (Takes (results c.args.left)) P M ok) c.if-not-take_block.true c.take_block.ensures)

pub returns : goal.returns
returns c =
    let P = Stand c.args.self in
    let M = Stand c.take_block.new.self in
    are_left (results c.args.left) P M c.may_be_none.result (subst (λ ok. Image (Takes (results c.args.left)) P M ok) c.if-not-take_block.false c.take_block.ensures) c.may_be_none.ensures
