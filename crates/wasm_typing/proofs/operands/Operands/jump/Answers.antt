use Rattle.std.proofs.Common.{subst}
use Rattle.wasm_ast.specs.Typing.{results}
use Rattle.wasm_typing.specs.Operands.{Stand, Image, Takes}
use Rattle.wasm_typing.proofs.Images.{image_jumps, jumps_stop}
use Rattle.wasm_typing.proofs.operands.Operands.jump.Goals as goal

pub returns-then-not-take_block : goal.returns-then-not-take_block
returns-then-not-take_block c =
    let P = Stand c.args.self.now in
    let M = Stand c.take_block.new.self in
    let ts = results c.args.wanted in
    jumps_stop ts P M (subst (λ ok. Image (Takes ts) P M ok) c.if-not-take_block.true c.take_block.ensures)

pub returns : goal.returns
returns c =
    let P = Stand c.args.self.now in
    let M = Stand c.take_block.new.self in
    let ts = results c.args.wanted in
    image_jumps ts P M (Stand c.forget.new.self) (subst (λ ok. Image (Takes ts) P M ok) c.if-not-take_block.false c.take_block.ensures) c.forget.ensures
