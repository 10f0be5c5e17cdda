use Rattle.std.proofs.Common.{subst}
use Rattle.std.specs.Prelude.{reverse}
use Rattle.wasm_ast.specs.Typing.{results}
use Rattle.wasm_typing.specs.Operands.{Stand, Image, Takes}
use Rattle.wasm_typing.proofs.Images.{image_changes, changes_stop}
use Rattle.wasm_typing.proofs.operands.Operands.exchange.Goals as goal

pub returns-then-not-take_all : goal.returns-then-not-take_all
returns-then-not-take_all c =
    let P = Stand c.args.self.now in
    let M = Stand c.take_all.new.self in
    changes_stop (reverse c.args.wanted.now) (results c.args.left) P M (subst (λ ok. Image (Takes (reverse c.args.wanted.now)) P M ok) c.if-not-take_all.true c.take_all.ensures)

pub returns : goal.returns
returns c =
    let P = Stand c.args.self.now in
    let M = Stand c.take_all.new.self in
    image_changes (reverse c.args.wanted.now) (results c.args.left) P M (Stand c.leave_block.new.self) (subst (λ ok. Image (Takes (reverse c.args.wanted.now)) P M ok) c.if-not-take_all.false c.take_all.ensures) c.in_ok-leave_block.ensures
