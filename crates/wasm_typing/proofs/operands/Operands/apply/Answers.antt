use Rattle.std.proofs.Common.{subst, true}
use Rattle.std.specs.Prelude.{reverse}
use Rattle.wasm_typing.specs.Operands.{Stand, Image, Takes, PutsOn}
use Rattle.wasm_typing.proofs.Images.{image_changes, changes_stop}
use Rattle.wasm_typing.proofs.operands.Operands.apply.Goals as goal

pub returns-then-not-take_all : goal.returns-then-not-take_all
returns-then-not-take_all c =
    let P = Stand c.args.self.now in
    let M = Stand c.take_all.new.self in
    changes_stop (reverse c.args.signature.now.params) (c.args.signature.now.results) P M (subst (λ ok. Image (Takes (reverse c.args.signature.now.params)) P M ok) c.if-not-take_all.true (subst (λ ts. Image (Takes (reverse ts)) P M c.take_all.result) c.params.ensures c.take_all.ensures))

pub returns : goal.returns
returns c =
    let P = Stand c.args.self.now in
    let M = Stand c.take_all.new.self in
    image_changes (reverse c.args.signature.now.params) (c.args.signature.now.results) P M (Stand c.leave_all.new.self) (subst (λ ok. Image (Takes (reverse c.args.signature.now.params)) P M ok) c.if-not-take_all.false (subst (λ ts. Image (Takes (reverse ts)) P M c.take_all.result) c.params.ensures c.take_all.ensures)) (subst (λ ts. Image (PutsOn ts) M (Stand c.leave_all.new.self) true) c.results.ensures c.in_ok-leave_all.ensures)
