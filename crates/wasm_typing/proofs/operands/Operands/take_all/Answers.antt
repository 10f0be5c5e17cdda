use Rattle.std.proofs.Common.{◌∷◌, [], length, take, true, subst, sym}
use Rattle.std.specs.Prelude.{reverse}
use Rattle.std.proofs.lemmas.List.{length_push}
use Rattle.std.proofs.lemmas.Iterator.Adapters.{YieldsList-from_rev_slice}
use Rattle.std.proofs.lemmas.Iterator.Consumers.{YieldsList-turn}
use Rattle.wasm_typing.specs.Operands.{Stand, Image, Takes}
use Rattle.wasm_typing.proofs.Images.{take_step, take_stop}
use Rattle.wasm_typing.proofs.operands.Operands.take_all.Goals as goal

pub returns-then-not-take : goal.returns-then-not-take
returns-then-not-take c =
    let t = YieldsList-turn (YieldsList-from_rev_slice c.args.wanted.now cc) c.loop-val_type.yielded _ c.loop-val_type.yielded_by _ _ c.in-Some.val_type c.in-Some.is c.next.ensures.steps in
    take_stop (reverse c.args.wanted.now) (length c.loop-val_type.yielded) c.in-Some.val_type.now (Stand c.args.self.now) (Stand c.loop-val_type.self) (Stand c.take.new.self) t.0 t.1
    c.loop-val_type.invariant.2 (subst (λ ok. Image (Takes (c.in-Some.val_type.now ∷ [])) (Stand c.loop-val_type.self) (Stand c.take.new.self) ok) c.if-not-take.true c.take.ensures)

pub loop-val_type-preserved : goal.loop-val_type-preserved
loop-val_type-preserved c =
    let t = YieldsList-turn (YieldsList-from_rev_slice c.args.wanted.now cc) c.loop-val_type.yielded _ c.loop-val_type.yielded_by _ _ c.in-Some.val_type c.in-Some.is c.next.ensures.steps in
    let all = reverse c.args.wanted.now in (
      tt,
      tt,
      subst (λ n. Image (Takes (take n all)) (Stand c.args.self.now) (Stand c.take.new.self) true) (sym (length_push c.loop-val_type.yielded c.in-Some.val_type))
          (take_step all (length c.loop-val_type.yielded) c.in-Some.val_type.now (Stand c.args.self.now) (Stand c.loop-val_type.self) (Stand c.take.new.self) t.0 t.1
          c.loop-val_type.invariant.2 (subst (λ ok. Image (Takes (c.in-Some.val_type.now ∷ [])) (Stand c.loop-val_type.self) (Stand c.take.new.self) ok) c.if-not-take.false c.take.ensures)),
    )
