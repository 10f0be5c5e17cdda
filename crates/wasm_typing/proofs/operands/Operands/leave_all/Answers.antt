use Rattle.std.proofs.Common.{length, take, true, subst, sym}
use Rattle.std.specs.Prelude.{reverse}
use Rattle.std.proofs.lemmas.List.{length_push}
use Rattle.std.proofs.lemmas.Iterator.Adapters.{YieldsList-from_rev_slice}
use Rattle.std.proofs.lemmas.Iterator.Consumers.{YieldsList-turn}
use Rattle.wasm_typing.specs.Operands.{Stand, Image, PutsOn}
use Rattle.wasm_typing.proofs.Images.{leave_step}
use Rattle.wasm_typing.proofs.operands.Operands.leave_all.Goals as goal

pub loop-val_type-preserved : goal.loop-val_type-preserved
loop-val_type-preserved c =
    let t = YieldsList-turn (YieldsList-from_rev_slice c.args.val_types.now cc) c.loop-val_type.yielded _ c.loop-val_type.yielded_by _ _ c.in-Some.val_type c.in-Some.is c.next.ensures.steps in
    let all = reverse c.args.val_types.now in (
      tt,
      tt,
      subst (λ n. Image (PutsOn (reverse (take n all))) (Stand c.args.self.now) (Stand c.leave.new.self) true) (sym (length_push c.loop-val_type.yielded c.in-Some.val_type))
          (leave_step all (length c.loop-val_type.yielded) c.in-Some.val_type.now (Stand c.args.self.now) (Stand c.loop-val_type.self) (Stand c.leave.new.self) t.0 t.1
          c.loop-val_type.invariant.2 c.in_ok-leave.ensures),
    )
