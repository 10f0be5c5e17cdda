use Rattle.std.proofs.Common.{subst, List, [], ◌∷◌}
use Rattle.std.specs.Prelude.{Option}
use Rattle.wasm_ast.specs.declared.val_types.ValType.{ValType}
use Rattle.wasm_ast.specs.declared.val_types.ValType.TheVariants.{I32}
use Rattle.wasm_ast.specs.declared.trees.Instr.TheOpen.{Instr-F}
use Rattle.wasm_typing.specs.Operands.{Stand, Image, Takes, Chooses}
use Rattle.wasm_typing.specs.Scopes.{TypeEffect}
use Rattle.wasm_typing.proofs.Effects.{if_ok, select_effect, select_stops}
use Rattle.wasm_typing.proofs.scopes.Scope.select.Goals as goal

pub returns-then-not-take : goal.returns-then-not-take
returns-then-not-take c =
    let s = c.args.self in
    let old = c.args.operands.now in
    select_stops s old c.take.new.self (subst (λ ok. Image (Takes (I32 ∷ [])) (Stand old) (Stand c.take.new.self) ok) c.if-not-take.true c.take.ensures)

pub returns : goal.returns
returns c =
    let s = c.args.self in
    let old = c.args.operands.now in
    if_ok c.choose.result (λ ok. Image (Chooses) (Stand c.take.new.self) (Stand c.choose.new.self) ok) (λ ok. (ls : List (Option ValType)) → TypeEffect s ls (Instr-F.Select) old c.choose.new.self ok)
    (λ ok h. select_effect s old c.choose.new.self c.take.new.self ok (subst (λ ok. Image (Takes (I32 ∷ [])) (Stand old) (Stand c.take.new.self) ok) c.if-not-take.false c.take.ensures) h) c.choose.ensures
