use Rattle.std.proofs.Common.{subst, List, [], ◌∷◌}
use Rattle.std.specs.Prelude.{Option}
use Rattle.wasm_ast.specs.declared.val_types.ValType.{ValType}
use Rattle.wasm_ast.specs.declared.trees.Instr.TheOpen.{Instr-F}
use Rattle.wasm_ast.specs.Typing.{Changes}
use Rattle.wasm_typing.specs.Operands.{Stand, Image}
use Rattle.wasm_typing.specs.Scopes.{TypeEffect}
use Rattle.wasm_typing.proofs.Effects.{if_ok, num_effect, two_taken, one_taken}
use Rattle.wasm_typing.proofs.scopes.Scope.num.Goals as goal

pub returns-then-operator : goal.returns-then-operator
returns-then-operator c =
    let s = c.args.self in
    let old = c.args.operands.now in
    if_ok c.exchange.result (λ ok. Image (Changes (c.in-Some.operator.operand ∷ (c.in-Some.operator.operand ∷ [])) (c.in-Some.operator.leaves ∷ [])) (Stand old) (Stand c.exchange.new.self) ok) (λ ok. (ls : List (Option ValType)) → TypeEffect s ls (Instr-F.Num c.args.opcode) old c.exchange.new.self ok)
    (λ ok h. num_effect s old c.exchange.new.self c.args.opcode c.in-Some.operator ok c.in-Some.ensures (subst (λ ts. Image (Changes ts (c.in-Some.operator.leaves ∷ [])) (Stand old) (Stand c.exchange.new.self) ok) (two_taken c.in-Some.operator c.if-operator.true) h)) c.exchange.ensures

pub returns : goal.returns
returns c =
    let s = c.args.self in
    let old = c.args.operands.now in
    if_ok c.exchange-2.result (λ ok. Image (Changes (c.in-Some.operator.operand ∷ []) (c.in-Some.operator.leaves ∷ [])) (Stand old) (Stand c.exchange-2.new.self) ok) (λ ok. (ls : List (Option ValType)) → TypeEffect s ls (Instr-F.Num c.args.opcode) old c.exchange-2.new.self ok)
    (λ ok h. num_effect s old c.exchange-2.new.self c.args.opcode c.in-Some.operator ok c.in-Some.ensures (subst (λ ts. Image (Changes ts (c.in-Some.operator.leaves ∷ [])) (Stand old) (Stand c.exchange-2.new.self) ok) (one_taken c.in-Some.operator c.if-operator.false) h)) c.exchange-2.ensures
