use Rattle.std.proofs.Common.{subst}
use Rattle.wasm_code.specs.Answers.{ReadsAs}
use Rattle.wasm_code.specs.Grammar.{ExprTo}
use Rattle.wasm_code.specs.Places.{part}
use Rattle.wasm_code.specs.Reading.{expr_to}
use Rattle.wasm_code.proofs.Answered.{found, only, fault, first, expr_is}
use Rattle.wasm_code.proofs.bodies.decode_expr.Goals as goal

pub returns-clause-found : goal.returns-clause-found
returns-clause-found c =
    let p = part c.args.start c.args.end c.args.bytes.now in
    found (ExprTo c.args.start c.args.end c.args.bytes.now) (expr_to p) c.expr_to.result (expr_is c.args.start c.args.end c.args.bytes.now c.requires.from c.requires.to) (subst (λ p. ReadsAs (λ x. x) c.expr_to.result (expr_to p)) c.part.ensures c.expr_to.ensures)

pub returns-clause-only : goal.returns-clause-only
returns-clause-only c =
    let p = part c.args.start c.args.end c.args.bytes.now in
    only (ExprTo c.args.start c.args.end c.args.bytes.now) (expr_to p) c.expr_to.result (expr_is c.args.start c.args.end c.args.bytes.now c.requires.from c.requires.to) (subst (λ p. ReadsAs (λ x. x) c.expr_to.result (expr_to p)) c.part.ensures c.expr_to.ensures)

pub returns-clause-fault : goal.returns-clause-fault
returns-clause-fault c =
    let p = part c.args.start c.args.end c.args.bytes.now in
    fault (expr_to p) c.expr_to.result (subst (λ p. ReadsAs (λ x. x) c.expr_to.result (expr_to p)) c.part.ensures c.expr_to.ensures)

pub returns-clause-first : goal.returns-clause-first
returns-clause-first c =
    let p = part c.args.start c.args.end c.args.bytes.now in
    first (expr_to p) c.expr_to.result (subst (λ p. ReadsAs (λ x. x) c.expr_to.result (expr_to p)) c.part.ensures c.expr_to.ensures)
