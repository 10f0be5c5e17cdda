use Rattle.std.specs.Prelude.{[]}
use Rattle.wasm_code.specs.Fields.{filling}
use Rattle.wasm_code.specs.Grammar.{IsBody}
use Rattle.wasm_code.specs.Places.{part}
use Rattle.wasm_code.specs.Reading.{body}
use Rattle.wasm_code.proofs.Answered.{found, only, fault, first, body_is}
use Rattle.wasm_code.proofs.bodies.decode_code.Goals as goal

pub returns-clause-found : goal.returns-clause-found
returns-clause-found c =
    let p = part c.args.start c.args.end c.args.bytes.now in
    found (λ b. IsBody b p.rest []) (filling (body c.args.function) p) c.filled_body.result (body_is c.args.function p) (rw c.part.ensures at c.filled_body.ensures)

pub returns-clause-only : goal.returns-clause-only
returns-clause-only c =
    let p = part c.args.start c.args.end c.args.bytes.now in
    only (λ b. IsBody b p.rest []) (filling (body c.args.function) p) c.filled_body.result (body_is c.args.function p) (rw c.part.ensures at c.filled_body.ensures)

pub returns-clause-fault : goal.returns-clause-fault
returns-clause-fault c =
    let p = part c.args.start c.args.end c.args.bytes.now in
    fault (filling (body c.args.function) p) c.filled_body.result (rw c.part.ensures at c.filled_body.ensures)

pub returns-clause-first : goal.returns-clause-first
returns-clause-first c =
    let p = part c.args.start c.args.end c.args.bytes.now in
    first (filling (body c.args.function) p) c.filled_body.result (rw c.part.ensures at c.filled_body.ensures)
