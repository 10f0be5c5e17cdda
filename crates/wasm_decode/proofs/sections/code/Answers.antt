use Rattle.std.proofs.Common.{rules}
use Rattle.wasm_code.specs.Answers.{place}
use Rattle.wasm_decode.proofs.MemberCounts.{few_bodies}
use Rattle.wasm_decode.proofs.sections.code.Goals as goal

pub returns-clause-few : goal.returns-clause-few
returns-clause-few c = few_bodies (λ x. (x.0.items, place x.1)) c.in_ok-count.count (place c.in_ok-count.after) c.bodies.result (search rules) c.bodies.ensures
