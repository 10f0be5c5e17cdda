use Rattle.std.proofs.Common.{rules}
use Rattle.wasm_code.specs.Answers.{place}
use Rattle.wasm_decode.specs.Parts.{piece}
use Rattle.wasm_decode.proofs.MemberCounts.{few_times}
use Rattle.wasm_decode.proofs.sections.pieces.Goals as goal

pub returns-clause-few : goal.returns-clause-few
returns-clause-few c = few_times (λ x. (x.0.items, place x.1)) piece c.in_ok-count.count (place c.in_ok-count.after) c.times.result (search rules) c.times.ensures
