use Rattle.wasm_semantics.proofs.Shifts.{shifted_left, shifted_back}
use Rattle.wasm_semantics.proofs.laws.two_shifts_extend.Goals as goal

pub returns-clause-left : goal.returns-clause-left
returns-clause-left c = shifted_left

pub returns-clause-right : goal.returns-clause-right
returns-clause-right c = shifted_back
