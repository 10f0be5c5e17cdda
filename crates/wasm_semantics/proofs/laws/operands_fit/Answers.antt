use Rattle.wasm_semantics.proofs.Operands.{operands_fit}
use Rattle.wasm_semantics.proofs.laws.operands_fit.Goals as goal

pub returns : goal.returns
returns c = operands_fit
