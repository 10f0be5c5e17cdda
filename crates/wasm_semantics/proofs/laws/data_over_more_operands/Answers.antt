use Rattle.wasm_semantics.proofs.DeeperOperands.{effect_flat}
use Rattle.wasm_semantics.proofs.laws.data_over_more_operands.Goals as goal

pub returns : goal.returns
returns c = effect_flat
