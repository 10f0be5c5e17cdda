use Rattle.wasm_semantics.proofs.Cases.{frame_too_many}
use Rattle.wasm_semantics.proofs.control_examples.frame_1025_traps.Goals as goal

pub returns : goal.returns
returns c = frame_too_many
