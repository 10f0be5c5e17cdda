use Rattle.wasm_semantics.proofs.ControlCases.{starts_over}
use Rattle.wasm_semantics.proofs.control_examples.start_frame_over_handle.Goals as goal

pub returns : goal.returns
returns c = starts_over
