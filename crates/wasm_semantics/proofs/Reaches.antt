-- What is reached from the beginning is never stuck.
use Rattle.wasm_ast.specs.declared.modules.Module.{Module}
use Rattle.wasm_ast.specs.Validity.{Valid}
use Rattle.wasm_semantics.specs.Threads.{Outcome}
use Rattle.wasm_semantics.specs.OfModule.{Sound, Reached, start, step, reply}
use Rattle.wasm_semantics.proofs.Units.{unit_sound}
use Rattle.wasm_semantics.proofs.Begin.{begin_is_of}

pub reached_sound : (m : Module) (o : Outcome) → Valid m → Reached m o → Sound m o
reached_sound m o valid (start k) = begin_is_of m valid
reached_sound m o valid (step k pages t r) = unit_sound m pages t valid (reached_sound m _ valid r)
reached_sound m o valid (reply k h args t memory answer r fits given) = (reached_sound m _ valid r).waits memory answer fits given
