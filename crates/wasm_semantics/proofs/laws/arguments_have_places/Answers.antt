use Rattle.wasm_semantics.proofs.Waits.{four_fit, first_places}
use Rattle.wasm_semantics.proofs.laws.arguments_have_places.Goals as goal

pub returns-clause-four : goal.returns-clause-four
returns-clause-four c = four_fit

pub returns-clause-first : goal.returns-clause-first
returns-clause-first c = first_places
