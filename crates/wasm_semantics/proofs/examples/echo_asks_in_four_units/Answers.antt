use Rattle.wasm_ast.proofs.Worked.{echo_valid}
use Rattle.wasm_semantics.proofs.Echo.{echo_three, echo_four, echo_answered, fourth}
use Rattle.wasm_semantics.proofs.examples.echo_asks_in_four_units.Goals as goal

pub returns-clause-valid : goal.returns-clause-valid
returns-clause-valid c = echo_valid

pub returns-clause-four : goal.returns-clause-four
returns-clause-four c = echo_four

pub returns-clause-three : goal.returns-clause-three
returns-clause-three c = λ pages. (fourth, echo_three pages)

pub returns-clause-answered : goal.returns-clause-answered
returns-clause-answered c = echo_answered
