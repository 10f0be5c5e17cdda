use Rattle.wasm_semantics.proofs.Spin.{spin_valid, spin_three, spin_four, turns}
use Rattle.wasm_semantics.proofs.examples.spin_goes_on.Goals as goal

pub returns-clause-valid : goal.returns-clause-valid
returns-clause-valid c = spin_valid

pub returns-clause-three : goal.returns-clause-three
returns-clause-three c = spin_three

pub returns-clause-four : goal.returns-clause-four
returns-clause-four c = spin_four

pub returns-clause-again : goal.returns-clause-again
returns-clause-again c = turns
