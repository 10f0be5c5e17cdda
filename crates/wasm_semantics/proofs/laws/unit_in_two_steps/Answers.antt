use Rattle.wasm_semantics.proofs.Takes.{taken_acts, ended_leaves}
use Rattle.wasm_semantics.proofs.laws.unit_in_two_steps.Goals as goal

pub returns-clause-acts : goal.returns-clause-acts
returns-clause-acts c = taken_acts

pub returns-clause-leaves : goal.returns-clause-leaves
returns-clause-leaves c = ended_leaves
