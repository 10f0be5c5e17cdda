use Rattle.wasm_validate.proofs.Refused.{only_for_memory, tells_the_fault}
use Rattle.wasm_validate.proofs.modules.validate.Goals as goal

pub returns-in-Err-clause-valid : goal.returns-in-Err-clause-valid
returns-in-Err-clause-valid c = only_for_memory c.args.program c.in-Err.invalid c.in-Err.ensures.err

pub returns-in-Err-clause-fault : goal.returns-in-Err-clause-fault
returns-in-Err-clause-fault c = λ f. tells_the_fault c.args.program c.in-Err.invalid f c.in-Err.ensures.err

pub returns-in-Err-test_bodies-clause-valid : goal.returns-in-Err-test_bodies-clause-valid
returns-in-Err-test_bodies-clause-valid c = only_for_memory c.args.program c.in-Err-test_bodies.invalid c.in-Err-test_bodies.ensures.err

pub returns-in-Err-test_bodies-clause-fault : goal.returns-in-Err-test_bodies-clause-fault
returns-in-Err-test_bodies-clause-fault c = λ f. tells_the_fault c.args.program c.in-Err-test_bodies.invalid f c.in-Err-test_bodies.ensures.err
