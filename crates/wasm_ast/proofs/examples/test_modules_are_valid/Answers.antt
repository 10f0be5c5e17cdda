use Rattle.wasm_ast.proofs.Worked.{echo_valid, built_valid, fill_valid, give_valid}
use Rattle.wasm_ast.proofs.examples.test_modules_are_valid.Goals as goal

pub returns-clause-echo : goal.returns-clause-echo
returns-clause-echo c = echo_valid

pub returns-clause-built : goal.returns-clause-built
returns-clause-built c = built_valid

pub returns-clause-fill : goal.returns-clause-fill
returns-clause-fill c = fill_valid

pub returns-clause-give : goal.returns-clause-give
returns-clause-give c = give_valid
