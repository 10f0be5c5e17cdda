use Rattle.wasm_code.specs.Answers.{place}
use Rattle.wasm_code.proofs.Names.{is_name, is_no_name}
use Rattle.wasm_code.proofs.input.Input.name.Goals as goal

pub returns-in-Ok : goal.returns-in-Ok
returns-in-Ok c = is_name (place c.args.self) (c.in_ok-text.text.now, place c.in_ok-text.after) c.in_ok-text.ensures c.in-Ok.ensures.cases.1

pub returns-in-Err : goal.returns-in-Err
returns-in-Err c = is_no_name (place c.args.self) (c.in_ok-text.text.now, place c.in_ok-text.after) c.in_ok-text.ensures c.in-Err.ensures.cases.0
