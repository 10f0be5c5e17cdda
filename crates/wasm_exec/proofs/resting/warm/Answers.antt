use Rattle.std.proofs.Common.{sym}
use Rattle.wasm_exec.proofs.WokenFrames.{none_left, below_low, warms}
use Rattle.wasm_exec.proofs.resting.warm.Goals as goal

pub find_rest-requires-clause-order : goal.find_rest-requires-clause-order
find_rest-requires-clause-order c =
    below_low c.args.active c.in-Some.below c.args.places.now c.args.codes.now c.args.values.now c.args.opens.now c.args.nexts.now c.requires.stands (sym c.in-Some.ensures.value)

pub returns : goal.returns
returns c =
    warms c.args.program.now c.args.active c.in-Some.below c.args.places.now c.set.new.self c.args.codes.now c.push.new.self c.in_ok-code.code c.args.values.now c.args.opens.now c.len.result
    c.args.nexts.now c.truncate.new.self c.find_rest.new.nexts c.find_code.new.nexts (sym c.in-Some.ensures.value) c.requires.cold.none c.requires.stands c.requires.placed c.len.ensures
    (none_left c.args.nexts.now c.truncate.new.self c.truncate.ensures) c.in_ok-code.ensures.code c.in_ok-code.ensures.nexts c.in_ok-find_code.ensures.nexts c.in_ok-push.ensures.ok c.set.ensures
