use Rattle.wasm_blocks.proofs.BlocksOnStacks.{leave_runs, leave_placed}
use Rattle.wasm_blocks.proofs.blocks.leave_block.Goals as goal

pub returns-clause-goes : goal.returns-clause-goes
returns-clause-goes c =
    leave_runs c.args.hot c.args.values.now c.args.opens.now c.pop.new.self c.args.nexts.now c.pop-2.new.self c.behind.result c.in-Some-pop.next c.in-Some.open
    c.requires.stands c.requires.inside c.behind.ensures c.in-Some.ensures c.in-Some-pop.ensures

pub returns-clause-placed : goal.returns-clause-placed
returns-clause-placed c body p =
    leave_placed body c.args.hot c.args.opens.now c.pop.new.self c.args.nexts.now c.pop-2.new.self c.behind.result c.in-Some-pop.next c.in-Some.open
    c.requires.inside c.behind.ensures c.in-Some.ensures c.in-Some-pop.ensures p
