use Rattle.std.proofs.Common.{◌-◌, refl}
use Rattle.std.specs.Prelude.{length}
use Rattle.wasm_blocks.specs.declared.open.Open.{Open}
use Rattle.wasm_blocks.proofs.BlocksOnStacks.{enter_runs, enter_placed}
use Rattle.wasm_blocks.proofs.blocks.enter_block.Goals as goal

pub returns-clause-goes : goal.returns-clause-goes
returns-clause-goes c =
    enter_runs c.args.hot c.args.values.now c.args.opens.now c.push.new.self c.args.nexts.now c.push-2.new.self c.args.code c.args.next _
    c.requires.stands c.requires.rest refl c.in_ok-push.ensures.ok c.in_ok-push-2.ensures.ok

pub returns-clause-placed : goal.returns-clause-placed
returns-clause-placed c body i p n part =
    let m = c.args.hot.marks in
    let o : Open = record { left = length c.args.next.now; height = m.sp - m.floor; second = c.args.second; loops = c.args.loops; keeps = c.args.keeps } in
    enter_placed body i c.args.hot c.args.opens.now c.push.new.self c.args.nexts.now c.push-2.new.self c.args.code.now c.args.next o
    c.requires.stands.low p n refl part c.in_ok-push.ensures.ok c.in_ok-push-2.ensures.ok
