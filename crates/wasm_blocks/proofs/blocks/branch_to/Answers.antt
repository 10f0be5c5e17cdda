use Rattle.std.proofs.Common.{◌≡◌, ◌-◌, ◌+◌, ◌++◌, length, take, drop, sym, ap, ◌∙◌, arith}
use Rattle.std.specs.Prelude.{suc}
use Rattle.wasm_semantics.specs.Operators.{truth}
use Rattle.wasm_data.specs.Cuts.{under}
use Rattle.wasm_data.specs.Marked.{operands_in}
use Rattle.wasm_blocks.proofs.BlocksOnStacks.{branch_room, branch_runs, branch_placed}
use Rattle.wasm_blocks.proofs.blocks.branch_to.Goals as goal

pub overflow_add-hot : goal.overflow_add-hot
overflow_add-hot c =
    let room = branch_room c.args.hot c.args.values.now c.args.opens.now c.args.nexts.now c.args.label c.in-Some.open c.requires.stands c.requires.inside (sym c.in-Some.ensures.value) c.requires.kept in
    omega (arith, room)

pub keep-sp-requires-clause-room : goal.keep-sp-requires-clause-room
keep-sp-requires-clause-room c =
    branch_room c.args.hot c.args.values.now c.args.opens.now c.args.nexts.now c.args.label c.in-Some.open c.requires.stands c.requires.inside (sym c.in-Some.ensures.value) c.requires.kept

pub returns-clause-goes : goal.returns-clause-goes
returns-clause-goes c =
    let m = c.args.hot.marks in
    let o = c.in-Some.open in
    let n = c.args.label in
    let opens = c.args.opens.now in
    let nexts = c.args.nexts.now in
    let ops = operands_in m.floor m.sp c.args.values.now in
    let height : m.floor + o.height - m.floor ≡ o.height = omega arith in
    let cut : length opens - (c.len.result - 1 - n) ≡ suc n = omega (arith, c.len.ensures, c.requires.inside) in
    let cut' : length nexts - (c.len-2.result - 1 - n) ≡ suc n = omega (arith, c.len-2.ensures, c.requires.inside, c.requires.stands.many) in
    branch_runs c.args.hot c.args.values.now c.keep-sp.new.values opens c.truncate.new.self nexts c.truncate-2.new.self n c.raised.result c.in-Some-copy_at.next o c.keep-sp.result
    c.requires.stands c.requires.inside (sym c.in-Some.ensures.value) (sym c.in-Some-copy_at.ensures.value) c.requires.kept c.keep-sp.ensures.sp (omega (arith, c.keep-sp.auto.values))
    (c.keep-sp.ensures.operands ∙ ap (λ h. take (truth o.keeps) ops ++ under h ops) height) c.keep-sp.ensures.locals c.keep-sp.ensures.deep
    (c.truncate.ensures ∙ ap (λ k. drop k opens) cut) (c.truncate-2.ensures ∙ ap (λ k. drop k nexts) cut') c.raised.ensures

pub returns-clause-placed : goal.returns-clause-placed
returns-clause-placed c body p =
    let n = c.args.label in
    let opens = c.args.opens.now in
    let nexts = c.args.nexts.now in
    let cut : length opens - (c.len.result - 1 - n) ≡ suc n = omega (arith, c.len.ensures, c.requires.inside) in
    let cut' : length nexts - (c.len-2.result - 1 - n) ≡ suc n = omega (arith, c.len-2.ensures, c.requires.inside, c.requires.stands.many) in
    branch_placed body c.args.hot opens c.truncate.new.self nexts c.truncate-2.new.self n c.in-Some-copy_at.next c.requires.inside (sym c.in-Some-copy_at.ensures.value)
    (c.truncate.ensures ∙ ap (λ k. drop k opens) cut) (c.truncate-2.ensures ∙ ap (λ k. drop k nexts) cut') p
