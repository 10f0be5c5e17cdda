use Rattle.std.proofs.Common.{◌≡◌, ◌+◌, ◌-◌, length, sym, ap, ◌∙◌, arith}
use Rattle.std.specs.Prelude.{Some, slice_get}
use Rattle.wasm_data.specs.Cuts.{above, under}
use Rattle.wasm_blocks.specs.Rest.{code_in}
use Rattle.wasm_frames.specs.Resting.{body_of}
use Rattle.wasm_exec.proofs.FoundCode.{none_between, one_between, none_laid, one_laid, one_inside}
use Rattle.wasm_exec.proofs.codes.find_code.Goals as goal

pub heights-init : goal.heights-init
heights-init c =
    let body = body_of c.args.program.now c.args.function in
    let none = none_between c.args.low c.args.opens.now (omega arith) in
    record { code = c.body_code-code.ensures ∙ sym (ap (code_in body) none); laid = none_laid body _ c.args.nexts.now none }

pub heights-preserved : goal.heights-preserved
heights-preserved c =
    let body = body_of c.args.program.now c.args.function in
    let os = c.args.opens.now in
    let h = c.heights.height in
    let o = c.in-Some.block in
    let own = above c.args.low (under h os) in
    let own' = above c.args.low (under (h + 1) os) in
    let there : slice_get os (length os - 1 - h) ≡ Some o = ap (λ n. slice_get os (n - 1 - h)) (sym c.len.ensures) ∙ sym c.in-Some.ensures.value in
    let one = one_between c.args.low h os o c.heights.auto.height (omega arith) there in
    record {
      code = one_inside body c.heights.code.now c.inside-code.result.now own own' o one c.heights.invariant.code c.inside-code.ensures;
      laid = one_laid body c.heights.code.now own own' o c.last_of.result c.args.nexts.now c.heights.nexts c.push.new.self one c.heights.invariant.code c.last_of.ensures c.in_ok-push.ensures.ok c.heights.invariant.laid;
    }
