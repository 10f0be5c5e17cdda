use Rattle.std.proofs.Common.{◌≡◌, ◌-◌, length, refl, sym, subst, arith}
use Rattle.wasm_semantics.specs.Threads.{Outcome}
use Rattle.wasm_semantics.specs.Control.{branch_at}
use Rattle.wasm_blocks.specs.Runs.{Outer, place}
use Rattle.wasm_frames.specs.Standing.{held}
use Rattle.wasm_frames.specs.Resting.{body_of}
use Rattle.wasm_frames.specs.Turns.{Answered}
use Rattle.wasm_frames.proofs.Lifts.{lifts}
use Rattle.wasm_frames.proofs.FrameEnds.{jump_returns}
use Rattle.wasm_frames.proofs.returns.jump.Goals as goal

pub returns-then-label-len : goal.returns-then-label-len
returns-then-label-len c m st pl =
    let last : c.args.label ≡ length c.args.opens.now - c.args.active.hot.low = omega (arith, c.if-label-len.true, c.len.ensures, c.requires.kept.inside) in
    let e = jump_returns m st c.args.active c.args.label c.args.places.now c.args.codes.now c.args.values.now c.args.opens.now c.args.nexts.now last in
    let was = held c.args.places.now c.args.codes.now c.args.values.now c.args.opens.now c.args.nexts.now in
    let h = held c.finish.new.places c.finish.new.codes c.finish.new.values c.finish.new.opens c.finish.new.nexts in
    let P : Outcome → Type 0 = λ out. Answered m out st st was h c.finish.result in
    subst P (sym e) (c.finish.ensures m st pl)

pub returns : goal.returns
returns c m st pl =
    let a = c.args.active in
    let vs = c.args.values.now in
    let os = c.args.opens.now in
    let ns = c.args.nexts.now in
    let n = c.args.label in
    let out = λ (b : Outer). let p = place b a.hot vs os ns in branch_at p n p.level.values in (
      lifts m st a a.hot c.branch_to-hot.result c.args.places.now c.args.codes.now vs c.branch_to-hot.new.values os c.branch_to-hot.new.opens ns c.branch_to-hot.new.nexts out
          c.requires.stands pl refl refl c.branch_to-hot.ensures.goes (omega (arith, c.branch_to-hot.auto.values)) (c.branch_to-hot.ensures.placed (body_of m a.function) pl.here),
      record { frames = omega arith; blocks = omega (arith, c.branch_to-hot.ensures.fewer) },
    )
