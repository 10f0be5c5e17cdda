use Rattle.std.proofs.Common.{refl, sym, subst, ◌∙◌, arith}
use Rattle.wasm_semantics.specs.Threads.{Outcome}
use Rattle.wasm_semantics.specs.Control.{leave}
use Rattle.wasm_blocks.specs.Runs.{Outer, place}
use Rattle.wasm_frames.specs.Resting.{body_of}
use Rattle.wasm_frames.specs.Standing.{held}
use Rattle.wasm_frames.specs.Turns.{Answered}
use Rattle.wasm_frames.proofs.Lifts.{lifts}
use Rattle.wasm_units.proofs.Needs.{leave_ends}
use Rattle.wasm_units.proofs.ends.leave_level.Goals as goal

pub returns-then-len-active : goal.returns-then-len-active
returns-then-len-active c m st pl =
    let P : Outcome → Type 0 = λ out. Answered m out st st (held c.args.places.now c.args.codes.now c.args.values.now c.args.opens.now c.args.nexts.now) (held c.finish.new.places c.finish.new.codes c.finish.new.values c.finish.new.opens c.finish.new.nexts) c.finish.result in
    subst P (sym (leave_ends m st c.args.active (held c.args.places.now c.args.codes.now c.args.values.now c.args.opens.now c.args.nexts.now) (sym c.len.ensures ∙ c.if-len-active.true))) (c.finish.ensures m st pl)

pub returns : goal.returns
returns c m st pl =
    let out = λ (b : Outer). leave (place b c.args.active.hot c.args.values.now c.args.opens.now c.args.nexts.now) in (
      lifts m st c.args.active c.args.active.hot c.leave_block.result c.args.places.now c.args.codes.now c.args.values.now c.args.values.now c.args.opens.now c.leave_block.new.opens c.args.nexts.now c.leave_block.new.nexts out
          c.requires.stands pl refl refl c.leave_block.ensures.goes (omega arith) (c.leave_block.ensures.placed (body_of m c.args.active.function) pl.here),
      record { frames = omega arith; blocks = omega (arith, c.leave_block.ensures.fewer) },
    )
