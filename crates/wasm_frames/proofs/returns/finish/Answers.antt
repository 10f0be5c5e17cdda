use Rattle.std.proofs.Common.{◌≡◌, ◌∷◌, ◌-◌, ◌≤◌, List, length, drop, ap, ◌∙◌, arith, length-drop}
use Rattle.wasm_data.specs.Cuts.{under}
use Rattle.wasm_frames.specs.declared.active.Place.{Place}
use Rattle.wasm_frames.proofs.FrameEnds.{room_to_return, finish_goes}
use Rattle.wasm_frames.proofs.returns.finish.Goals as goal

fewer : (xs ys : List Place) (y : Place) → xs ≡ y ∷ ys → length ys ≤ length xs
fewer xs ys y e = omega (arith, ap length e)

pub hand-sp-requires-clause-room : goal.hand-sp-requires-clause-room
hand-sp-requires-clause-room c = room_to_return c.args.active c.args.places.now c.args.codes.now c.args.values.now c.args.opens.now c.args.nexts.now c.requires.stands c.requires.kept

pub returns : goal.returns
unfolding under
returns c m st pl =
    let os = c.args.opens.now in
    let ns = c.args.nexts.now in
    let low = c.args.active.hot.low in
    let cut : length ns - (c.len.result - (c.len-2.result - low)) ≡ length os - low = omega (arith, c.len.ensures, c.len-2.ensures, c.requires.stands.here.many) in (
      finish_goes m st c.args.active c.in-Some-pop.below c.args.places.now c.pop-2.new.self c.in-Some.code c.args.codes.now c.pop.new.self c.args.values.now c.hand-sp.new.values os c.truncate-2.new.self ns c.truncate.new.self c.raised.result c.hand-sp.result
          c.in-Some-pop.ensures c.in-Some.ensures c.truncate-2.ensures (c.truncate.ensures ∙ ap (λ k. drop k ns) cut) c.raised.ensures c.requires.stands pl c.requires.kept
          c.hand-sp.ensures.sp (omega (arith, c.hand-sp.auto.values)) c.hand-sp.ensures.operands c.hand-sp.ensures.deep,
      record { frames = fewer c.args.places.now c.pop-2.new.self c.in-Some-pop.below c.in-Some-pop.ensures; blocks = omega (arith, ap length c.truncate-2.ensures, length-drop (length os - low) os) },
    )
