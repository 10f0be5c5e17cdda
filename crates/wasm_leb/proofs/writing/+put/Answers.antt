use Rattle.std.proofs.Common.{ℕ, length, ap, length-append, arith}
use Rattle.wasm_leb.proofs.Tops.{room_left}
use Rattle.wasm_leb.proofs.Shortest.{adds_more}
use Rattle.wasm_leb.proofs.writing.+put.Goals as goal

pub put-requires : goal.put-requires
put-requires t c =
    let needs = c.in-None.ensures.none in
    let left = room_left c.args.top c.requires.room.0 (length c.args.leb.now) c.requires.room.1 needs.0 c.requires.room.2 in
    let more = ap length c.push-in-None.ensures in
    (omega (arith, needs.0), (omega (arith, c.requires.value), (left.0, left.1, omega (arith, left.2, more, length-append {A = ℕ}), left.3)))

pub returns-in-None : goal.returns-in-None
returns-in-None t c = adds_more _ _ _ _ _ _ c.in-None.ensures.none c.push-in-None.ensures c.put.ensures
