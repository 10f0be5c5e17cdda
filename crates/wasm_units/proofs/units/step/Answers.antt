use Rattle.std.proofs.Common.{ap, subst, ◌∙◌, arith}
use Rattle.wasm_semantics.specs.Units.{limited, unit_at}
use Rattle.wasm_frames.specs.Standing.{held, store_of, spot_at}
use Rattle.wasm_frames.specs.Turns.{Answered, IsBounded}
use Rattle.wasm_frames.specs.declared.turns.Turn.{Turn}
use Rattle.wasm_frames.proofs.Counts.{goes_within, asks_within, traps_frames, traps_blocks}
use Rattle.wasm_units.proofs.units.step.Goals as goal

pub returns-in-Goes-clause-answered : goal.returns-in-Goes-clause-answered
returns-in-Goes-clause-answered c =
    let m = c.args.program.now in
    let st = store_of c.unit.new.memory.bytes c.unit.new.globals c.args.table.now in
    let h = held c.unit.new.places c.unit.new.codes c.unit.new.values c.unit.new.opens c.unit.new.nexts in
    let was = held c.args.places.now c.args.codes.now c.args.values.now c.args.opens.now c.args.nexts.now in
    let st0 = store_of c.args.memory.now.bytes c.args.globals.now c.args.table.now in
    let P : Turn → Type 0 = λ t. Answered m (unit_at m c.args.pages (spot_at m st0 c.args.active was)) st0 st was h t in
    let e = subst P c.in-Goes.is c.unit.ensures.answered in
    let w : IsBounded h = record { values = omega (arith, c.unit.auto.values, c.requires.bounded.values); frames = omega (arith, e.1.frames, c.requires.bounded.frames); blocks = omega (arith, e.1.blocks, c.requires.bounded.blocks) } in
    (record { is = ap limited e.0.is ∙ goes_within m st c.in-Goes.now h e.0.stands w; stands = e.0.stands; placed = e.0.placed }, w)

pub returns-in-Asks-clause-answered : goal.returns-in-Asks-clause-answered
returns-in-Asks-clause-answered c =
    let m = c.args.program.now in
    let st = store_of c.unit.new.memory.bytes c.unit.new.globals c.args.table.now in
    let h = held c.unit.new.places c.unit.new.codes c.unit.new.values c.unit.new.opens c.unit.new.nexts in
    let was = held c.args.places.now c.args.codes.now c.args.values.now c.args.opens.now c.args.nexts.now in
    let st0 = store_of c.args.memory.now.bytes c.args.globals.now c.args.table.now in
    let P : Turn → Type 0 = λ t. Answered m (unit_at m c.args.pages (spot_at m st0 c.args.active was)) st0 st was h t in
    let e = subst P c.in-Asks.is c.unit.ensures.answered in
    let w : IsBounded h = record { values = omega (arith, c.unit.auto.values, c.requires.bounded.values); frames = omega (arith, e.1.frames, c.requires.bounded.frames); blocks = omega (arith, e.1.blocks, c.requires.bounded.blocks) } in
    (record { is = ap limited e.0.is ∙ asks_within m st c.in-Asks.now h c.in-Asks.name _ e.0.stands w; stands = e.0.stands; placed = e.0.placed; room = e.0.room }, w)

pub returns-else-len-gt1023-clause-answered : goal.returns-else-len-gt1023-clause-answered
returns-else-len-gt1023-clause-answered c =
    let m = c.args.program.now in
    let st = store_of c.unit.new.memory.bytes c.unit.new.globals c.args.table.now in
    let h = held c.unit.new.places c.unit.new.codes c.unit.new.values c.unit.new.opens c.unit.new.nexts in
    let was = held c.args.places.now c.args.codes.now c.args.values.now c.args.opens.now c.args.nexts.now in
    let st0 = store_of c.args.memory.now.bytes c.args.globals.now c.args.table.now in
    let P : Turn → Type 0 = λ t. Answered m (unit_at m c.args.pages (spot_at m st0 c.args.active was)) st0 st was h t in
    let e = subst P c.in-Grew.is c.unit.ensures.answered in
    let w : IsBounded h = record { values = omega (arith, c.unit.auto.values, c.requires.bounded.values); frames = omega (arith, c.if-len-gt1023.false, c.len-in-Grew.ensures); blocks = omega (arith, c.if-len-gt16384.false, c.len.ensures) } in
    (record { is = ap limited e.is ∙ goes_within m st c.in-Grew.now h e.stands w; stands = e.stands; placed = e.placed }, w)

pub returns-then-len-gt16384-clause-answered : goal.returns-then-len-gt16384-clause-answered
returns-then-len-gt16384-clause-answered c =
    let m = c.args.program.now in
    let st = store_of c.unit.new.memory.bytes c.unit.new.globals c.args.table.now in
    let h = held c.unit.new.places c.unit.new.codes c.unit.new.values c.unit.new.opens c.unit.new.nexts in
    let was = held c.args.places.now c.args.codes.now c.args.values.now c.args.opens.now c.args.nexts.now in
    let st0 = store_of c.args.memory.now.bytes c.args.globals.now c.args.table.now in
    let P : Turn → Type 0 = λ t. Answered m (unit_at m c.args.pages (spot_at m st0 c.args.active was)) st0 st was h t in
    let e = subst P c.in-Grew.is c.unit.ensures.answered in
    ap limited e.is ∙ traps_blocks m st c.in-Grew.now h e.stands (omega (arith, c.if-len-gt16384.true, c.len.ensures))

pub returns-then-len-gt1023-clause-answered : goal.returns-then-len-gt1023-clause-answered
returns-then-len-gt1023-clause-answered c =
    let m = c.args.program.now in
    let st = store_of c.unit.new.memory.bytes c.unit.new.globals c.args.table.now in
    let h = held c.unit.new.places c.unit.new.codes c.unit.new.values c.unit.new.opens c.unit.new.nexts in
    let was = held c.args.places.now c.args.codes.now c.args.values.now c.args.opens.now c.args.nexts.now in
    let st0 = store_of c.args.memory.now.bytes c.args.globals.now c.args.table.now in
    let P : Turn → Type 0 = λ t. Answered m (unit_at m c.args.pages (spot_at m st0 c.args.active was)) st0 st was h t in
    let e = subst P c.in-Grew.is c.unit.ensures.answered in
    ap limited e.is ∙ traps_frames m st c.in-Grew.now h (omega (arith, c.if-len-gt1023.true, c.len-in-Grew.ensures))
