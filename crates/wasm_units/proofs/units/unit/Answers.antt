use Rattle.std.proofs.Common.{[], refl, sym, ap, subst, ◌∙◌, arith}
use Rattle.std.specs.Prelude.{slice_get}
use Rattle.wasm_ast.specs.declared.trees.Instr.TheOpen.{Instr-F}
use Rattle.wasm_ast.specs.Trees.{layer, layer_unreachable, layer_block, layer_loop, layer_if, layer_br, layer_br_if, layer_br_table, layer_return, layer_call, layer_call_indirect}
use Rattle.wasm_semantics.specs.Operands.{taken_by}
use Rattle.wasm_semantics.specs.Data.{with_top}
use Rattle.wasm_semantics.specs.Threads.{Outcome, Stuck}
use Rattle.wasm_semantics.specs.Control.{indirect}
use Rattle.wasm_semantics.specs.Units.{unit_at}
use Rattle.wasm_frames.specs.declared.turns.Turn.{Turn}
use Rattle.wasm_frames.specs.Standing.{held, store_of, spot_at}
use Rattle.wasm_frames.specs.Turns.{Answered}
use Rattle.wasm_units.proofs.Takes.{passed, passed_stands, takes, ends, pop_room, by_indirect}
use Rattle.wasm_units.proofs.PoppedFrames.{popped_stands, popped_placed, popped_act}
use Rattle.wasm_units.proofs.Needs.{finish_there, can_branch, call_there, call_takes, types_there, kind_there}
use Rattle.wasm_units.proofs.UnitOutcomes.{no_code, ends_can_return}
use Rattle.wasm_units.proofs.DataKinds.{is_data, no_rule}
use Rattle.wasm_units.proofs.Fronts.{front, ruled, can_act, placed_behind, acted_here, acted, has_top}
use Rattle.wasm_units.proofs.Moving.{moves_typed, moves_fit, data_answered}
use Rattle.wasm_units.proofs.units.unit.Goals as goal

pub leave_level-requires-clause-kept : goal.leave_level-requires-clause-kept
leave_level-requires-clause-kept c e =
    ends_can_return c.args.program.now c.args.pages (store_of c.args.memory.now.bytes c.args.globals.now c.args.table.now) c.args.active (held c.args.places.now c.args.codes.now c.args.values.now c.args.opens.now c.args.nexts.now) c.requires.valid c.requires.of (no_code c.args.active.hot.code.now c.in_default.ensures.cases) e

pub returns-in_default-clause-answered : goal.returns-in_default-clause-answered
returns-in_default-clause-answered c =
    let P : Outcome → Type 0 = λ out. Answered c.args.program.now out (store_of c.args.memory.now.bytes c.args.globals.now c.args.table.now) (store_of c.args.memory.now.bytes c.args.globals.now c.args.table.now) (held c.args.places.now c.args.codes.now c.args.values.now c.args.opens.now c.args.nexts.now) (held c.leave_level.new.places c.leave_level.new.codes c.leave_level.new.values c.leave_level.new.opens c.leave_level.new.nexts) c.leave_level.result in
    subst P (sym (ends c.args.program.now c.args.pages (store_of c.args.memory.now.bytes c.args.globals.now c.args.table.now) c.args.active (held c.args.places.now c.args.codes.now c.args.values.now c.args.opens.now c.args.nexts.now) (no_code c.args.active.hot.code.now c.in_default.ensures.cases))) (c.leave_level.ensures c.args.program.now (store_of c.args.memory.now.bytes c.args.globals.now c.args.table.now) c.requires.placed)

pub open_if-requires-clause-some : goal.open_if-requires-clause-some
open_if-requires-clause-some c =
    has_top (front c.in-Some.rest c.requires.valid c.requires.of c.requires.stands c.requires.placed c.in-Some.ensures.cases.0) (Instr-F.If c.in-If.leaves c.in-If.first c.in-If.second) (ap layer c.in-If.is ∙ layer_if c.in-If.leaves c.in-If.first c.in-If.second) [] refl

pub jump-requires-clause-kept : goal.jump-requires-clause-kept
jump-requires-clause-kept c =
    can_branch c.args.program.now (store_of c.args.memory.now.bytes c.args.globals.now c.args.table.now) (passed c.args.active c.in-Some.rest) (held c.args.places.now c.args.codes.now c.args.values.now c.args.opens.now c.args.nexts.now) c.in-Br.label (ruled (front c.in-Some.rest c.requires.valid c.requires.of c.requires.stands c.requires.placed c.in-Some.ensures.cases.0) 0 (Instr-F.Br c.in-Br.label) (ap layer c.in-Br.is ∙ layer_br c.in-Br.label))

pub jump_if-requires-clause-ruled : goal.jump_if-requires-clause-ruled
jump_if-requires-clause-ruled c =
    can_act (front c.in-Some.rest c.requires.valid c.requires.of c.requires.stands c.requires.placed c.in-Some.ensures.cases.0) (Instr-F.BrIf c.in-BrIf.label) (ap layer c.in-BrIf.is ∙ layer_br_if c.in-BrIf.label)

pub jump_by-requires-clause-ruled : goal.jump_by-requires-clause-ruled
jump_by-requires-clause-ruled c =
    can_act (front c.in-Some.rest c.requires.valid c.requires.of c.requires.stands c.requires.placed c.in-Some.ensures.cases.0) (Instr-F.BrTable c.in-BrTable.labels c.in-BrTable.other) (ap layer c.in-BrTable.is ∙ layer_br_table c.in-BrTable.labels c.in-BrTable.other)

pub finish-requires-clause-kept : goal.finish-requires-clause-kept
finish-requires-clause-kept c =
    let p = (spot_at c.args.program.now (store_of c.args.memory.now.bytes c.args.globals.now c.args.table.now) (passed c.args.active c.in-Some.rest) (held c.args.places.now c.args.codes.now c.args.values.now c.args.opens.now c.args.nexts.now)) in
    finish_there p p.level.values (ruled (front c.in-Some.rest c.requires.valid c.requires.of c.requires.stands c.requires.placed c.in-Some.ensures.cases.0) 0 Instr-F.Return (ap layer c.in-Return.is ∙ layer_return))

pub call-requires-clause-there : goal.call-requires-clause-there
call-requires-clause-there c =
    let p = (spot_at c.args.program.now (store_of c.args.memory.now.bytes c.args.globals.now c.args.table.now) (passed c.args.active c.in-Some.rest) (held c.args.places.now c.args.codes.now c.args.values.now c.args.opens.now c.args.nexts.now)) in
    omega (arith, call_there c.args.program.now c.in-Call.index p p.level.values (ruled (front c.in-Some.rest c.requires.valid c.requires.of c.requires.stands c.requires.placed c.in-Some.ensures.cases.0) 0 (Instr-F.Call c.in-Call.index) (ap layer c.in-Call.is ∙ layer_call c.in-Call.index)), c.requires.callees.many)

pub call-requires-clause-takes : goal.call-requires-clause-takes
call-requires-clause-takes c =
    call_takes c.args.program.now c.args.callees.now c.in-Call.index (store_of c.args.memory.now.bytes c.args.globals.now c.args.table.now) (passed c.args.active c.in-Some.rest) (held c.args.places.now c.args.codes.now c.args.values.now c.args.opens.now c.args.nexts.now) c.requires.callees (ruled (front c.in-Some.rest c.requires.valid c.requires.of c.requires.stands c.requires.placed c.in-Some.ensures.cases.0) 0 (Instr-F.Call c.in-Call.index) (ap layer c.in-Call.is ∙ layer_call c.in-Call.index))

pub top-at-requires-clause-some : goal.top-at-requires-clause-some
top-at-requires-clause-some c =
    pop_room (passed c.args.active c.in-Some.rest) (held c.args.places.now c.args.codes.now c.args.values.now c.args.opens.now c.args.nexts.now) (passed_stands c.args.active (held c.args.places.now c.args.codes.now c.args.values.now c.args.opens.now c.args.nexts.now) c.in-Some.rest c.requires.stands) (has_top (front c.in-Some.rest c.requires.valid c.requires.of c.requires.stands c.requires.placed c.in-Some.ensures.cases.0) (Instr-F.CallIndirect c.in-CallIndirect.kind) (ap layer c.in-CallIndirect.is ∙ layer_call_indirect c.in-CallIndirect.kind) (taken_by (slice_get c.args.program.now.types c.in-CallIndirect.kind)) refl)

pub overflow_sub-behind : goal.overflow_sub-behind
overflow_sub-behind c =
    omega (arith, pop_room (passed c.args.active c.in-Some.rest) (held c.args.places.now c.args.codes.now c.args.values.now c.args.opens.now c.args.nexts.now) (passed_stands c.args.active (held c.args.places.now c.args.codes.now c.args.values.now c.args.opens.now c.args.nexts.now) c.in-Some.rest c.requires.stands) (has_top (front c.in-Some.rest c.requires.valid c.requires.of c.requires.stands c.requires.placed c.in-Some.ensures.cases.0) (Instr-F.CallIndirect c.in-CallIndirect.kind) (ap layer c.in-CallIndirect.is ∙ layer_call_indirect c.in-CallIndirect.kind) (taken_by (slice_get c.args.program.now.types c.in-CallIndirect.kind)) refl))

pub call_through-requires-clause-kind : goal.call_through-requires-clause-kind
call_through-requires-clause-kind c =
    (kind_there c.args.program.now.types c.in-CallIndirect.kind (λ ft. with_top Stuck (spot_at c.args.program.now (store_of c.args.memory.now.bytes c.args.globals.now c.args.table.now) (passed c.args.active c.in-Some.rest) (held c.args.places.now c.args.codes.now c.args.values.now c.args.opens.now c.args.nexts.now)).level.values (λ v vs. indirect c.args.program.now ft (spot_at c.args.program.now (store_of c.args.memory.now.bytes c.args.globals.now c.args.table.now) (passed c.args.active c.in-Some.rest) (held c.args.places.now c.args.codes.now c.args.values.now c.args.opens.now c.args.nexts.now)) vs (slice_get c.args.table.now v))) (ruled (front c.in-Some.rest c.requires.valid c.requires.of c.requires.stands c.requires.placed c.in-Some.ensures.cases.0) 0 (Instr-F.CallIndirect c.in-CallIndirect.kind) (ap layer c.in-CallIndirect.is ∙ layer_call_indirect c.in-CallIndirect.kind))).2

pub call_through-requires-clause-stands : goal.call_through-requires-clause-stands
call_through-requires-clause-stands c =
    popped_stands (passed c.args.active c.in-Some.rest) c.with_sp-popped.result (held c.args.places.now c.args.codes.now c.args.values.now c.args.opens.now c.args.nexts.now) c.with_sp-popped.ensures (passed_stands c.args.active (held c.args.places.now c.args.codes.now c.args.values.now c.args.opens.now c.args.nexts.now) c.in-Some.rest c.requires.stands) (has_top (front c.in-Some.rest c.requires.valid c.requires.of c.requires.stands c.requires.placed c.in-Some.ensures.cases.0) (Instr-F.CallIndirect c.in-CallIndirect.kind) (ap layer c.in-CallIndirect.is ∙ layer_call_indirect c.in-CallIndirect.kind) (taken_by (slice_get c.args.program.now.types c.in-CallIndirect.kind)) refl)

pub call_through-requires-clause-types : goal.call_through-requires-clause-types
call_through-requires-clause-types c =
    types_there c.args.program.now c.args.callees.now c.in-CallIndirect.kind c.top-at.result (store_of c.args.memory.now.bytes c.args.globals.now c.args.table.now) c.with_sp-popped.result (held c.args.places.now c.args.codes.now c.args.values.now c.args.opens.now c.args.nexts.now) c.requires.callees c.requires.of.store
    (λ wanted w stuck. ruled (front c.in-Some.rest c.requires.valid c.requires.of c.requires.stands c.requires.placed c.in-Some.ensures.cases.0) 0 (Instr-F.CallIndirect c.in-CallIndirect.kind) (ap layer c.in-CallIndirect.is ∙ layer_call_indirect c.in-CallIndirect.kind) (popped_act c.args.program.now 0 c.in-Some.instr.now (Instr-F.CallIndirect c.in-CallIndirect.kind) (store_of c.args.memory.now.bytes c.args.globals.now c.args.table.now) (passed c.args.active c.in-Some.rest) c.with_sp-popped.result (held c.args.places.now c.args.codes.now c.args.values.now c.args.opens.now c.args.nexts.now) c.top-at.result c.with_sp-popped.ensures (passed_stands c.args.active (held c.args.places.now c.args.codes.now c.args.values.now c.args.opens.now c.args.nexts.now) c.in-Some.rest c.requires.stands) (has_top (front c.in-Some.rest c.requires.valid c.requires.of c.requires.stands c.requires.placed c.in-Some.ensures.cases.0) (Instr-F.CallIndirect c.in-CallIndirect.kind) (ap layer c.in-CallIndirect.is ∙ layer_call_indirect c.in-CallIndirect.kind) (taken_by (slice_get c.args.program.now.types c.in-CallIndirect.kind)) refl) c.top-at.ensures ∙ (by_indirect c.args.program.now 0 c.in-Some.instr.now (spot_at c.args.program.now (store_of c.args.memory.now.bytes c.args.globals.now c.args.table.now) c.with_sp-popped.result (held c.args.places.now c.args.codes.now c.args.values.now c.args.opens.now c.args.nexts.now)) c.top-at.result c.in-CallIndirect.kind wanted w ∙ stuck)))

pub unreachable-requires : goal.unreachable-requires
unreachable-requires c =
    ruled (front c.in-Some.rest c.requires.valid c.requires.of c.requires.stands c.requires.placed c.in-Some.ensures.cases.0) 0 (layer c.in-Some.instr.now) refl (no_rule c.args.program.now 0 c.in-Some.instr.now (spot_at c.args.program.now (store_of c.args.memory.now.bytes c.args.globals.now c.args.table.now) (passed c.args.active c.in-Some.rest) (held c.args.places.now c.args.codes.now c.args.values.now c.args.opens.now c.args.nexts.now)) c.in-FloatMemory.is)

pub moves-requires-clause-typed : goal.moves-requires-clause-typed
moves-requires-clause-typed c =
    moves_typed (front c.in-Some.rest c.requires.valid c.requires.of c.requires.stands c.requires.placed c.in-Some.ensures.cases.0) c.args.pages (is_data c.in-Some.instr.now c.in-Nop.is)

pub moves-requires-clause-fits : goal.moves-requires-clause-fits
moves-requires-clause-fits c =
    moves_fit (front c.in-Some.rest c.requires.valid c.requires.of c.requires.stands c.requires.placed c.in-Some.ensures.cases.0)

pub returns-in-Unreachable-clause-answered : goal.returns-in-Unreachable-clause-answered
returns-in-Unreachable-clause-answered c =
    takes c.args.program.now c.args.pages (store_of c.args.memory.now.bytes c.args.globals.now c.args.table.now) c.args.active (held c.args.places.now c.args.codes.now c.args.values.now c.args.opens.now c.args.nexts.now) c.in-Some.instr.now c.in-Some.rest Instr-F.Unreachable c.in-Some.ensures.cases.0 (ap layer c.in-Unreachable.is ∙ layer_unreachable)

pub returns-in-Block-clause-answered : goal.returns-in-Block-clause-answered
returns-in-Block-clause-answered c =
    acted (front c.in-Some.rest c.requires.valid c.requires.of c.requires.stands c.requires.placed c.in-Some.ensures.cases.0) c.args.pages (Instr-F.Block c.in-Block.leaves c.in-Block.body) (ap layer c.in-Block.is ∙ layer_block c.in-Block.leaves c.in-Block.body) (held c.args.places.now c.args.codes.now c.args.values.now c.open_block.new.opens c.open_block.new.nexts) c.open_block.result
    (c.open_block.ensures c.in-Some.instr.now c.args.places.now c.args.codes.now (passed_stands c.args.active (held c.args.places.now c.args.codes.now c.args.values.now c.args.opens.now c.args.nexts.now) c.in-Some.rest c.requires.stands))

pub returns-in-Loop-clause-answered : goal.returns-in-Loop-clause-answered
returns-in-Loop-clause-answered c =
    acted (front c.in-Some.rest c.requires.valid c.requires.of c.requires.stands c.requires.placed c.in-Some.ensures.cases.0) c.args.pages (Instr-F.Loop c.in-Loop.leaves c.in-Loop.body) (ap layer c.in-Loop.is ∙ layer_loop c.in-Loop.leaves c.in-Loop.body) (held c.args.places.now c.args.codes.now c.args.values.now c.open_loop.new.opens c.open_loop.new.nexts) c.open_loop.result
    (c.open_loop.ensures c.in-Some.instr.now c.in-Some.ensures.cases.0 c.args.places.now c.args.codes.now (passed_stands c.args.active (held c.args.places.now c.args.codes.now c.args.values.now c.args.opens.now c.args.nexts.now) c.in-Some.rest c.requires.stands))

pub returns-in-If-clause-answered : goal.returns-in-If-clause-answered
returns-in-If-clause-answered c =
    acted (front c.in-Some.rest c.requires.valid c.requires.of c.requires.stands c.requires.placed c.in-Some.ensures.cases.0) c.args.pages (Instr-F.If c.in-If.leaves c.in-If.first c.in-If.second) (ap layer c.in-If.is ∙ layer_if c.in-If.leaves c.in-If.first c.in-If.second) (held c.args.places.now c.args.codes.now c.args.values.now c.open_if.new.opens c.open_if.new.nexts) c.open_if.result
    (c.open_if.ensures c.in-Some.instr.now c.args.places.now c.args.codes.now (passed_stands c.args.active (held c.args.places.now c.args.codes.now c.args.values.now c.args.opens.now c.args.nexts.now) c.in-Some.rest c.requires.stands))

pub returns-in-Br-clause-answered : goal.returns-in-Br-clause-answered
returns-in-Br-clause-answered c =
    let f = front c.in-Some.rest c.requires.valid c.requires.of c.requires.stands c.requires.placed c.in-Some.ensures.cases.0 in
    acted_here f c.args.pages (Instr-F.Br c.in-Br.label) (ap layer c.in-Br.is ∙ layer_br c.in-Br.label) (held c.jump.new.places c.jump.new.codes c.jump.new.values c.jump.new.opens c.jump.new.nexts) c.jump.result (c.jump.ensures c.args.program.now (store_of c.args.memory.now.bytes c.args.globals.now c.args.table.now) (placed_behind f))

pub returns-in-BrIf-clause-answered : goal.returns-in-BrIf-clause-answered
returns-in-BrIf-clause-answered c =
    acted (front c.in-Some.rest c.requires.valid c.requires.of c.requires.stands c.requires.placed c.in-Some.ensures.cases.0) c.args.pages (Instr-F.BrIf c.in-BrIf.label) (ap layer c.in-BrIf.is ∙ layer_br_if c.in-BrIf.label) (held c.jump_if.new.places c.jump_if.new.codes c.jump_if.new.values c.jump_if.new.opens c.jump_if.new.nexts) c.jump_if.result (c.jump_if.ensures c.in-Some.instr.now)

pub returns-in-BrTable-clause-answered : goal.returns-in-BrTable-clause-answered
returns-in-BrTable-clause-answered c =
    acted (front c.in-Some.rest c.requires.valid c.requires.of c.requires.stands c.requires.placed c.in-Some.ensures.cases.0) c.args.pages (Instr-F.BrTable c.in-BrTable.labels c.in-BrTable.other) (ap layer c.in-BrTable.is ∙ layer_br_table c.in-BrTable.labels c.in-BrTable.other) (held c.jump_by.new.places c.jump_by.new.codes c.jump_by.new.values c.jump_by.new.opens c.jump_by.new.nexts) c.jump_by.result (c.jump_by.ensures c.in-Some.instr.now)

pub returns-in-Return-clause-answered : goal.returns-in-Return-clause-answered
returns-in-Return-clause-answered c =
    let f = front c.in-Some.rest c.requires.valid c.requires.of c.requires.stands c.requires.placed c.in-Some.ensures.cases.0 in
    acted_here f c.args.pages Instr-F.Return (ap layer c.in-Return.is ∙ layer_return) (held c.finish.new.places c.finish.new.codes c.finish.new.values c.finish.new.opens c.finish.new.nexts) c.finish.result (c.finish.ensures c.args.program.now (store_of c.args.memory.now.bytes c.args.globals.now c.args.table.now) (placed_behind f))

pub returns-in-Call-clause-answered : goal.returns-in-Call-clause-answered
returns-in-Call-clause-answered c =
    let f = front c.in-Some.rest c.requires.valid c.requires.of c.requires.stands c.requires.placed c.in-Some.ensures.cases.0 in
    acted_here f c.args.pages (Instr-F.Call c.in-Call.index) (ap layer c.in-Call.is ∙ layer_call c.in-Call.index) (held c.call.new.places c.call.new.codes c.call.new.values c.args.opens.now c.args.nexts.now) c.call.result (c.call.ensures (store_of c.args.memory.now.bytes c.args.globals.now c.args.table.now) (placed_behind f))

pub returns-in-CallIndirect-clause-answered : goal.returns-in-CallIndirect-clause-answered
returns-in-CallIndirect-clause-answered c =
    let f = front c.in-Some.rest c.requires.valid c.requires.of c.requires.stands c.requires.placed c.in-Some.ensures.cases.0 in
    let k = kind_there c.args.program.now.types c.in-CallIndirect.kind (λ ft. with_top Stuck (spot_at c.args.program.now (store_of c.args.memory.now.bytes c.args.globals.now c.args.table.now) (passed c.args.active c.in-Some.rest) (held c.args.places.now c.args.codes.now c.args.values.now c.args.opens.now c.args.nexts.now)).level.values (λ v vs. indirect c.args.program.now ft (spot_at c.args.program.now (store_of c.args.memory.now.bytes c.args.globals.now c.args.table.now) (passed c.args.active c.in-Some.rest) (held c.args.places.now c.args.codes.now c.args.values.now c.args.opens.now c.args.nexts.now)) vs (slice_get c.args.table.now v))) (ruled (front c.in-Some.rest c.requires.valid c.requires.of c.requires.stands c.requires.placed c.in-Some.ensures.cases.0) 0 (Instr-F.CallIndirect c.in-CallIndirect.kind) (ap layer c.in-CallIndirect.is ∙ layer_call_indirect c.in-CallIndirect.kind)) in
    let after = (held c.call_through.new.places c.call_through.new.codes c.call_through.new.values c.args.opens.now c.args.nexts.now) in
    let P : Outcome → Type 0 = λ out. Answered c.args.program.now out (store_of c.args.memory.now.bytes c.args.globals.now c.args.table.now) (store_of c.args.memory.now.bytes c.args.globals.now c.args.table.now) (held c.args.places.now c.args.codes.now c.args.values.now c.args.opens.now c.args.nexts.now) after c.call_through.result in
    acted_here f c.args.pages (Instr-F.CallIndirect c.in-CallIndirect.kind) (ap layer c.in-CallIndirect.is ∙ layer_call_indirect c.in-CallIndirect.kind) after c.call_through.result (subst P (sym (popped_act c.args.program.now c.args.pages c.in-Some.instr.now (Instr-F.CallIndirect c.in-CallIndirect.kind) (store_of c.args.memory.now.bytes c.args.globals.now c.args.table.now) (passed c.args.active c.in-Some.rest) c.with_sp-popped.result (held c.args.places.now c.args.codes.now c.args.values.now c.args.opens.now c.args.nexts.now) c.top-at.result c.with_sp-popped.ensures (passed_stands c.args.active (held c.args.places.now c.args.codes.now c.args.values.now c.args.opens.now c.args.nexts.now) c.in-Some.rest c.requires.stands) (has_top (front c.in-Some.rest c.requires.valid c.requires.of c.requires.stands c.requires.placed c.in-Some.ensures.cases.0) (Instr-F.CallIndirect c.in-CallIndirect.kind) (ap layer c.in-CallIndirect.is ∙ layer_call_indirect c.in-CallIndirect.kind) (taken_by (slice_get c.args.program.now.types c.in-CallIndirect.kind)) refl) c.top-at.ensures ∙ by_indirect c.args.program.now c.args.pages c.in-Some.instr.now (spot_at c.args.program.now (store_of c.args.memory.now.bytes c.args.globals.now c.args.table.now) c.with_sp-popped.result (held c.args.places.now c.args.codes.now c.args.values.now c.args.opens.now c.args.nexts.now)) c.top-at.result c.in-CallIndirect.kind k.0 k.1))
    (c.call_through.ensures (store_of c.args.memory.now.bytes c.args.globals.now c.args.table.now) (popped_placed c.args.program.now (passed c.args.active c.in-Some.rest) c.with_sp-popped.result (held c.args.places.now c.args.codes.now c.args.values.now c.args.opens.now c.args.nexts.now) c.with_sp-popped.ensures (placed_behind f)) k.0 k.1))

pub returns-in-Nop-clause-answered : goal.returns-in-Nop-clause-answered
returns-in-Nop-clause-answered c =
    let d = c.moves.ensures.does in
    let st' = store_of c.moves.new.memory.bytes c.moves.new.globals c.args.table.now in
    let P : Turn → Type 0 = λ t. Answered c.args.program.now (unit_at c.args.program.now c.args.pages (spot_at c.args.program.now (store_of c.args.memory.now.bytes c.args.globals.now c.args.table.now) c.args.active (held c.args.places.now c.args.codes.now c.args.values.now c.args.opens.now c.args.nexts.now))) (store_of c.args.memory.now.bytes c.args.globals.now c.args.table.now) st' (held c.args.places.now c.args.codes.now c.args.values.now c.args.opens.now c.args.nexts.now) (held c.args.places.now c.args.codes.now c.moves.new.values c.args.opens.now c.args.nexts.now) t in
    subst P (sym d.1) (data_answered (front c.in-Some.rest c.requires.valid c.requires.of c.requires.stands c.requires.placed c.in-Some.ensures.cases.0) c.args.pages (is_data c.in-Some.instr.now c.in-Nop.is) c.moves.new.memory.bytes c.moves.new.globals c.moves.new.values d.0 (omega (arith, c.moves.auto.values)) d.2)
