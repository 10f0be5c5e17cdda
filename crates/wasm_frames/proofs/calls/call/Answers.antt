use Rattle.std.proofs.Common.{◌≡◌, ◌<◌, ℕ, List, length, refl, sym, ap, subst, ◌∙◌, arith}
use Rattle.std.specs.Prelude.{Some, slice_get, slice_index_or}
use Rattle.std.proofs.lemmas.Option.{slice_get-get_or}
use Rattle.wasm_ast.specs.declared.hosts.HostName.TheVariants.{Input}
use Rattle.wasm_frames.specs.declared.active.Active.{Active}
use Rattle.wasm_frames.specs.declared.callees.Callee.{Callee}
use Rattle.wasm_frames.specs.declared.callees.Runs.TheVariants as runs
use Rattle.wasm_semantics.specs.Control.{call as called}
use Rattle.wasm_frames.specs.Standing.{held, spot_at}
use Rattle.wasm_frames.specs.Callees.{RunsWhenCalled}
use Rattle.wasm_frames.specs.Resting.{code_of}
use Rattle.wasm_frames.specs.Turns.{AsksHost}
use Rattle.wasm_frames.proofs.FewerOperands.{sp_room}
use Rattle.wasm_frames.proofs.Calling.{Opened, body_found, some_there, not_there, get_at, call_asks, call_goes}
use Rattle.wasm_frames.proofs.Counts.{past_call}
use Rattle.wasm_frames.proofs.calls.call.Goals as goal

abbrev no_row : Callee
no_row = record { signature = 0; params = 0; runs = runs.Host Input }

row_at : (rows : List Callee) (x : ℕ) → x < length rows → slice_get rows x ≡ Some (slice_index_or rows x no_row)
row_at rows x lt = slice_get-get_or rows x no_row lt

pub overflow_sub-marks : goal.overflow_sub-marks
overflow_sub-marks c = omega (arith, sp_room c.args.active (held c.args.places.now c.args.codes.now c.args.values.now c.args.opens.now c.args.nexts.now) (slice_index_or c.args.callees.now c.args.index no_row).params c.requires.stands (c.requires.takes (slice_index_or c.args.callees.now c.args.index no_row) (row_at c.args.callees.now c.args.index c.requires.there)))

pub overflow_sub-marks-in-Own : goal.overflow_sub-marks-in-Own
overflow_sub-marks-in-Own c = omega (arith, sp_room c.args.active (held c.args.places.now c.args.codes.now c.args.values.now c.args.opens.now c.args.nexts.now) (slice_index_or c.args.callees.now c.args.index no_row).params c.requires.stands (c.requires.takes (slice_index_or c.args.callees.now c.args.index no_row) (row_at c.args.callees.now c.args.index c.requires.there)))

pub open_frame-requires-clause-params : goal.open_frame-requires-clause-params
open_frame-requires-clause-params c = omega (arith, sp_room c.args.active (held c.args.places.now c.args.codes.now c.args.values.now c.args.opens.now c.args.nexts.now) (slice_index_or c.args.callees.now c.args.index no_row).params c.requires.stands (c.requires.takes (slice_index_or c.args.callees.now c.args.index no_row) (row_at c.args.callees.now c.args.index c.requires.there)))

pub returns-then-entry-values : goal.returns-then-entry-values
returns-then-entry-values c st pl =
    let e = subst (RunsWhenCalled c.args.program.now c.args.index (slice_index_or c.args.callees.now c.args.index no_row).params) c.in-Own.is (c.requires.callees.each c.args.index (slice_index_or c.args.callees.now c.args.index no_row) (row_at c.args.callees.now c.args.index c.requires.there)).runs in
    (refl, refl, past_call c.args.program.now st c.args.active (held c.args.places.now c.args.codes.now c.args.values.now c.args.opens.now c.args.nexts.now) c.args.index (slice_index_or c.args.callees.now c.args.index no_row).params c.in-Own.entry e c.requires.stands (c.requires.takes (slice_index_or c.args.callees.now c.args.index no_row) (row_at c.args.callees.now c.args.index c.requires.there)) (omega (arith, c.if-entry-values.true)))

pub unreachable-requires : goal.unreachable-requires
unreachable-requires c =
    let e = subst (RunsWhenCalled c.args.program.now c.args.index (slice_index_or c.args.callees.now c.args.index no_row).params) c.in-Own.is (c.requires.callees.each c.args.index (slice_index_or c.args.callees.now c.args.index no_row) (row_at c.args.callees.now c.args.index c.requires.there)).runs in
    let b = body_found c.args.program.now c.args.index (slice_index_or c.args.callees.now c.args.index no_row).params c.in-Own.entry e in
    not_there (length c.bodies.result.now) c.in-Own.entry.function c.in_default.ensures.lookup.0 (omega (arith, some_there c.args.program.now.bodies c.in-Own.entry.function b.0 b.1, ap length c.bodies.ensures))

pub returns-in-Host : goal.returns-in-Host
returns-in-Host c st pl =
    let host = subst (RunsWhenCalled c.args.program.now c.args.index (slice_index_or c.args.callees.now c.args.index no_row).params) c.in-Host.is (c.requires.callees.each c.args.index (slice_index_or c.args.callees.now c.args.index no_row) (row_at c.args.callees.now c.args.index c.requires.there)).runs in
    let h = (held c.args.places.now c.args.codes.now c.args.values.now c.args.opens.now c.args.nexts.now) in
    let p = spot_at c.args.program.now st c.args.active h in
    let P : Active → Type 0 = λ a. AsksHost c.args.program.now (called c.args.program.now c.args.index p p.level.values) st h c.in-Host.name a in (
      subst P (sym c.with_sp.ensures) (call_asks c.args.program.now st c.args.active h c.args.index (slice_index_or c.args.callees.now c.args.index no_row).params c.in-Host.name host c.requires.stands pl (c.requires.takes (slice_index_or c.args.callees.now c.args.index no_row) (row_at c.args.callees.now c.args.index c.requires.there))),
      record { frames = omega arith; blocks = omega arith },
    )

pub returns-in-Ok-push : goal.returns-in-Ok-push
returns-in-Ok-push c st pl =
    let e = subst (RunsWhenCalled c.args.program.now c.args.index (slice_index_or c.args.callees.now c.args.index no_row).params) c.in-Own.is (c.requires.callees.each c.args.index (slice_index_or c.args.callees.now c.args.index no_row) (row_at c.args.callees.now c.args.index c.requires.there)).runs in
    let h = (held c.args.places.now c.args.codes.now c.args.values.now c.args.opens.now c.args.nexts.now) in
    let got = c.in-Some.ensures.lookup in
    let body = get_at c.bodies.result.now c.args.program.now.bodies c.in-Own.entry.function c.in-Own.entry.function c.in-Some.body.now c.bodies.ensures refl got.3.0 got.1 in
    let opened : Opened c.args.active (slice_index_or c.args.callees.now c.args.index no_row).params c.in-Own.entry.declared c.args.values.now c.open_frame.new.values c.open_frame.result = record {
      base = c.open_frame.ensures.base;
      floor = c.open_frame.ensures.floor;
      sp = c.open_frame.ensures.sp;
      locals = c.open_frame.ensures.locals;
      operands = c.open_frame.ensures.operands;
      callers_locals = c.open_frame.ensures.callers_locals;
      callers_operands = c.open_frame.ensures.callers_operands;
      deep = c.open_frame.ensures.deep;
      size = omega (arith, c.open_frame.auto.values);
      room = omega (arith, c.if-entry-values.false, c.requires.stands.here.within.room);
    } in
    call_goes c.args.program.now st c.args.active h c.args.index (slice_index_or c.args.callees.now c.args.index no_row).params c.in-Own.entry c.push.new.self c.push-in-Own.new.self c.open_frame.new.values c.items.result c.open_frame.result c.raised.result c.len.result
    c.in-Ok.ensures.ok c.raised.ensures c.in-Ok-push.ensures.ok c.len.ensures e c.requires.stands pl (c.requires.takes (slice_index_or c.args.callees.now c.args.index no_row) (row_at c.args.callees.now c.args.index c.requires.there)) (c.items.ensures ∙ (ap (λ s. s.items) c.code.ensures ∙ sym (ap code_of body))) opened
