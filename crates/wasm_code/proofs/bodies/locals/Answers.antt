use Rattle.std.proofs.Common.{◌≡◌, ◌++◌, ◌∙◌, length, rules}
use Rattle.std.specs.Prelude.{replicate, vec_len}
use Rattle.std.proofs.lemmas.Result.{err_from_is_err_and}
use Rattle.wasm_code.specs.Answers.{place}
use Rattle.wasm_code.specs.Reading.{locals}
use Rattle.wasm_code.proofs.LocalGroups.{begins, goes_on, stops_at_count, stops_at_type, too_many, is_done, resized}
use Rattle.wasm_code.proofs.bodies.locals.Goals as goal

pub groups-init : goal.groups-init
groups-init c = rw c.new-found.ensures.items (begins c.args.function c.args.groups (place c.args.input))

pub returns-in_err-count : goal.returns-in_err-count
returns-in_err-count c =
    let p = err_from_is_err_and c.from_residual.result c.from_residual.ensures.1 in
    rw (p.1, p.2) (stops_at_count c.args.function c.groups.found.items c.args.groups c.groups.counter c.groups.room (place c.groups.left) (locals c.args.function c.args.groups 1024 (place c.args.input)) c.in_err-count.field-0.0 c.groups-test.true c.in_err-count.ensures c.groups.invariant)

pub returns-then-count-room : goal.returns-then-count-room
returns-then-count-room c =
    too_many c.args.function c.groups.found.items c.args.groups c.groups.counter c.groups.room (place c.groups.left) c.in_ok-count.count (place c.in_ok-count.after) (locals c.args.function c.args.groups 1024 (place c.args.input)) c.groups-test.true c.in_ok-count.ensures c.if-count-room.true c.groups.invariant

pub returns-in_err-val_type : goal.returns-in_err-val_type
returns-in_err-val_type c =
    let p = err_from_is_err_and c.from_residual-in_err-val_type.result c.from_residual-in_err-val_type.ensures.1 in
    rw (p.1, p.2) (stops_at_type c.args.function c.groups.found.items c.args.groups c.groups.counter c.groups.room (place c.groups.left) c.in_ok-count.count (place c.in_ok-count.after) (locals c.args.function c.args.groups 1024 (place c.args.input)) c.in_err-val_type.field-0.0 c.groups-test.true c.in_ok-count.ensures c.if-count-room.false c.in_err-val_type.ensures c.groups.invariant)

pub groups-preserved : goal.groups-preserved
groups-preserved c =
    let more = goes_on c.args.function c.groups.found.items c.args.groups c.groups.counter c.groups.room (place c.groups.left) c.in_ok-count.count (place c.in_ok-count.after) c.in_ok-val_type.val_type (place c.in_ok-val_type.after) (locals c.args.function c.args.groups 1024 (place c.args.input)) c.groups-test.true c.in_ok-count.ensures c.if-count-room.false c.in_ok-val_type.ensures c.groups.invariant in
    let counted : vec_len c.groups.found ≡ length c.groups.found.items = search rules in
    let grown : c.resize.new.self.items ≡ c.groups.found.items ++ replicate c.in_ok-count.count c.in_ok-val_type.val_type =
    resized c.groups.found.items c.resize.new.self.items c.len.result (vec_len c.groups.found) c.in_ok-count.count c.in_ok-val_type.val_type (c.len.ensures ∙ counted) counted c.in_ok-resize.ensures.items in
    rw grown more

pub returns : goal.returns
returns c = is_done c.args.function c.groups.found.items c.args.groups c.groups.counter c.groups.room (place c.groups.left) (locals c.args.function c.args.groups 1024 (place c.args.input)) c.groups-test.false c.groups.invariant
