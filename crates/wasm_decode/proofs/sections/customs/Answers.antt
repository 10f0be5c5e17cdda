use Rattle.std.proofs.Common.{◌∙◌, sym, subst, arith}
use Rattle.std.proofs.lemmas.Result.{err_from_is_err_and}
use Rattle.wasm_code.specs.Answers.{place, IsFirstFault}
use Rattle.wasm_code.proofs.FieldsBothWays.{range_sound}
use Rattle.wasm_decode.proofs.ModulesBothWays.{after_shorter}
use Rattle.wasm_decode.proofs.CustomSections.{passes, bad_range, bad_name, stops}
use Rattle.wasm_decode.proofs.sections.customs.Goals as goal

pub returns-in_err-range : goal.returns-in_err-range
returns-in_err-range c =
    let p = err_from_is_err_and c.from_residual.result c.from_residual.ensures.1 in
    rw (p.1, p.2) (subst (IsFirstFault c.in_err-range.field-0.0) c.customs.invariant (bad_range (place c.customs.left) (place c.in-Some.section) c.in_err-range.field-0.0 c.in-Some.ensures c.in_err-range.ensures.exact))

pub returns-in_err-name : goal.returns-in_err-name
returns-in_err-name c =
    let p = err_from_is_err_and c.from_residual-in_err-name.result c.from_residual-in_err-name.ensures.1 in
    rw (p.1, p.2) (subst (IsFirstFault c.in_err-name.field-0.0) c.customs.invariant (bad_name (place c.customs.left) (place c.in-Some.section) (place c.in_ok-range.range, place c.in_ok-range.after) c.in_err-name.field-0.0 c.in-Some.ensures c.in_ok-range.ensures.exact c.in_err-name.ensures))

pub customs-smaller : goal.customs-smaller
customs-smaller c =
    let a = after_shorter 0 (place c.customs.left) (place c.in-Some.section) (sym c.in-Some.ensures) in
    let b = (range_sound (place c.in-Some.section) (place c.in_ok-range.range, place c.in_ok-range.after) c.in_ok-range.ensures.exact).1 in
    omega (arith, a, b)

pub customs-preserved : goal.customs-preserved
customs-preserved c =
    sym (passes (place c.customs.left) (place c.in-Some.section) (place c.in_ok-range.range, place c.in_ok-range.after) (c.in_ok-name.field-0.0.now, place c.in_ok-name.field-0.1) c.in-Some.ensures c.in_ok-range.ensures.exact c.in_ok-name.ensures) ∙ c.customs.invariant

pub returns : goal.returns
returns c = sym c.customs.invariant ∙ stops (place c.customs.left) c.in_default.ensures
