use Rattle.std.proofs.Common.{length, get_or, refl, sym, ap, ◌∙◌, arith}
use Rattle.std.specs.Prelude.{not, nat_eq, slice_get}
use Rattle.std.proofs.lemmas.Option.{slice_get-get_or}
use Rattle.wasm_frames.proofs.Calling.{get_at}
use Rattle.wasm_exec.proofs.Rows.{kind_there, own_row}
use Rattle.wasm_exec.proofs.callees.own.Goals as goal

pub bounds-types-kind : goal.bounds-types-kind
bounds-types-kind c =
    let m = c.args.program.now in
    let k = c.args.number in
    let fs = c.functions.result.now in
    let there = ap (λ xs. slice_get xs k) (sym c.functions.ensures) ∙ slice_get-get_or fs k 0 (omega (arith, ap length c.functions.ensures)) in
    omega (arith, kind_there m k (get_or fs k 0) c.requires.valid there, ap length c.types.ensures)

pub returns : goal.returns
returns c =
    let m = c.args.program.now in
    let k = c.args.number in
    let fs = c.functions.result.now in
    let x = get_or fs k 0 in
    let there = ap (λ xs. slice_get xs k) (sym c.functions.ensures) ∙ slice_get-get_or fs k 0 (omega (arith, ap length c.functions.ensures)) in
    let ft = c.index-types-kind.result in
    let body = c.index-bodies-number.result in
    let typed = get_at c.types.result.now m.types x x ft c.types.ensures refl (omega (arith, kind_there m k x c.requires.valid there, ap length c.types.ensures)) c.index-types-kind.is in
    let has = get_at c.bodies.result.now m.bodies k k body c.bodies.ensures refl (omega (arith, c.requires.valid.counts, ap length c.bodies.ensures)) c.index-bodies-number.is in
    own_row m k x (length c.params.result.now) (length c.locals.result.now) (not c.is_empty.result) ft body c.requires.valid there typed has
    (ap length c.params.ensures) (ap length c.locals.ensures) (ap not (c.is_empty.ensures ∙ ap (λ ts. nat_eq (length ts) 0) c.results.ensures))
