use Rattle.std.proofs.Common.{◌≡◌, arith, subst}
use Rattle.wasm_data.specs.declared.marks.Marks.{Marks}
use Rattle.wasm_data.specs.Marked.{locals_in, operands_in}
use Rattle.std.specs.Prelude.{slice_set, take}
use Rattle.wasm_data.proofs.Moves.{local_set_does}
use Rattle.wasm_data.proofs.places.local_set.Goals as goal

pub returns : goal.returns
returns c m pages memory globals =
    let old = c.args.values.now in
    let new = c.set_local.new.values in
    let L : Marks → Type 0 = λ k. locals_in k.base k.floor new ≡ slice_set (locals_in k.base k.floor old) c.args.index c.top-value.result in
    let O : Marks → Type 0 = λ k. operands_in k.floor k.sp new ≡ operands_in k.floor k.sp old in
    let D : Marks → Type 0 = λ k. take k.base new ≡ take k.base old in
    record {
      is = local_set_does memory globals c.args.marks c.args.index c.top-value.result old new c.requires.within c.requires.there c.top-value.ensures
          (subst L c.raised.ensures c.set_local.ensures.locals) (subst O c.raised.ensures c.set_local.ensures.operands);
      within = record { locals = c.requires.within.locals; operands = omega (arith, c.requires.some); room = omega (arith, c.requires.within.room, c.set_local.auto.values) };
      deep = subst D c.raised.ensures c.set_local.ensures.deep;
    }
