use Rattle.std.proofs.Common.{◌∷◌, sym, subst}
use Rattle.std.specs.Prelude.{ℕ, Option}
use Rattle.std.proofs.lemmas.Option.{slice_get-get_or}
use Rattle.wasm_semantics.specs.Data.{Wrong, with_some, moves}
use Rattle.wasm_data.specs.Effects.{Does, cells, seen}
use Rattle.wasm_data.proofs.places.global_get.Goals as goal

pub returns : goal.returns
returns c m pages memory =
    let globals = c.args.globals.now in
    let old = cells memory globals c.args.values.now in
    let d = seen old c.args.marks in
    let P : Option ℕ → Type 0 = λ o. Does (with_some Wrong o (λ v. moves d (v ∷ d.values))) old (cells memory globals c.push.new.values) c.args.marks c.push.result in
    subst P (sym (slice_get-get_or globals c.args.index 0 c.requires.there)) (c.push.ensures memory globals)
