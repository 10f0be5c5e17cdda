use Rattle.std.proofs.Common.{◌∷◌, subst}
use Rattle.std.specs.Prelude.{ℕ}
use Rattle.wasm_semantics.specs.Data.{moves}
use Rattle.wasm_data.specs.Effects.{Does, cells, seen}
use Rattle.wasm_data.proofs.memories.size.Goals as goal

pub returns : goal.returns
returns c pages m globals e =
    let bytes = c.args.memory.now.bytes in
    let old = cells bytes globals c.args.values.now in
    let d = seen old c.args.marks in
    let P : ℕ → Type 0 = λ n. Does (moves d (n ∷ d.values)) old (cells bytes globals c.push.new.values) c.args.marks c.push.result in
    subst P c.size.ensures (c.push.ensures bytes globals)
