use Rattle.std.proofs.Common.{[], ◌∷◌, true}
use Rattle.std.specs.Prelude.{Some}
use Rattle.wasm_typing.specs.Operands.{Stand, Splits, Image, PutsOn}
use Rattle.wasm_typing.proofs.Images.{image_leave, on_ok}
use Rattle.wasm_typing.proofs.operands.Operands.leave.Goals as goal

pub returns : goal.returns
returns c =
    let P = Stand c.args.self.now in
    let Q = Stand c.put.new.self in
    let t = c.args.val_type in
    on_ok c.put.result (Splits Q P (Some t) × (Q [] → ⊥)) (Image (PutsOn (t ∷ [])) P Q true) (λ w. image_leave P Q t w.0 (λ q. absurd (w.1 q))) c.put.ensures
