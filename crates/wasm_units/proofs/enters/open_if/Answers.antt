use Rattle.std.proofs.Common.{◌≡◌, false, ◌∷◌, length, sym, ap, subst, ◌∙◌}
use Rattle.std.specs.Prelude.{nat_eq}
use Rattle.wasm_ast.specs.declared.trees.Instr.TheOpen.{Instr-F}
use Rattle.wasm_ast.specs.Typing.{results}
use Rattle.wasm_semantics.specs.Operators.{truth}
use Rattle.wasm_semantics.specs.Control.{enter}
use Rattle.wasm_blocks.specs.Rest.{part_of}
use Rattle.wasm_frames.specs.Standing.{held, spot_at}
use Rattle.wasm_units.proofs.Opening.{entered}
use Rattle.wasm_data.specs.Cuts.{above}
use Rattle.wasm_blocks.specs.Rest.{Placed}
use Rattle.wasm_blocks.specs.Runs.{own_nexts}
use Rattle.wasm_frames.specs.declared.active.Active.{Active}
use Rattle.wasm_frames.specs.Resting.{body_of}
use Rattle.wasm_units.proofs.Takes.{pop_room}
use Rattle.wasm_units.proofs.PoppedFrames.{popped_stands, popped_placed, popped_act}
use Rattle.wasm_units.proofs.enters.open_if.Goals as goal

pub top-value-requires-clause-some : goal.top-value-requires-clause-some
top-value-requires-clause-some c =
    pop_room c.args.active (held c.requires.stands.0 c.requires.stands.1 c.args.values.now c.args.opens.now c.args.nexts.now) c.requires.stands.2 c.requires.some

pub enter_block-requires-clause-stands : goal.enter_block-requires-clause-stands
enter_block-requires-clause-stands c =
    (popped_stands c.args.active c.with_sp-popped.result (held c.requires.stands.0 c.requires.stands.1 c.args.values.now c.args.opens.now c.args.nexts.now) c.with_sp-popped.ensures c.requires.stands.2 c.requires.some).here

pub returns : goal.returns
returns c i ps cs s m pages st b =
    let h = held ps cs c.args.values.now c.args.opens.now c.args.nexts.now in
    let p = spot_at m st c.with_sp-popped.result h in
    let front = subst (λ (x : Active). Placed (body_of m x.function) (i ∷ x.hot.code.now) (own_nexts x.hot.low c.args.opens.now c.args.nexts.now) (above x.hot.low c.args.opens.now)) (sym c.with_sp-popped.ensures) b.front in
    let code : c.with_sp-popped.result.hot.code.now ≡ c.args.active.hot.code.now = ap (λ (x : Active). x.hot.code.now) c.with_sp-popped.ensures in
    entered m pages st i (Instr-F.If c.args.block_type c.args.first.now c.args.second.now) c.args.active c.with_sp-popped.result c.enter_block.result ps cs c.args.values.now c.args.opens.now c.enter_block.new.opens c.args.nexts.now c.enter_block.new.nexts c.part_for-code.result.now (truth c.leaves-keeps.result) c.args.active.hot.code.now false (nat_eq c.top-value.result 0) c.inside.result c.inside.ensures
    (popped_stands c.args.active c.with_sp-popped.result h c.with_sp-popped.ensures s c.requires.some) (popped_placed m c.args.active c.with_sp-popped.result h c.with_sp-popped.ensures b.placed) front
    (popped_act m pages i (Instr-F.If c.args.block_type c.args.first.now c.args.second.now) st c.args.active c.with_sp-popped.result (held ps cs c.args.values.now c.args.opens.now c.args.nexts.now) c.top-value.result c.with_sp-popped.ensures s c.requires.some c.top-value.ensures ∙ (ap (λ s. enter p p.level.values s (length (results c.args.block_type)) p.level.code) (sym c.part_for-code.ensures) ∙ (ap (λ k. enter p p.level.values c.part_for-code.result.now k p.level.code) (sym c.leaves-keeps.ensures) ∙ ap (λ t. enter p p.level.values c.part_for-code.result.now (truth c.leaves-keeps.result) t) code)))
    (sym code) (ap (part_of (nat_eq c.top-value.result 0)) b.is ∙ sym c.part_for-code.ensures) c.enter_block.ensures.goes c.enter_block.ensures.placed
