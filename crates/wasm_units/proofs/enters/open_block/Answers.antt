use Rattle.std.proofs.Common.{false, length, refl, sym, ap, ◌∙◌}
use Rattle.wasm_ast.specs.declared.trees.Instr.TheOpen.{Instr-F}
use Rattle.wasm_ast.specs.Typing.{results}
use Rattle.wasm_semantics.specs.Operators.{truth}
use Rattle.wasm_semantics.specs.Control.{enter}
use Rattle.wasm_blocks.specs.Rest.{part_of}
use Rattle.wasm_frames.specs.Standing.{held, spot_at}
use Rattle.wasm_units.proofs.Opening.{entered}
use Rattle.wasm_units.proofs.enters.open_block.Goals as goal

pub returns : goal.returns
returns c i ps cs s m pages st b =
    let p = spot_at m st c.args.active (held ps cs c.args.values.now c.args.opens.now c.args.nexts.now) in
    entered m pages st i (Instr-F.Block c.args.block_type c.args.body.now) c.args.active c.args.active c.enter_block.result ps cs c.args.values.now c.args.opens.now c.enter_block.new.opens c.args.nexts.now c.enter_block.new.nexts c.items-code.result.now (truth c.leaves-keeps.result) c.args.active.hot.code.now false false c.inside.result c.inside.ensures
    s b.placed b.front
    (ap (λ s. enter p p.level.values s (length (results c.args.block_type)) c.args.active.hot.code.now) (sym c.items-code.ensures) ∙ ap (λ k. enter p p.level.values c.items-code.result.now k c.args.active.hot.code.now) (sym c.leaves-keeps.ensures))
    refl (ap (part_of false) b.is ∙ sym c.items-code.ensures) c.enter_block.ensures.goes c.enter_block.ensures.placed
