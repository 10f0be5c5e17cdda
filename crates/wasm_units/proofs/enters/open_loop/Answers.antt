use Rattle.std.proofs.Common.{false, ◌∷◌, sym, ap, ◌∙◌}
use Rattle.wasm_ast.specs.declared.trees.Instr.TheOpen.{Instr-F}
use Rattle.wasm_semantics.specs.Control.{enter}
use Rattle.wasm_blocks.specs.Rest.{part_of}
use Rattle.wasm_frames.specs.Standing.{held, spot_at}
use Rattle.wasm_units.proofs.Opening.{entered}
use Rattle.std.proofs.Common.{true}
use Rattle.wasm_units.proofs.enters.open_loop.Goals as goal

pub returns : goal.returns
returns c i e ps cs s m pages st b =
    let p = spot_at m st c.args.active (held ps cs c.args.values.now c.args.opens.now c.args.nexts.now) in
    entered m pages st i (Instr-F.Loop c.args.block_type c.args.body.now) c.args.active c.args.active c.enter_block.result ps cs c.args.values.now c.args.opens.now c.enter_block.new.opens c.args.nexts.now c.enter_block.new.nexts c.items-code.result.now 0 c.args.again.now true false c.inside.result c.inside.ensures
    s b.placed b.front
    (ap (λ s. enter p p.level.values s 0 (i ∷ c.args.active.hot.code.now)) (sym c.items-code.ensures) ∙ ap (λ t. enter p p.level.values c.items-code.result.now 0 t) (sym e))
    e (ap (part_of false) b.is ∙ sym c.items-code.ensures) c.enter_block.ensures.goes c.enter_block.ensures.placed
