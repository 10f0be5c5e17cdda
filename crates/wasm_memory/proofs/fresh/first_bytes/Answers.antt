use Rattle.std.proofs.Common.{ap, ◌*◌}
use Rattle.wasm_memory.proofs.Pieces.{item_at, fits, one_laid, all_laid}
use Rattle.wasm_memory.proofs.fresh.first_bytes.Goals as goal

pub lay-requires : goal.lay-requires
lay-requires c =
    let at = item_at c.pieces-piece-items.result.now c.args.module.now.pieces c.loop-piece.piece-index c.piece-item.result c.pieces-piece-items.ensures c.loop-piece-test.true c.piece-item.is in
    fits c.args.module.now _ c.loop-piece.bytes.items _ c.loop-piece.piece-index c.piece-item.result c.requires (ap (λ n. n * 65536) c.least_pages.ensures) at c.loop-piece.invariant

pub loop-piece-preserved : goal.loop-piece-preserved
loop-piece-preserved c =
    let at = item_at c.pieces-piece-items.result.now c.args.module.now.pieces c.loop-piece.piece-index c.piece-item.result c.pieces-piece-items.ensures c.loop-piece-test.true c.piece-item.is in
    one_laid c.args.module.now _ c.loop-piece.bytes.items _ _ c.loop-piece.piece-index c.piece-item.result c.requires (ap (λ n. n * 65536) c.least_pages.ensures) at c.loop-piece.invariant c.lay.ensures

pub returns-clause-bytes : goal.returns-clause-bytes
returns-clause-bytes c =
    all_laid c.args.module.now c.pieces-piece-items.result.now _ c.loop-piece.bytes.items _ c.loop-piece.piece-index c.least_pages.result c.pieces-piece-items.ensures c.loop-piece-test.false c.least_pages.ensures
    (c.in-Ok.ensures.items_if_clones_equal (λ y e. e)) c.loop-piece.invariant
