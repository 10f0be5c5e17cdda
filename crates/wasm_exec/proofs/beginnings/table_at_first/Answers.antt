use Rattle.std.proofs.Common.{refl}
use Rattle.wasm_frames.proofs.Calling.{get_at}
use Rattle.wasm_exec.proofs.Segments.{fits, one_laid}
use Rattle.wasm_exec.proofs.beginnings.table_at_first.Goals as goal

pub lay-requires : goal.lay-requires
lay-requires c =
    let k = c.segments.element-index in
    let e = c.element-item.result in
    let there = get_at c.elements-element-items.result.now c.args.program.now.elements k k e c.elements-element-items.ensures refl c.segments-test.true c.element-item.is in
    fits c.args.program.now _ c.segments.table.items c.entries-len.result k e c.requires c.entries-len.ensures there c.segments.invariant

pub segments-preserved : goal.segments-preserved
segments-preserved c =
    let k = c.segments.element-index in
    let e = c.element-item.result in
    let there = get_at c.elements-element-items.result.now c.args.program.now.elements k k e c.elements-element-items.ensures refl c.segments-test.true c.element-item.is in
    one_laid c.args.program.now _ c.segments.table.items c.lay.new.table.items c.entries-len.result k e c.requires c.entries-len.ensures there c.segments.invariant c.lay.ensures
