use Rattle.std.proofs.Common.{length, refl, sym, ap, ◌∙◌, arith}
use Rattle.wasm_ast.specs.Hosts.{host_named}
use Rattle.wasm_frames.proofs.Calling.{get_at}
use Rattle.wasm_validate.proofs.Imported.{never_other}
use Rattle.wasm_exec.proofs.Rows.{always_function, lent_row}
use Rattle.wasm_exec.proofs.callees.lent.Goals as goal

pub unreachable-requires : goal.unreachable-requires
unreachable-requires c =
    let i = c.index-imports-number.result in
    let there = get_at c.imports.result.now c.args.program.now.imports c.args.number c.args.number i c.imports.ensures refl (omega (arith, ap length c.imports.ensures)) c.index-imports-number.is in
    never_other c.args.program.now c.args.number i c.as_slice.result.now c.requires.valid (record { there = there }) (c.as_slice.ensures ∙ c.name.ensures) c.in_default.ensures

pub unreachable-requires-in_default-kind : goal.unreachable-requires-in_default-kind
unreachable-requires-in_default-kind c =
    let i = c.index-imports-number.result in
    let there = get_at c.imports.result.now c.args.program.now.imports c.args.number c.args.number i c.imports.ensures refl (omega (arith, ap length c.imports.ensures)) c.index-imports-number.is in
    always_function c.args.program.now c.args.number i c.kind.result.now c.requires.valid there c.kind.ensures c.in_default-kind.not-Function

pub returns : goal.returns
returns c =
    let i = c.index-imports-number.result in
    let there = get_at c.imports.result.now c.args.program.now.imports c.args.number c.args.number i c.imports.ensures refl (omega (arith, ap length c.imports.ensures)) c.index-imports-number.is in
    lent_row c.args.program.now c.args.number c.count_of.result c.in-Function.kind i c.in-Some.name c.requires.valid there
    (ap host_named (sym (c.as_slice.ensures ∙ c.name.ensures)) ∙ sym c.in-Some.ensures) (sym c.kind.ensures ∙ c.in-Function.is) c.count_of.ensures
