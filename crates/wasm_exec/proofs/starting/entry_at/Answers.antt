use Rattle.std.proofs.Common.{subst, arith}
use Rattle.std.specs.Prelude.{slice_index_or}
use Rattle.std.proofs.lemmas.Option.{slice_get-get_or}
use Rattle.wasm_ast.specs.declared.hosts.HostName.TheVariants.{Input}
use Rattle.wasm_frames.specs.declared.callees.Callee.{Callee}
use Rattle.wasm_frames.specs.declared.callees.Runs.TheVariants as runs
use Rattle.wasm_frames.specs.Callees.{RunsWhenCalled}
use Rattle.wasm_exec.proofs.Entries.{entry_within, never_host}
use Rattle.wasm_exec.proofs.starting.entry_at.Goals as goal

abbrev no_row : Callee
no_row = record { signature = 0; params = 0; runs = runs.Host Input }

pub bounds : goal.bounds
bounds c = omega (arith, entry_within c.args.program.now c.args.index c.requires.valid c.requires.entry, c.requires.callees.many)

pub unreachable-requires : goal.unreachable-requires
unreachable-requires c =
    let m = c.args.program.now in
    let x = c.args.index in
    let rows = c.args.callees.now in
    let row = slice_index_or rows x no_row in
    let there = slice_get-get_or rows x no_row (omega (arith, entry_within m x c.requires.valid c.requires.entry, c.requires.callees.many)) in
    never_host m x row.params c.in-Host.field-0 c.requires.valid c.requires.entry (subst (RunsWhenCalled m x row.params) c.in-Host.is (c.requires.callees.each x row there).runs)

pub returns : goal.returns
returns c =
    let m = c.args.program.now in
    let x = c.args.index in
    let rows = c.args.callees.now in
    let row = slice_index_or rows x no_row in
    let there = slice_get-get_or rows x no_row (omega (arith, entry_within m x c.requires.valid c.requires.entry, c.requires.callees.many)) in
    (row.params, subst (RunsWhenCalled m x row.params) c.in-Own.is (c.requires.callees.each x row there).runs)
