use Rattle.std.proofs.Common.{arith}
use Rattle.wasm_exec.proofs.Entries.{handle_enters, start_enters, one_first, two_first}
use Rattle.wasm_exec.proofs.starting.first_frames.Goals as goal

pub entry_at-entry-requires-clause-entry : goal.entry_at-entry-requires-clause-entry
entry_at-entry-requires-clause-entry c = handle_enters c.args.program.now c.args.handle c.requires.handle

pub entry_at-start-requires-clause-entry : goal.entry_at-start-requires-clause-entry
entry_at-start-requires-clause-entry c = start_enters c.args.program.now c.in-Some.index c.requires.valid c.in-Some.ensures

pub returns-in_default : goal.returns-in_default
returns-in_default c =
    let i = c.entry_at-entry.ensures in
    one_first c.args.program.now c.args.handle i.0 c.entry_at-entry.result c.first_place-first.result c.requires.handle c.in_default.ensures i.1 c.if-entry-gt65536.false c.first_place-first.ensures

pub returns : goal.returns
returns c =
    let i = c.entry_at-entry.ensures in
    let j = c.entry_at-start.ensures in
    two_first c.args.program.now c.args.handle c.in-Some.index i.0 j.0 c.entry_at-entry.result c.entry_at-start.result c.first_place.result c.first_place-first.result c.requires.handle c.in-Some.ensures i.1 j.1
    (omega (arith, c.if-start-entry.false, c.if-entry-gt65536.false)) c.first_place-first.ensures c.first_place.ensures
