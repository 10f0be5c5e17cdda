use Rattle.std.proofs.Common.{◌∙◌, ap, Err, Ok}
use Rattle.event_file.specs.Reader.{Reader}
use Rattle.trapeze_host.specs.Standing.{modules_lent}
use Rattle.trapeze_cli.specs.Played.{entry_events}
use Rattle.trapeze_cli.specs.Runs.{setting_of}
use Rattle.trapeze_cli.proofs.Playing.{err_is, state_after}
use Rattle.trapeze_cli.proofs.PacedReading.{few_turns}
use Rattle.trapeze_cli.proofs.PassedLines.{last_entry}
use Rattle.trapeze_io.proofs.Appended.{prefix_none}
use Rattle.trapeze_cli.proofs.LastLine.{last_halts, last_told, none_told, bad_told, told_halt}
use Rattle.trapeze_cli.proofs.stream.play_end.Goals as goal

pub play_entry-requires-clause-few : goal.play_entry-requires-clause-few
play_entry-requires-clause-few g c = few_turns _ _ _ c.requires.paced

pub play_entry-requires-clause-entry : goal.play_entry-requires-clause-entry
play_entry-requires-clause-entry g c =
    let finishes = c.in-Entry.ensures.answer c.requires.dry.good in
    rw (ap (λ (r : Reader). r.known) finishes.1 ∙ c.requires.paced.known) at c.in-Entry.ensures.within

pub returns-in_err-play_entry-in-Entry-clause-lines : goal.returns-in_err-play_entry-in-Entry-clause-lines
returns-in_err-play_entry-in-Entry-clause-lines g c = λ s is.
    let good = c.requires.dry.good in
    let read = last_entry c.args.reader.now _ c.in-Entry.entry (c.in-Entry.ensures.answer good) (c.in-Entry.ensures.entries good) in
    let setting = setting_of c.args.scene.now.policy.now (modules_lent c.args.host.now) c.args.scene.now.shown in
    rw (err_is _ _ c.from_residual.ensures.1)
    (last_halts setting s _ c.in-Entry.entry _ (g.S.Sink.written c.args.out.now) (g.S.Sink.written c.play_entry.new.out) read (c.in_err-play_entry-in-Entry.ensures.plays.lines s is))

pub returns-in_err-write_facets-in-Entry-clause-lines : goal.returns-in_err-write_facets-in-Entry-clause-lines
returns-in_err-write_facets-in-Entry-clause-lines g c = λ s is.
    let good = c.requires.dry.good in
    let read = last_entry c.args.reader.now _ c.in-Entry.entry (c.in-Entry.ensures.answer good) (c.in-Entry.ensures.entries good) in
    let one = c.in_ok-play_entry-in-Entry.ensures in
    let setting = setting_of c.args.scene.now.policy.now (modules_lent c.args.host.now) c.args.scene.now.shown in
    rw (err_is _ _ c.from_residual-in_err-write_facets-in-Entry.ensures.1)
    (told_halt _ _ _ _
    (last_told {A = Unit {0}} setting s _ c.in-Entry.entry (Err c.in_err-write_facets-in-Entry.field-0.0) (g.S.Sink.written c.args.out.now) (g.S.Sink.written c.play_entry.new.out) (g.S.Sink.written c.write_facets.new.out) read
    (one.plays.lines s is) (c.in_err-write_facets-in-Entry.ensures.lines (state_after setting s (entry_events c.in-Entry.entry)) (one.plays.state s is))))

pub returns-in_ok-write_facets-in-Entry-clause-lines : goal.returns-in_ok-write_facets-in-Entry-clause-lines
returns-in_ok-write_facets-in-Entry-clause-lines g c = λ s is.
    let good = c.requires.dry.good in
    let read = last_entry c.args.reader.now _ c.in-Entry.entry (c.in-Entry.ensures.answer good) (c.in-Entry.ensures.entries good) in
    let one = c.in_ok-play_entry-in-Entry.ensures in
    let setting = setting_of c.args.scene.now.policy.now (modules_lent c.args.host.now) c.args.scene.now.shown in
    last_told {A = Unit {0}} setting s _ c.in-Entry.entry (Ok tt) (g.S.Sink.written c.args.out.now) (g.S.Sink.written c.play_entry.new.out) (g.S.Sink.written c.write_facets.new.out) read
    (one.plays.lines s is) (c.in_ok-write_facets-in-Entry.ensures.lines (state_after setting s (entry_events c.in-Entry.entry)) (one.plays.state s is))

pub returns-in-Bad-clause-lines : goal.returns-in-Bad-clause-lines
returns-in-Bad-clause-lines g c = λ s is.
    bad_told (setting_of c.args.scene.now.policy.now (modules_lent c.args.host.now) c.args.scene.now.shown) s _ c.in-Bad.bad _ (c.in-Bad.ensures.entries c.requires.dry.good)

pub returns-in_err-write_facets-in-NoLine-clause-lines : goal.returns-in_err-write_facets-in-NoLine-clause-lines
returns-in_err-write_facets-in-NoLine-clause-lines g c = λ s is.
    let setting = setting_of c.args.scene.now.policy.now (modules_lent c.args.host.now) c.args.scene.now.shown in
    rw (err_is _ _ c.from_residual-in_err-write_facets-in-NoLine.ensures.1)
    (told_halt _ _ _ _
    (none_told {A = Unit {0}} setting s _ (Err c.in_err-write_facets-in-NoLine.field-0.0) (g.S.Sink.written c.args.out.now) (g.S.Sink.written c.write_facets-in-NoLine.new.out) (c.in-NoLine.ensures.entries c.requires.dry.good)
    (c.in_err-write_facets-in-NoLine.ensures.lines s is)))

pub returns-in_ok-write_facets-in-NoLine-clause-lines : goal.returns-in_ok-write_facets-in-NoLine-clause-lines
returns-in_ok-write_facets-in-NoLine-clause-lines g c = λ s is.
    let setting = setting_of c.args.scene.now.policy.now (modules_lent c.args.host.now) c.args.scene.now.shown in
    none_told {A = Unit {0}} setting s _ (Ok tt) (g.S.Sink.written c.args.out.now) (g.S.Sink.written c.write_facets-in-NoLine.new.out) (c.in-NoLine.ensures.entries c.requires.dry.good)
    (c.in_ok-write_facets-in-NoLine.ensures.lines s is)

pub returns-in-NoMemory-clause-lines : goal.returns-in-NoMemory-clause-lines
returns-in-NoMemory-clause-lines g c = λ s is. prefix_none _ _
