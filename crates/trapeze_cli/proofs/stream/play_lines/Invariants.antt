use Rattle.std.proofs.Common.{◌≡◌, ◌≤◌, None, Ok, length, List}
use Rattle.event_file.specs.declared.entry.Entry.{Entry}
use Rattle.trapeze_host.specs.Standing.{policy_lent, modules_lent, is_spent, played_in, Stands}
use Rattle.trapeze_cli.specs.Played.{events_of}
use Rattle.trapeze_cli.specs.Runs.{setting_of}
use Rattle.trapeze_cli.specs.Playing.{CanPlay, IsPaced, PlaysOn, HasPassed}
use Rattle.trapeze_cli.proofs.stream.play_lines.Given as goal

-- the entries so far are passed and played
abbrev pub invariant-lines : goal.invariant-lines
invariant-lines g l = record {
  good : l.reader.bad ≡ None;
  entries : List Entry;
  passes : HasPassed l.initial.reader l.reader entries;
  plays : PlaysOn {A = Unit {0}} (setting_of l.scene.policy.now (modules_lent l.initial.host) l.scene.shown) (Stands g.T.Facets.rows l.initial.host) (Stands g.T.Facets.rows l.host)
      (events_of entries) (Ok tt) (g.S.Sink.written l.initial.out) (g.S.Sink.written l.out);
  can : CanPlay l.scene.policy.now (policy_lent l.host) (is_spent l.host);
  paced : IsPaced l.scene.policy.now l.reader (played_in l.host);
  modules : modules_lent l.host ≡ modules_lent l.initial.host;
  later : g.S.Sink.faults l.initial.out ≤ g.S.Sink.faults l.out;
}

abbrev pub decreases-lines : goal.decreases-lines
decreases-lines g l = length l.reader.kept
