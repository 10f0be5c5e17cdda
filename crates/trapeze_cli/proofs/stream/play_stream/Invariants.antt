use Rattle.std.proofs.Common.{◌≡◌, ◌≤◌, ◌-◌, ℕ, Ok, length, List}
use Rattle.trapeze_io.specs.Seen.{OpensNone, Gives}
use Rattle.event_file.specs.declared.entry.Entry.{Entry}
use Rattle.trapeze_host.specs.Standing.{policy_lent, modules_lent, is_spent, played_in, known_in, Stands}
use Rattle.trapeze_cli.specs.Played.{events_of}
use Rattle.trapeze_cli.specs.Runs.{setting_of}
use Rattle.trapeze_cli.specs.Playing.{CanPlay, IsPaced, PlaysOn, IsDry, HasFollowed}
use Rattle.trapeze_cli.proofs.stream.play_stream.Given as goal

-- what was given is passed and played, but for a part of a line
abbrev pub invariant-pieces : goal.invariant-pieces
invariant-pieces g l = record {
  given : List ℕ;
  entries : List Entry;
  gives : Gives (g.F.Files.seen l.initial.files).current (g.F.Files.seen l.files).current given;
  follows : HasFollowed (known_in l.scene.policy.now) given entries l.reader;
  dry : IsDry l.reader;
  within : length given ≤ 67108864;
  plays : PlaysOn {A = Unit {0}} (setting_of l.scene.policy.now (modules_lent l.initial.host) l.scene.shown) (Stands g.T.Facets.rows l.initial.host) (Stands g.T.Facets.rows l.host)
      (events_of entries) (Ok tt) (g.S.Sink.written l.initial.out) (g.S.Sink.written l.out);
  can : CanPlay l.scene.policy.now (policy_lent l.host) (is_spent l.host);
  paced : IsPaced l.scene.policy.now l.reader (played_in l.host);
  modules : modules_lent l.host ≡ modules_lent l.initial.host;
  none : OpensNone (g.F.Files.seen l.initial.files) (g.F.Files.seen l.files);
  later : g.S.Sink.faults l.initial.out ≤ g.S.Sink.faults l.out;
}

abbrev pub decreases-pieces : goal.decreases-pieces
decreases-pieces g l = 67108864 - l.reader.fed
