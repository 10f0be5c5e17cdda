use Rattle.std.proofs.Common.{◌≡◌, ◌≤◌, ◌+◌, Ok}
use Rattle.std.specs.Prelude.{replicate}
use Rattle.trapeze_host.specs.Standing.{policy_lent, modules_lent, is_spent, played_in, Stands}
use Rattle.trapeze_cli.specs.Runs.{setting_of}
use Rattle.trapeze_cli.specs.Playing.{CanPlay, PlaysOn}
use Rattle.trapeze_cli.proofs.play.play_times.Given as goal

-- so many turns are played
abbrev pub invariant-turns : goal.invariant-turns
invariant-turns g l = record {
  plays : PlaysOn {A = Unit {0}} (setting_of l.scene.policy.now (modules_lent l.initial.host) l.scene.shown) (Stands g.T.Facets.rows l.initial.host) (Stands g.T.Facets.rows l.host)
      (replicate l._turn l.event) (Ok tt) (g.S.Sink.written l.initial.out) (g.S.Sink.written l.out);
  can : CanPlay l.scene.policy.now (policy_lent l.host) (is_spent l.host);
  counted : played_in l.host ≡ played_in l.initial.host + l._turn;
  modules : modules_lent l.host ≡ modules_lent l.initial.host;
  later : g.S.Sink.faults l.initial.out ≤ g.S.Sink.faults l.out;
}
