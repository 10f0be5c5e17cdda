use Rattle.trapeze_host.specs.Standing.{policy_lent, modules_lent, Stands}
use Rattle.trapeze_cli.proofs.Playing.{err_is, plays_nothing}
use Rattle.trapeze_cli.proofs.ToldLines.{event_played, all_labelled}
use Rattle.trapeze_cli.proofs.play.play_event.Goals as goal

pub returns-in_err-play-clause-plays : goal.returns-in_err-play-clause-plays
returns-in_err-play-clause-plays g c = rw (err_is _ _ c.from_residual.ensures.1) (plays_nothing _ _ _ _ _)

pub write_lines-requires-clause-labelled : goal.write_lines-requires-clause-labelled
write_lines-requires-clause-labelled g c =
    all_labelled c.args.scene.now.policy.now _ _ _ c.requires.can.is_lent c.new-lines.ensures (rw c.as_slice.ensures c.in_ok-play.ensures.labelled)

pub returns-clause-plays : goal.returns-clause-plays
returns-clause-plays g c =
    event_played c.args.scene.now.policy.now (policy_lent c.args.host.now) (modules_lent c.args.host.now) c.args.scene.now.shown (Stands g.T.Facets.rows c.args.host.now) (Stands g.T.Facets.rows c.play.new.self) c.args.event.now
    _ c.play.new.lines c.write_lines.result _ _ c.requires.can.is_lent c.new-lines.ensures
    (λ s is. (c.in_ok-play.ensures.moved s is).stands) (λ s is. (c.in_ok-play.ensures.moved s is).lines) (rw c.as_slice.ensures at c.write_lines.ensures.lines)
