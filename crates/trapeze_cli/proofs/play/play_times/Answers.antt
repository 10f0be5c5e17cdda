use Rattle.std.proofs.Common.{◌∙◌, arith}
use Rattle.trapeze_cli.proofs.Playing.{err_is, times_more, times_halt}
use Rattle.trapeze_cli.proofs.play.play_times.Goals as goal

pub returns-in_err-play_event-clause-plays : goal.returns-in_err-play_event-clause-plays
returns-in_err-play_event-clause-plays g c =
    rw (err_is _ _ c.from_residual.ensures.1)
    (times_halt _ _ _ _ _ _ c.turns._turn c.args.times _ _ _ _ c.turns-test.true c.turns.invariant.plays (rw c.turns.invariant.modules at c.in_err-play_event.ensures.plays))

pub turns-preserved : goal.turns-preserved
turns-preserved g c =
    let inv = c.turns.invariant in
    let one = c.in_ok-play_event.ensures in record {
      plays = times_more _ _ _ _ _ c.turns._turn _ _ _ _ inv.plays (rw inv.modules at one.plays);
      can = one.goes_on;
      counted = omega (arith, one.counted, inv.counted);
      modules = one.modules ∙ inv.modules;
      later = omega (arith, inv.later, one.counts.later);
    }
