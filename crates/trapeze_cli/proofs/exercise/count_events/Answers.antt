use Rattle.std.proofs.Common.{◌+◌, ◌*◌, ◌^◌, ◌∙◌, refl, sym, ap, subst, arith}
use Rattle.event_file.specs.Known.{Known}
use Rattle.event_file.specs.Script.{IsFit}
use Rattle.trapeze_host.specs.Standing.{known_in}
use Rattle.trapeze_cli.proofs.Counting.{at_most_up}
use Rattle.trapeze_cli.proofs.Exercising.{generated_none, generated_more}
use Rattle.trapeze_cli.proofs.exercise.count_events.Goals as goal

pub events-init : goal.events-init
events-init g c = record {
  counted = generated_none _ _ c.args.number _ c.args.counts.now;
  most = c.requires.most;
  unspent = c.requires.unspent;
  played = c.requires.unplayed;
  policy = refl;
  modules = refl;
}

pub count_event-requires-clause-event : goal.count_event-requires-clause-event
count_event-requires-clause-event g c =
    subst (λ (known : Known). IsFit known c.in_ok-event.event) (sym (ap known_in c.events.invariant.policy ∙ c.requires.known)) c.in_ok-event.ensures.fit

pub events-preserved : goal.events-preserved
events-preserved g c =
    let inv = c.events.invariant in
    let one = c.in_ok-count_event.ensures in record {
      counted = generated_more _ _ c.args.number _ _ _ c.events.i _ _ _ _ c.in_ok-event.ensures.generated inv.counted (rw (inv.policy, inv.modules) at one.counted);
      most = at_most_up (c.events.i * 2 ^ 64 + 2 ^ 64) ((c.events.i + 1) * 2 ^ 64) c.count_event.new.counts (omega arith) (one.most (c.events.i * 2 ^ 64) inv.most);
      unspent = one.unspent;
      played = omega (arith, one.played, inv.played);
      policy = one.lent.0 ∙ inv.policy;
      modules = one.lent.1 ∙ inv.modules;
    }
