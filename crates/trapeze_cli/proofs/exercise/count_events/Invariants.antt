use Rattle.std.proofs.Common.{◌≡◌, ◌*◌, ◌^◌, false}
use Rattle.host_rules.specs.Modules.{guest_of}
use Rattle.host_rules.specs.Policies.{rules_of}
use Rattle.trapeze_host.specs.Standing.{policy_lent, modules_lent, is_spent, played_in, Stands}
use Rattle.trapeze_exercise.specs.Generated.{first_generated}
use Rattle.trapeze_cli.specs.Counts.{AtMost}
use Rattle.trapeze_cli.specs.Counted.{Counted}
use Rattle.trapeze_cli.proofs.exercise.count_events.Given as goal

-- the events so far are played, and their lines counted
abbrev pub invariant-events : goal.invariant-events
invariant-events g l = record {
  counted : Counted (rules_of (policy_lent l.initial.host)) (guest_of (modules_lent l.initial.host)) (Stands g.T.Facets.rows l.initial.host) (Stands g.T.Facets.rows l.host)
      (first_generated l.number l.i) l.initial.counts l.counts;
  most : AtMost (l.i * 2 ^ 64) l.counts;
  unspent : is_spent l.host ≡ false;
  played : played_in l.host ≡ l.i;
  policy : policy_lent l.host ≡ policy_lent l.initial.host;
  modules : modules_lent l.host ≡ modules_lent l.initial.host;
}
