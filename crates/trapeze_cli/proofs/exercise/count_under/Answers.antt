use Rattle.std.proofs.Common.{[], ◌∙◌, ap}
use Rattle.trapeze_host.specs.Standing.{known_in}
use Rattle.trapeze_cli.proofs.Exercising.{counted_whole}
use Rattle.trapeze_cli.proofs.exercise.count_under.Goals as goal

pub count_events-requires-clause-known : goal.count_events-requires-clause-known
count_events-requires-clause-known c = ap known_in c.in_ok-host.ensures.lent.0 ∙ c.requires.known

pub returns : goal.returns
returns c =
    let lent = c.in_ok-host.ensures.lent in
    counted_whole _ _ _ _ _ _ _ _ (c.in_ok-host.ensures.starts [] c.in_ok-facets.ensures.rows) c.none-counts.ensures.counts
    (rw (lent.0, lent.1) at c.in_ok-count_events.ensures.counted) c.in_ok-count_facets.ensures
