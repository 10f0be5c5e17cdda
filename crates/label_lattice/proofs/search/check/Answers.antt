use Rattle.std.proofs.Common.{None}
use Rattle.label_lattice.proofs.OrderFaults.{found_order}
use Rattle.label_lattice.proofs.search.check.Goals as goal

pub returns-in-Some-no_join_of-2 : goal.returns-in-Some-no_join_of-2
returns-in-Some-no_join_of-2 c = λ _.
    found_order c.args.count c.args.table.now c.turned-turned.result None None _ c.requires.closed c.requires.few
    (record { turned = c.turned-turned.ensures.turned; empty = c.turned-turned.ensures.empty }) c.in_default.ensures c.in_default-no_join_of.ensures c.in-Some-no_join_of-2.ensures

pub returns : goal.returns
returns c =
    found_order c.args.count c.args.table.now c.turned-turned.result None None None c.requires.closed c.requires.few
    (record { turned = c.turned-turned.ensures.turned; empty = c.turned-turned.ensures.empty }) c.in_default.ensures c.in_default-no_join_of.ensures c.in_default-no_join_of-2.ensures
