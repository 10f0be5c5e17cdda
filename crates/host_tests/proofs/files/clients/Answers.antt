use Rattle.std.proofs.Common.{arith}
use Rattle.std.specs.List.Sorted.{IsStrictlySortedBy}
use Rattle.event_file.specs.Known.{AreNumbered}
use Rattle.host_tests.proofs.files.clients.Goals as goal

pub returns : goal.returns
unfolding IsStrictlySortedBy
returns c = record { ascending = (tt, tt); few = omega arith }
