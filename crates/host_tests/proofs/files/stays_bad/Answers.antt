use Rattle.std.proofs.Common.{List, ℕ, [], arith}
use Rattle.std.specs.List.Sorted.{IsStrictlySortedBy}
use Rattle.trapeze_io.specs.Names.{Ascend}
use Rattle.event_file.specs.Known.{AreNumbered}
use Rattle.host_tests.proofs.files.stays_bad.Goals as goal

no_names : Ascend []
unfolding IsStrictlySortedBy
no_names = tt

numbered : AreNumbered []
numbered = record { ascending = no_names; few = omega arith }

pub new-reader-requires-clause-clients : goal.new-reader-requires-clause-clients
new-reader-requires-clause-clients c = numbered

pub new-reader-requires-clause-functions : goal.new-reader-requires-clause-functions
new-reader-requires-clause-functions c = numbered
