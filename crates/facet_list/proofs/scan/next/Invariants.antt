use Rattle.std.proofs.Common.{take}
use Rattle.std.specs.Prelude.{option_map}
use Rattle.facet_list.specs.Rows.{rows_of}
use Rattle.facet_list.specs.Walk.{slot_after}
use Rattle.facet_list.specs.Kept.{chosen, facet_of, IsLeast}
use Rattle.facet_list.proofs.scan.next.Given as goal

-- the least of the writes so far
abbrev pub invariant-writes : goal.invariant-writes
invariant-writes l = IsLeast (rows_of (chosen l.only (take l.write-index l.writes))) (slot_after l.after) (option_map facet_of l.least)
