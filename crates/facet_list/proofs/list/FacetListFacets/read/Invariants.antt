use Rattle.std.proofs.Common.{◌≡◌, take}
use Rattle.std.specs.Option.{option_copied}
use Rattle.label_lattice.specs.Reach.{flows}
use Rattle.facet_list.specs.Store.{read}
use Rattle.facet_list.proofs.list.FacetListFacets.read.Given as goal

-- what the writes so far tell
abbrev pub invariant-writes : goal.invariant-writes
invariant-writes l = option_copied l.found ≡ read (flows l.lattice) l.at.number l.key (take l.write-index l.write-items)
