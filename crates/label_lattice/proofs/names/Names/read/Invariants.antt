use Rattle.std.proofs.Common.{◌≡◌, length, take}
use Rattle.label_lattice.specs.Joins.{labels, labels_from}
use Rattle.label_lattice.specs.Faults.{first_of, name_fault}
use Rattle.label_lattice.proofs.names.Names.read.Given as goal

abbrev pub invariant-names : goal.invariant-names
invariant-names l = record {
  read : l.set.keys ≡ take l.i l.names;
  fault : first_of (name_fault l.names) (labels (length l.names)) ≡ first_of (name_fault l.names) (labels_from l.i (length l.names));
}
