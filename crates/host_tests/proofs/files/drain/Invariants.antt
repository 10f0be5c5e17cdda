use Rattle.std.proofs.Common.{◌≡◌, length, None}
use Rattle.host_tests.proofs.files.drain.Given as goal

abbrev pub invariant-lines : goal.invariant-lines
invariant-lines l = record {
  none : l.reader.bad ≡ None;
  feeding : l.reader.finished ≡ l.initial.reader.finished;
}

abbrev pub decreases-lines : goal.decreases-lines
decreases-lines l = length l.reader.kept
