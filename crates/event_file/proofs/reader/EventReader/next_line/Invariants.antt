use Rattle.std.proofs.Common.{◌≡◌, ◌≤◌, length, None}
use Rattle.event_file.specs.Calls.{Skips}
use Rattle.event_file.proofs.reader.EventReader.next_line.Given as goal

abbrev pub invariant-lines : goal.invariant-lines
invariant-lines l = record {
  skips : Skips l.initial.self l.self;
  none : l.self.bad ≡ None;
  shrinks : length l.self.kept ≤ length l.initial.self.kept;
}

abbrev pub decreases-lines : goal.decreases-lines
decreases-lines l = length l.self.kept
