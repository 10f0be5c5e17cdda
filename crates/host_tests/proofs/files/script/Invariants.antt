use Rattle.std.proofs.Common.{◌≡◌, None, false}
use Rattle.event_file.specs.Reader.{IsOneLine}
use Rattle.host_tests.proofs.files.script.Given as goal

abbrev pub invariant-bytes : goal.invariant-bytes
invariant-bytes l = record {
  none : l.reader.bad ≡ None;
  feeding : l.reader.finished ≡ false;
  part : IsOneLine l.reader.kept;
}
