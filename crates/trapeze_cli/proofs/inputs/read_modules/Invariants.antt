use Rattle.std.proofs.Common.{◌≡◌, Ok, IfSome, take, length}
use Rattle.trapeze_io.specs.Seen.{OpensAll}
use Rattle.trapeze_cli.specs.Forms.{module_sources}
use Rattle.trapeze_cli.specs.Opens.{names_of}
use Rattle.trapeze_cli.specs.Command.{AreModules}
use Rattle.trapeze_cli.proofs.inputs.read_modules.Given as goal

-- so many modules are read
abbrev pub invariant-files : goal.invariant-files
invariant-files g l = record {
  opened : OpensAll (names_of (module_sources 0 (take l.f l.policy.files))) (g.F.Files.seen l.initial.files) (g.F.Files.seen l.files);
  read : IfSome (g.F.Files.seen l.initial.files).held (λ held. AreModules held 0 (take l.f l.policy.files) (Ok l.modules.items));
  many : length l.modules.items ≡ l.f;
}
