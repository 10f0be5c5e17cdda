use Rattle.std.proofs.Common.{◌≡◌, ℕ, Ok, IfSome, take, length, map}
use Rattle.file_calls.specs.Sources.{OpensEach}
use Rattle.read_setting.specs.Modules.{module_source, modules_step}
use Rattle.read_setting.proofs.modules.read_modules.Given as goal

-- so many modules are read
abbrev pub invariant-files : goal.invariant-files
invariant-files g l = record {
  opened : OpensEach (map module_source (take l.f l.policy.files)) (g.F.Files.seen l.initial.files) (g.F.Files.seen l.files);
  read : IfSome (g.F.Files.seen l.initial.files).held (λ held. (modules_step l.place (take l.f l.policy.files)).says held (Ok l.modules.items));
  many : length l.modules.items ≡ l.f;
}
