-- Whether a line is shown, as a test of one line.
use Rattle.std.specs.Prelude.{ℕ, Bool, true, ◌&&◌}
use Rattle.trapeze_lines.specs.declared.line.Line.{Line}
use Rattle.trapeze_lines.specs.Lines.{is_of_run}
use Rattle.trapeze_cli.specs.declared.shown.Shown.{Shown}
use Rattle.trapeze_cli.specs.declared.shown.Shown.TheVariants.{RunKinds, AllKinds, VisibleTo}

abbrev pub shows : (ℕ → ℕ → Bool) → Shown → Line → Bool
shows flows RunKinds line = is_of_run line.kind
shows flows AllKinds line = true
shows flows (VisibleTo label) line = is_of_run line.kind && flows line.label.number label.number
