use Rattle.std.proofs.Common.{◌≡◌, ◌++◌, take}
use Rattle.std.specs.Prelude.{filter}
use Rattle.label_lattice.specs.Reach.{flows}
use Rattle.trapeze_lines.specs.Texts.{text}
use Rattle.trapeze_cli.specs.Shows.{shows}
use Rattle.trapeze_cli.proofs.play.tell.Given as goal

-- the lines so far are told
abbrev pub invariant-lines : goal.invariant-lines
invariant-lines l =
    l.said ≡ l.initial.said ++ text l.lattice.names (filter (shows (flows l.lattice) l.scene.shown) (take l.line-index l.lines))
