use Rattle.std.proofs.Common.{◌≡◌, take}
use Rattle.label_lattice.specs.Reach.{flows}
use Rattle.trapeze_lines.specs.Lines.{visible}
use Rattle.noninterference_laws.proofs.view.view_of.Given as goal

-- the lines so far are those seen of the lines so far
abbrev pub invariant-lines : goal.invariant-lines
invariant-lines l = l.seen ≡ visible (flows l.fn.lattice) l.fn.o.number (take l.line-index l.fn.lines)
