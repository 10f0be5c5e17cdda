use Rattle.std.proofs.Common.{ℕ, ◌+◌, take}
use Rattle.trapeze_cli.specs.Counts.{AtMost}
use Rattle.trapeze_cli.specs.Counted.{TakesIn}
use Rattle.trapeze_cli.proofs.counts.Counts.count.Given as goal

-- the lines so far are counted
abbrev pub invariant-lines : goal.invariant-lines
invariant-lines l = record {
  counts : TakesIn (take l.line-index l.lines) l.initial.self l.self;
  most : (most : ℕ) → AtMost most l.initial.self → AtMost (most + l.line-index) l.self;
}
