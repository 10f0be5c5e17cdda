use Rattle.std.proofs.Common.{ℕ, take}
use Rattle.std.specs.Prelude.{List}
use Rattle.label_lattice.specs.Order.{count}
use Rattle.policy_toml.specs.Parts.{Parts}
use Rattle.trapeze_lines.specs.declared.line.Line.{Line}
use Rattle.flow_check.specs.declared.checker.Checker.{Checker}
use Rattle.flow_check.specs.Taken.{IsFor, HasTaken}
use Rattle.flow_check.proofs.check.check_lines.Given as goal

-- the lines so far are taken
pub record Checked (policy : Parts) (lines : List Line) (checker : Checker) (i : ℕ) : Type 0 where
  pub labels : IsFor (count policy.lattice) checker
  pub taken : HasTaken policy (take i lines) checker

abbrev pub invariant-lines : goal.invariant-lines
invariant-lines l = Checked l.policy l.lines l.checker l.line-index
