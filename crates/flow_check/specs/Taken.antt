-- The lines that a checker has taken.
use Rattle.std.specs.Prelude.{◌≡◌, ℕ, List, length}
use Rattle.label_lattice.specs.Order.{count}
use Rattle.facet_list.specs.Rows.{AreBelow}
use Rattle.facet_rows.specs.Rows.{rows_in}
use Rattle.policy_toml.specs.Parts.{Parts}
use Rattle.trapeze_lines.specs.declared.line.Line.{Line}
use Rattle.host_rules.specs.Policies.{rules_of}
use Rattle.flow_check.specs.declared.checker.Checker.{Checker}
use Rattle.flow_check.specs.declared.verdict.Verdict.TheVariants.{Sound}
use Rattle.flow_check.specs.Kept.{Keeps, IsFrom}
use Rattle.flow_check.specs.Verdicts.{IsVerdict}

-- a checker of lines with so many labels
pub record IsFor (n : ℕ) (checker : Checker) : Type 0 where
  pub counted : length checker.turns.items ≡ n
  pub below : AreBelow n (rows_in checker.rows)
  pub last : IsFrom n checker.last

-- it keeps what the lines tell
pub record Knows (policy : Parts) (lines : List Line) (checker : Checker) : Type 0 where
  pub keeps : Keeps (rules_of policy) (count policy.lattice) lines (rows_in checker.rows) checker.turns.items checker.last
  pub number : checker.taken ≡ length lines

-- it has taken these lines: its verdict is theirs, and as long as they are sound it keeps what they tell
pub record HasTaken (policy : Parts) (lines : List Line) (checker : Checker) : Type 0 where
  pub verdict : IsVerdict (rules_of policy) lines checker.verdict
  pub known : checker.verdict ≡ Sound → Knows policy lines checker
