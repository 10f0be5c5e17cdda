use Rattle.label_lattice.specs.Order.{count}
use Rattle.flow_check.specs.Taken.{IsFor}
use Rattle.flow_check.proofs.tests.verdict.Given as goal

-- the checker is one of the policy's labels
abbrev pub invariant-lines : goal.invariant-lines
invariant-lines l = IsFor (count l.policy.lattice) l.checker
