use Rattle.host_rules.specs.Policies.{rules_of}
use Rattle.flow_check.proofs.NextLines.{unsound_on}
use Rattle.flow_check.proofs.checker.Checker.judged.Goals as goal

pub returns-in-Unsound-clause-verdict : goal.returns-in-Unsound-clause-verdict
returns-in-Unsound-clause-verdict c = λ lines few h.
    unsound_on (rules_of c.args.policy.now) lines c.args.line.now c.args.self.now.verdict c.in-Unsound.line c.in-Unsound.rule c.in-Unsound.is h.verdict
