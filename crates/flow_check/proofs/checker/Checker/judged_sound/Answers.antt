use Rattle.std.proofs.Common.{arith}
use Rattle.host_rules.specs.Policies.{rules_of}
use Rattle.std.proofs.lemmas.Bool.Decides.{not_from_Decides}
use Rattle.flow_check.proofs.NextLines.{unsound_send, unsound_line, sound_line}
use Rattle.flow_check.proofs.checker.Checker.judged_sound.Goals as goal

pub returns-then-not-may_follow : goal.returns-then-not-may_follow
returns-then-not-may_follow c = λ lines few h.
    let known = h.known c.requires.sound in
    unsound_send (rules_of c.args.policy.now) lines c.args.line.now c.args.self.now.verdict c.args.self.now.last c.args.self.now.taken c.requires.sound h.verdict known.keeps.last_is known.number
    (not_from_Decides c.may_follow.result c.may_follow.ensures c.if-not-may_follow.true)

pub returns-in-Some : goal.returns-in-Some
returns-in-Some c = λ lines few h.
    let known = h.known c.requires.sound in
    let size = known.number in
    let sum = c.saturating_add.ensures in
    unsound_line (rules_of c.args.policy.now) lines c.args.line.now c.args.self.now.verdict c.args.self.now.last c.saturating_add.result c.in-Some.rule c.requires.sound h.verdict known.keeps.last_is
    (omega (arith, size, sum)) (c.may_follow.ensures.0 c.if-not-may_follow.false) (c.in-Some.ensures lines known.keeps)

pub returns-in-None : goal.returns-in-None
returns-in-None c = λ lines few h.
    let known = h.known c.requires.sound in
    sound_line (rules_of c.args.policy.now) lines c.args.line.now c.args.self.now.verdict c.args.self.now.last c.requires.sound h.verdict known.keeps.last_is
    (c.may_follow.ensures.0 c.if-not-may_follow.false) (c.in-None.ensures lines known.keeps)
