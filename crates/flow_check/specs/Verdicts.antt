-- What a check of lines answers.
use Rattle.std.specs.Prelude.{◌≡◌, ℕ, ◌+◌, ◌<◌, List, Option, Some, None, take, slice_get}
use Rattle.std.specs.Option.{IsSomeAnd}
use Rattle.trapeze_lines.specs.declared.line.Line.{Line}
use Rattle.trapeze_lines.specs.declared.line.Kind.{Kind}
use Rattle.trapeze_lines.specs.declared.line.Kind.TheVariants as kind
use Rattle.host_rules.specs.Rules.{Rules}
use Rattle.flow_check.specs.Sound.{Passes, PassesAt, Sound}
use Rattle.flow_check.specs.declared.verdict.Rule.{Rule}
use Rattle.flow_check.specs.declared.verdict.Rule.TheVariants.{Read, Reply, Start, Send, Turn, Facet}
use Rattle.flow_check.specs.declared.verdict.Verdict.{Verdict}
use Rattle.flow_check.specs.declared.verdict.Verdict.TheVariants as verdict

-- the rule of a kind of lines, if it has one
abbrev pub rule_of : Kind → Option Rule
rule_of (kind.Read key value) = Some Read
rule_of (kind.Reply client id bytes) = Some Reply
rule_of (kind.Start from function id) = Some Start
rule_of (kind.Send name bytes) = Some Send
rule_of (kind.Turn number function id outcome) = Some Turn
rule_of (kind.Idle number) = Some Turn
rule_of (kind.Facet key value) = Some Facet
rule_of (kind.Write key value) = None
rule_of (kind.Full key) = None
rule_of (kind.Dropped function id) = None
rule_of (kind.Answer client id bytes) = None

-- the line does not pass this rule, which is that of its kind
abbrev pub Breaks : Rules → List Line → Rule → Option Line → Line → Type 0
Breaks P before rule next line = (rule_of line.kind ≡ Some rule) × (Passes P before line.label.number line.kind next → ⊥)

-- the line at the place does not pass this rule
abbrev pub FailsAt : Rules → List Line → ℕ → Rule → Type 0
FailsAt P lines i rule = IsSomeAnd (slice_get lines i) (Breaks P (take i lines) rule (slice_get lines (i + 1)))

-- the line of this number, from 1, is the first that does not pass its rule, which is this one
pub record IsFirstFault (P : Rules) (lines : List Line) (number : ℕ) (rule : Rule) : Type 0 where
  pub place : ℕ
  pub numbered : number ≡ place + 1
  pub fails : FailsAt P lines place rule
  pub first : (i : ℕ) → i < place → PassesAt P lines i

-- what the verdict says of the lines
abbrev pub IsVerdict : Rules → List Line → Verdict → Type 0
IsVerdict P lines verdict.Sound = Sound P lines
IsVerdict P lines (verdict.Unsound number rule) = IsFirstFault P lines number rule

-- the rule that a line does not pass after the lines before it, whatever follows it, or None where it passes its own
abbrev pub IsFault : Rules → List Line → Line → Option Rule → Type 0
IsFault P before line None = Passes P before line.label.number line.kind None
IsFault P before line (Some rule) = Breaks P before rule None line
