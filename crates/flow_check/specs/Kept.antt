-- What is kept of the lines so far.
use Rattle.std.specs.Prelude.{◌≡◌, ℕ, ◌<◌, ⊤, Bool, true, List, Option, Some, None, if◌then◌else◌, slice_index}
use Rattle.std.specs.List.{last_or}
use Rattle.facet_list.specs.Rows.{Rows, rows_of}
use Rattle.labelled_channel.specs.declared.channels.Channel.{Channel}
use Rattle.trapeze_lines.specs.declared.line.Line.{Line}
use Rattle.trapeze_lines.specs.declared.line.Kind.{Kind}
use Rattle.trapeze_lines.specs.declared.line.Kind.TheVariants as kind
use Rattle.host_rules.specs.Rules.{Rules, label_of, function_name, channel_named}
use Rattle.flow_check.specs.declared.last.Last.{Last}
use Rattle.flow_check.specs.declared.last.Last.TheVariants as last
use Rattle.flow_check.specs.Sound.{writes_in, turns_in, Arrives}

-- what is kept of a message from the label into the channel: its arrival, where the channel's label is reached
abbrev pub sent : Rules → ℕ → Option Channel → Last
sent P l None = last.Other
sent P l (Some channel) =
    if P.flows l channel.at.number then last.Sent (label_of l) channel.at (function_name P channel.function) else last.Other

-- what is kept of a line of the label
abbrev pub kept_of : Rules → ℕ → Kind → Last
kept_of P l (kind.Answer client id bytes) = last.Answered (label_of l) client id bytes
kept_of P l (kind.Send name bytes) = sent P l (channel_named P name)
kept_of P l (kind.Read key value) = last.Other
kept_of P l (kind.Reply client id bytes) = last.Other
kept_of P l (kind.Start from function id) = last.Other
kept_of P l (kind.Turn number function id outcome) = last.Other
kept_of P l (kind.Idle number) = last.Other
kept_of P l (kind.Facet key value) = last.Other
kept_of P l (kind.Write key value) = last.Other
kept_of P l (kind.Full key) = last.Other
kept_of P l (kind.Dropped function id) = last.Other

-- what is kept of the last line, where there is one
abbrev pub kept_last : Rules → Option Line → Last
kept_last P None = last.Other
kept_last P (Some line) = kept_of P line.label.number line.kind

-- the last line answers the client's request with these bytes, at a label that flows to l
abbrev pub HasAnswered : (ℕ → ℕ → Bool) → ℕ → List ℕ → List ℕ → List ℕ → Last → Type 0
HasAnswered flows l client id bytes (last.Answered from asker asked answer) =
    ((asker ≡ client) × (asked ≡ id) × (answer ≡ bytes)) × (flows from.number l ≡ true)
HasAnswered flows l client id bytes (last.Sent from to function) = ⊥
HasAnswered flows l client id bytes last.Other = ⊥

-- the label of an answer is one of so many
abbrev pub IsFrom : ℕ → Last → Type 0
IsFrom n (last.Answered from client id bytes) = from.number < n
IsFrom n (last.Sent from to function) = ⊤
IsFrom n last.Other = ⊤

-- the line may come after the last one: where that one's message arrives, it tells the arrival
abbrev pub MayFollow : Last → Line → Type 0
MayFollow (last.Sent from to function) line = (line.label.number ≡ to.number) × Arrives from.number function line.kind
MayFollow (last.Answered from client id bytes) line = ⊤
MayFollow last.Other line = ⊤

-- the rows of the writes that the lines tell, and for each of so many labels how many turns they tell
pub record Tells (n : ℕ) (lines : List Line) (rows : Rows) (turns : List ℕ) : Type 0 where
  pub rows_are : rows ≡ rows_of (writes_in lines)
  pub turns_are : (l : ℕ) → l < n → slice_index turns l ≡ turns_in l lines

-- and what is kept of the last of them
pub record Keeps (P : Rules) (n : ℕ) (lines : List Line) (rows : Rows) (turns : List ℕ) (last : Last) : Type 0 where
  pub tells : Tells n lines rows turns
  pub last_is : last ≡ kept_last P (last_or None lines)
