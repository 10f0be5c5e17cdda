-- Which traces are sound: each line passes the rule of its kind, in terms of the lines before it and the line that follows it.
use Rattle.std.specs.Prelude.{◌≡◌, ℕ, ◌+◌, ◌==◌, ◌&&◌, ⊤, Bool, true, false, ◌⊎◌, List, [], ◌∷◌, Option, Some, None, IfSome, filter, length, take, slice_get}
use Rattle.std.specs.Option.{IsSomeAnd}
use Rattle.std.specs.List.{flat_map, last_or}
use Rattle.label_lattice.specs.Order.{place_of}
use Rattle.facet_list.specs.Store.{Write, written, last_at}
use Rattle.labelled_channel.specs.declared.channels.Channel.{Channel}
use Rattle.gate_rules.specs.Gates.{has}
use Rattle.trapeze_lines.specs.declared.line.Line.{Line}
use Rattle.trapeze_lines.specs.declared.line.Kind.{Kind}
use Rattle.trapeze_lines.specs.declared.line.Kind.TheVariants as kind
use Rattle.host_rules.specs.Rules.{Rules, label_of, function_name, clearance, channel_named}
use Rattle.host_rules.specs.Stores.{read}

-- the write that a line of the label tells, if it tells one
abbrev pub told_write : ℕ → Kind → List Write
told_write l (kind.Write key value) = written l key value ∷ []
told_write l k = []

-- the writes that the lines tell, in order
abbrev pub writes_in : List Line → List Write
writes_in lines = flat_map (λ line. told_write line.label.number line.kind) lines

-- a turn, which found an activation or an empty list
abbrev pub is_turn : Kind → Bool
is_turn (kind.Turn number function id outcome) = true
is_turn (kind.Idle number) = true
is_turn k = false

-- how many turns of the label the lines tell
abbrev pub turns_in : ℕ → List Line → ℕ
turns_in l lines = length (filter (λ line. line.label.number == l && is_turn line.kind) lines)

-- latest write read: the value is that of the last write of the key whose label flows to l, or absent
abbrev pub IsLatest : Rules → ℕ → List Line → List ℕ → Option (List ℕ) → Type 0
IsLatest P l before key value = value ≡ read P l key (writes_in before)

-- the client has this clearance
abbrev pub HasClearance : Rules → ℕ → ℕ → Type 0
HasClearance P l client = clearance P client ≡ l

-- it answers the client's request with these bytes
abbrev pub Answers : List ℕ → List ℕ → List ℕ → Kind → Type 0
Answers client id bytes (kind.Answer asker asked answer) = (asker ≡ client) × (asked ≡ id) × (answer ≡ bytes)
Answers client id bytes k = ⊥

-- the line answers so, at a label that flows to l
abbrev pub IsAnswerTo : Rules → ℕ → List ℕ → List ℕ → List ℕ → Line → Type 0
IsAnswerTo P l client id bytes line = Answers client id bytes line.kind × (P.flows line.label.number l ≡ true)

-- answered reply: to a client with clearance l, and the line before answers so
abbrev pub IsAnswered : Rules → ℕ → List Line → List ℕ → List ℕ → List ℕ → Type 0
IsAnswered P l before client id bytes =
    IsSomeAnd (place_of client P.clients) (HasClearance P l) × IsSomeAnd (last_or None before) (IsAnswerTo P l client id bytes)

-- an activation of a function may start at l from another label: that one flows to l, or it serves no request and a gate leads so
abbrev pub MayStart : Rules → ℕ → ℕ → Option (List ℕ) → ℕ → Type 0
MayStart P from l id function = (P.flows from l ≡ true) ⊎ ((id ≡ None) × (has (label_of from) (label_of l) function P.gates ≡ true))

-- allowed start: of a function that may start
abbrev pub IsAllowed : Rules → ℕ → ℕ → List ℕ → Option (List ℕ) → Type 0
IsAllowed P l from function id = IsSomeAnd (place_of function P.functions) (MayStart P from l id)

-- it starts an activation of the function from the label, or gives one up
abbrev pub Arrives : ℕ → List ℕ → Kind → Type 0
Arrives from function (kind.Start other started id) = (other.number ≡ from) × (started ≡ function)
Arrives from function (kind.Dropped started id) = started ≡ function
Arrives from function k = ⊥

-- the line tells the arrival of what was sent from the label into the channel
abbrev pub IsArrival : Rules → ℕ → Channel → Line → Type 0
IsArrival P from channel line = (line.label.number ≡ channel.at.number) × Arrives from (function_name P channel.function) line.kind

-- delivered send: into a channel; where l flows to the channel's label and a line follows, that line is the arrival
abbrev pub IsDelivered : Rules → ℕ → List ℕ → Option Line → Type 0
IsDelivered P l name next =
    IsSomeAnd (channel_named P name) (λ channel. P.flows l channel.at.number ≡ true → IfSome next (IsArrival P l channel))

-- next turn: the number is one more than how many turns of l came before
abbrev pub IsNextTurn : ℕ → List Line → ℕ → Type 0
IsNextTurn l before number = number ≡ turns_in l before + 1

-- last write kept: the key was written at l, the last time with this value
abbrev pub IsKept : ℕ → List Line → List ℕ → Option (List ℕ) → Type 0
IsKept l before key value = last_at (key, l) (writes_in before) ≡ Some value

-- a line of l passes its rule, after the lines before it and before the line that follows, if one does
abbrev pub Passes : Rules → List Line → ℕ → Kind → Option Line → Type 0
Passes P before l (kind.Read key value) next = IsLatest P l before key value
Passes P before l (kind.Reply client id bytes) next = IsAnswered P l before client id bytes
Passes P before l (kind.Start from function id) next = IsAllowed P l from.number function id
Passes P before l (kind.Send name bytes) next = IsDelivered P l name next
Passes P before l (kind.Turn number function id outcome) next = IsNextTurn l before number
Passes P before l (kind.Idle number) next = IsNextTurn l before number
Passes P before l (kind.Facet key value) next = IsKept l before key value
-- no other line has a rule
Passes P before l (kind.Write key value) next = ⊤
Passes P before l (kind.Full key) next = ⊤
Passes P before l (kind.Dropped function id) next = ⊤
Passes P before l (kind.Answer client id bytes) next = ⊤

-- the line at the place, from 0, passes its rule
abbrev pub PassesAt : Rules → List Line → ℕ → Type 0
PassesAt P lines i = IfSome (slice_get lines i) (λ line. Passes P (take i lines) line.label.number line.kind (slice_get lines (i + 1)))

-- sound trace: each line passes its rule
abbrev pub Sound : Rules → List Line → Type 0
Sound P lines = (i : ℕ) → PassesAt P lines i
