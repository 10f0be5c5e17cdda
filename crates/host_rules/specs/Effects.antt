-- What the rules do with a write, an arrival, a message, a reply and a release.
use Rattle.std.specs.Prelude.{ℕ, not, ◌&&◌, nat_lt, List, [], ◌∷◌, Option, Some, None, length, if◌then◌else◌}
use Rattle.facet_list.specs.Store.{Write, written}
use Rattle.labelled_channel.specs.declared.channels.Channel.{Channel}
use Rattle.gate_rules.specs.declared.gate.Gate.{Gate}
use Rattle.trapeze_lines.specs.declared.line.Kind.TheVariants as kind
use Rattle.trapeze_lines.specs.Lines.{line_at}
use Rattle.host_rules.specs.Rules.{Rules, label_of, limits_at, function_name, client_name, clearance}
use Rattle.host_rules.specs.States.{Serving, Activation, fresh, State, keep, push, answer, Out, Moved, still, told, id_of}
use Rattle.host_rules.specs.Stores.{fits}
use Rattle.host_rules.specs.Calls.{Effect, Nothing, AWrite, AMessage, AReply, ARelease}

-- write: one that fits is appended, with the line `write`; any other changes nothing, with the line `full`
abbrev pub write : {T : Type 0} → Rules → Write → State T → Moved T
write P x s =
    if fits P s.store x
    then told (line_at x.label (kind.Write x.key x.value)) (keep s x)
    else told (line_at x.label (kind.Full x.key)) s

-- arrival: at l, from m; where the list has fewer members than the label's `queue`, the activation goes to the back with no
-- units used, with the line `start`; otherwise it is given up, with the line `drop`
abbrev pub arrive : {T : Type 0} → Rules → ℕ → ℕ → Activation T → State T → Moved T
arrive P l m a s =
    if nat_lt (length (s.lists l)) (limits_at P l).queue
    then told (line_at l (kind.Start (label_of m) (function_name P a.function) (id_of a))) (push s l (record a { used = 0 }))
    else told (line_at l (kind.Dropped (function_name P a.function) (id_of a))) s

-- send: where c flows to the channel's label, an activation of its function for what the sender serves arrives there, from c;
-- otherwise the message vanishes
abbrev pub send : {T : Type 0} → Rules → ℕ → Option Serving → Channel → List ℕ → State T → Moved T
send P c serves channel bytes s =
    if P.flows c channel.at.number
    then arrive P channel.at.number c (fresh channel.function bytes serves) s
    else still s

-- reply: where c flows to the client's clearance and the request is not answered, it is now, with the line `reply`; otherwise
-- the reply vanishes
abbrev pub reply : {T : Type 0} → Rules → ℕ → Option Serving → List ℕ → State T → Moved T
reply P c None bytes s = still s
reply P c (Some x) bytes s =
    if P.flows c (clearance P x.client) && not (s.answered x.request)
    then told (line_at (clearance P x.client) (kind.Reply (client_name P x.client) x.id bytes)) (answer s x.request)
    else still s

-- an activation of the gate's function without a request arrives at its target, from its source
abbrev pub let_in : {T : Type 0} → Rules → Gate → List ℕ → State T → Moved T
let_in P gate bytes s = arrive P gate.target.number gate.source.number (fresh gate.function bytes None) s

-- release: where c flows to the gate's source, the bytes are let in at its target; otherwise the release vanishes
abbrev pub release : {T : Type 0} → Rules → ℕ → Gate → List ℕ → State T → Moved T
release P c gate bytes s =
    if P.flows c gate.source.number
    then record (let_in P gate bytes s) { outs = Out gate bytes ∷ [] }
    else still s

-- the effect of a host call of the activation a at c
abbrev pub apply : {T : Type 0} → Rules → ℕ → Activation T → Effect → State T → Moved T
apply P c a Nothing s = still s
apply P c a (AWrite key value) s = write P (written c key value) s
apply P c a (AMessage channel bytes) s = send P c a.serves channel bytes s
apply P c a (AReply bytes) s = reply P c a.serves bytes s
apply P c a (ARelease gate bytes) s = release P c gate bytes s
