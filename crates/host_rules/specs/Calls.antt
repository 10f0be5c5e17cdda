-- What comes of a host call.
use Rattle.std.specs.Prelude.{ℕ, ◌==◌, List, [], ◌∷◌, Option, Some, None, Result, Ok, Err, length, take, if◌then◌else◌}
use Rattle.facet_list.specs.Store.{Write, written}
use Rattle.labelled_channel.specs.declared.channels.Channel.{Channel}
use Rattle.gate_rules.specs.declared.gate.Gate.{Gate}
use Rattle.gate_rules.specs.Gates.{filtered}
use Rattle.trapeze_lines.specs.declared.line.Line.{Line}
use Rattle.trapeze_lines.specs.declared.outcome.Cause.{Cause}
use Rattle.trapeze_lines.specs.declared.outcome.Cause.TheVariants.{Memory}
use Rattle.trapeze_lines.specs.declared.line.Kind.TheVariants as kind
use Rattle.wasm_ast.specs.Memory.{memory_write}
use Rattle.host_rules.specs.Guests.{Asked, Guest}
use Rattle.trapeze_lines.specs.Lines.{line_at}
use Rattle.host_rules.specs.Rules.{Rules, label_name, client_name}
use Rattle.host_rules.specs.States.{Activation, Serving}
use Rattle.host_rules.specs.Stores.{read, fits}
use Rattle.host_rules.specs.Wishes.{Wish, Inputs, Reads, Writes, Sends, Raises, Replies, OwnLabels, Releases, wish}

-- what a host call does besides its answer: at most one write, one message, one reply or one release, its bytes filtered
pub data Effect : Type 0 where
  Nothing : Effect
  AWrite : List ℕ → Option (List ℕ) → Effect
  AMessage : Channel → List ℕ → Effect
  AReply : List ℕ → Effect
  ARelease : Gate → List ℕ → Effect

-- what comes of a host call: the answered thread with the lines and the effect, the thread that goes on at another label, or
-- a trap and nothing besides
pub data Called (T : Type 0) : Type 0 where
  Resumed : T → List Line → Effect → Called T
  RaisedTo : ℕ → T → Called T
  Refused : Cause → Called T

-- it goes on with this answer, if the call has one, over its memory as it is
abbrev pub resumes : {T : Type 0} → Guest T → T → Option ℕ → List Line → Effect → Called T
resumes M t answer lines effect = Resumed (M.answer t (M.memory t) answer) lines effect

-- the thread with the memory that was written to, or a trap where its destination was not inside
abbrev pub written_out : {T : Type 0} → Guest T → T → Option (List ℕ) → ℕ → List Line → Called T
written_out M t None answer lines = Refused Memory
written_out M t (Some memory) answer lines = Resumed (M.answer t memory (Some answer)) lines Nothing

-- a destination: the first cap bytes are copied to it, and the answer is how many bytes there are
abbrev pub copied : {T : Type 0} → Guest T → T → ℕ → ℕ → List ℕ → List Line → Called T
copied M t at cap bytes lines = written_out M t (memory_write (M.memory t) at (take cap bytes)) (length bytes) lines

-- a value that was read is copied; absent is answered by -1, which is 4294967295, and nothing is copied
abbrev pub read_out : {T : Type 0} → Guest T → T → ℕ → ℕ → Option (List ℕ) → List Line → Called T
read_out M t at cap None lines = resumes M t (Some 4294967295) lines Nothing
read_out M t at cap (Some value) lines = copied M t at cap value lines

-- raise: to the join of the current label and the named one; where that is the current one, it goes on
abbrev pub raised : {T : Type 0} → Rules → Guest T → ℕ → T → ℕ → Called T
raised P M c t l =
    if P.join c l == c then resumes M t None [] Nothing else RaisedTo (P.join c l) (M.answer t (M.memory t) None)

-- the line `answer` of a reply, where a request is served
abbrev pub answer_lines : Rules → ℕ → Option Serving → List ℕ → List Line
answer_lines P c None bytes = []
answer_lines P c (Some x) bytes = line_at c (kind.Answer (client_name P x.client) x.id bytes) ∷ []

-- what is granted to a thread of the activation a at c over these writes
abbrev pub granted : {T : Type 0} → Rules → Guest T → ℕ → Activation T → List Write → T → Wish → Called T
granted P M c a w t (Inputs at cap) = copied M t at cap a.input []
granted P M c a w t (Reads key at cap) = read_out M t at cap (read P c key w) (line_at c (kind.Read key (read P c key w)) ∷ [])
granted P M c a w t (Writes key value) =
    resumes M t (Some (if fits P w (written c key value) then 0 else 1)) [] (AWrite key value)
granted P M c a w t (Sends name channel bytes) = resumes M t None (line_at c (kind.Send name bytes) ∷ []) (AMessage channel bytes)
granted P M c a w t (Raises l) = raised P M c t l
granted P M c a w t (Replies bytes) = resumes M t None (answer_lines P c a.serves bytes) (AReply bytes)
granted P M c a w t (OwnLabels at cap) = copied M t at cap (label_name P c) []
granted P M c a w t (Releases gate bytes) = resumes M t None [] (ARelease gate (filtered gate.filter bytes))

-- what is granted where the tests were passed
abbrev pub after_wish : {T : Type 0} → Result Wish Cause → (Wish → Called T) → Called T
after_wish (Err cause) grant = Refused cause
after_wish (Ok x) grant = grant x

-- the shim: what comes of a host call of the activation a at c, whose thread waits
abbrev pub shim : {T : Type 0} → Rules → Guest T → ℕ → Activation T → List Write → Asked → T → Called T
shim P M c a w asked t = after_wish (wish P (M.memory t) asked) (granted P M c a w t)
