-- What a guest wishes, as the code has it, and what is carried out.
use Rattle.std.specs.Prelude.{◌≡◌, ℕ, ◌<◌, Bool, true, false, List, Option, Some, None, Result, Ok, Err}
use Rattle.std.specs.Prelude.{ok_or, if◌then◌else◌}
use Rattle.trapeze_io.specs.Answers.{◌>>=◌}
use Rattle.gate_rules.specs.Gates.{filtered}
use Rattle.facet_list.specs.Store.{Write}
use Rattle.facet_list.specs.Rows.{Rows, rows_of}
use Rattle.trapeze_lines.specs.declared.line.Line.{Line}
use Rattle.trapeze_lines.specs.declared.outcome.Cause.{Cause}
use Rattle.trapeze_lines.specs.declared.outcome.Cause.TheVariants.{Unknown}
use Rattle.wasm_ast.specs.declared.modules.Module.{Module}
use Rattle.wasm_semantics.specs.Threads.{Thread}
use Rattle.sandbox.specs.declared.suspended.Suspended.{Suspended}
use Rattle.sandbox.specs.Threads.{waiting, IsWaiting}
use Rattle.host_rules.specs.Guests.{Guest}
use Rattle.host_rules.specs.Rules.{Rules, label_of, label_named, channel_named, gate_named}
use Rattle.host_rules.specs.States.{Activation, State, still, then_lines}
use Rattle.host_rules.specs.Calls.{Called, copied, granted}
use Rattle.host_rules.specs.Modules.{guest_of}
use Rattle.host_rules.specs.Wishes as wishes
use Rattle.trapeze_io.specs.Sizes.{IsKey, IsValue}
use Rattle.shim_calls.specs.declared.effect.Effect.{Effect}
use Rattle.shim_calls.specs.declared.effect.Performed.{Performed}
use Rattle.shim_calls.specs.declared.wish.Wish.{Wish}
use Rattle.shim_calls.specs.declared.wish.Wish.TheVariants as asks
use Rattle.shim_calls.specs.declared.wish.Refused.{Refused}
use Rattle.shim_calls.specs.declared.wish.Refused.TheVariants as refused
use Rattle.shim_calls.specs.Performing.{cause_of_call, made, Performs, IsFitMessage, IsFitRelease}

-- the cause that a refusal has; being out of memory has none
abbrev pub fault_of : Refused → Option Cause
fault_of (refused.Trapped trap) = Some (cause_of_call trap)
fault_of refused.NoMemory = None

-- a wish at c with its message delivered and its release filtered: a message or a release that does not flow vanishes
abbrev pub shown : Rules → ℕ → wishes.Wish → Wish
shown P c (wishes.Inputs at cap) = asks.Input at cap
shown P c (wishes.Reads key at cap) = asks.Read key at cap
shown P c (wishes.Writes key value) = asks.Write key value
shown P c (wishes.Sends name channel bytes) =
    asks.Send name bytes (if P.flows c channel.at.number then Some (channel.at, channel.function) else None)
shown P c (wishes.Raises l) = asks.Raise (label_of l)
shown P c (wishes.Replies bytes) = asks.Reply bytes
shown P c (wishes.OwnLabels at cap) = asks.OwnLabel at cap
shown P c (wishes.Releases gate bytes) =
    if P.flows c gate.source.number then asks.Release gate (filtered gate.filter bytes) else asks.Nothing

-- what is read at c, shown
abbrev pub wished : Rules → ℕ → Result wishes.Wish Cause → Result Wish Cause
wished P c (Ok x) = Ok (shown P c x)
wished P c (Err cause) = Err cause

-- a message into the channel with this name
abbrev pub sends : Rules → List ℕ → List ℕ → Result wishes.Wish Cause
sends P name bytes = ok_or (channel_named P name) Unknown >>= (λ channel. Ok (wishes.Sends name channel bytes))

-- a raise to the label with this name
abbrev pub raises : Rules → List ℕ → Result wishes.Wish Cause
raises P name = ok_or (label_named P name) Unknown >>= (λ label. Ok (wishes.Raises label))

-- a release through the gate with this name
abbrev pub releases : Rules → List ℕ → List ℕ → Result wishes.Wish Cause
releases P name bytes = ok_or (gate_named P name) Unknown >>= (λ gate. Ok (wishes.Releases gate bytes))

-- the wish is of a call that has a result
abbrev pub wants_answer : Wish → Bool
wants_answer (asks.Input at cap) = true
wants_answer (asks.Read key at cap) = true
wants_answer (asks.Write key value) = true
wants_answer (asks.Send channel bytes to) = false
wants_answer (asks.Raise label) = false
wants_answer (asks.Reply bytes) = false
wants_answer (asks.OwnLabel at cap) = true
wants_answer (asks.Release gate bytes) = false
wants_answer asks.Nothing = false

-- what is wished is within its sizes, and of these counts of labels and functions
abbrev pub IsFitWish : ℕ → ℕ → Wish → Type 0
IsFitWish labels functions (asks.Input at cap) = Unit {0}
IsFitWish labels functions (asks.Read key at cap) = Unit {0}
IsFitWish labels functions (asks.Write key value) = IsKey key × IsValue value
IsFitWish labels functions (asks.Send channel bytes to) = IsFitMessage labels functions bytes to
IsFitWish labels functions (asks.Raise label) = label.number < labels
IsFitWish labels functions (asks.Reply bytes) = Unit {0}
IsFitWish labels functions (asks.OwnLabel at cap) = Unit {0}
IsFitWish labels functions (asks.Release gate bytes) = IsFitRelease labels functions gate bytes
IsFitWish labels functions asks.Nothing = Unit {0}

-- these lines are all that the effect makes
abbrev pub MakesLines : Rules → ℕ → Activation Thread → State Thread → List Line → Option Effect → Type 0
MakesLines P c a s lines effect = then_lines lines (still s) ≡ made P c a effect s

-- what comes of a call, for the guest that is in it, the activation, the writes so far and the thread
abbrev pub Call : Type 0
Call = Guest Thread → Activation Thread → List Write → Thread → Called Thread

-- the call was performed, whatever activation at c, with this input and a store of these rows, waits in it
abbrev pub Carries : Rules → ℕ → Suspended → List ℕ → Rows → Call → Rows → Performed → Type 0
Carries P c suspended input before call after done =
    (m : Module) (modules : List Module) (a : Activation Thread) (s : State Thread) → IsWaiting m suspended → a.input ≡ input
    → before ≡ rows_of s.store → Performs P m c a s (call (guest_of modules) a s.store (waiting m suspended)) after done

-- what is granted to this wish was performed
abbrev pub Grants : Rules → ℕ → Suspended → List ℕ → wishes.Wish → Rows → Rows → Performed → Type 0
Grants P c suspended input x before after done =
    Carries P c suspended input before (λ M a w t. granted P M c a w t x) after done

-- the first cap bytes were copied to the guest, with the lines that this effect makes, whatever the activation
abbrev pub Copies : Suspended → ℕ → ℕ → List ℕ → Option Effect → Performed → Type 0
Copies suspended at cap bytes effect done =
    (P : Rules) (m : Module) (modules : List Module) (c : ℕ) (a : Activation Thread) (s : State Thread) (lines : List Line)
    (rows : Rows) → IsWaiting m suspended → MakesLines P c a s lines effect → rows ≡ rows_of s.store
    → Performs P m c a s (copied (guest_of modules) (waiting m suspended) at cap bytes lines) rows done
