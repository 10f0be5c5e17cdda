-- What comes of a host call, as the rules have it.
use Rattle.std.specs.Prelude.{◌≡◌, ℕ, ◌<◌, ◌≤◌, List, [], ◌∷◌, Option, Some, None, length}
use Rattle.label_lattice.specs.declared.label.Label.{Label}
use Rattle.gate_rules.specs.declared.gate.Gate.{Gate}
use Rattle.facet_list.specs.Store.{written}
use Rattle.facet_list.specs.Rows.{Rows, rows_of}
use Rattle.trapeze_lines.specs.declared.line.Line.{Line}
use Rattle.trapeze_lines.specs.declared.line.Kind.TheVariants as kind
use Rattle.trapeze_lines.specs.declared.outcome.Cause.{Cause}
use Rattle.trapeze_lines.specs.declared.outcome.Cause.TheVariants as cause
use Rattle.trapeze_lines.specs.Lines.{line_at}
use Rattle.wasm_ast.specs.declared.modules.Module.{Module}
use Rattle.wasm_semantics.specs.Threads.{Thread}
use Rattle.wasm_exec.specs.declared.stops.Asked.{Asked}
use Rattle.sandbox.specs.declared.sandboxes.Sandbox.{Sandbox}
use Rattle.sandbox.specs.Threads.{thread_of, IsReady}
use Rattle.host_rules.specs.Guests as guests
use Rattle.host_rules.specs.Rules.{Rules}
use Rattle.host_rules.specs.States.{Activation, State, Moved, Out, fresh, keep, still, told, then_lines}
use Rattle.host_rules.specs.Calls.{Called, Resumed, RaisedTo, Refused, answer_lines}
use Rattle.host_rules.specs.Calls.{Effect as Does}
use Rattle.host_rules.specs.Effects.{arrive, reply, let_in, apply}
use Rattle.trapeze_io.specs.Sizes.{longest_value}
use Rattle.shim_calls.specs.declared.effect.ShimTrap.{ShimTrap}
use Rattle.shim_calls.specs.declared.effect.ShimTrap.TheVariants as trap
use Rattle.shim_calls.specs.declared.effect.Effect.{Effect}
use Rattle.shim_calls.specs.declared.effect.Effect.TheVariants as effect
use Rattle.shim_calls.specs.declared.effect.Performed.{Performed}
use Rattle.shim_calls.specs.declared.effect.Performed.TheVariants as performed

-- what the guest asked, as the rules see it: its name and its arguments in four places
abbrev pub asked_in : Asked → guests.Asked
asked_in a = record { name = a.name; args = a.args }

-- the cause of a trap of a host call
abbrev pub cause_of_call : ShimTrap → Cause
cause_of_call trap.Memory = cause.Memory
cause_of_call trap.Size = cause.Size
cause_of_call trap.Unknown = cause.Unknown

-- what the host makes of an effect of a host call of the activation a at c
abbrev pub made : Rules → ℕ → Activation Thread → Option Effect → State Thread → Moved Thread
made P c a None s = still s
made P c a (Some (effect.Wrote key value)) s = told (line_at c (kind.Write key value)) (keep s (written c key value))
made P c a (Some (effect.Full key)) s = told (line_at c (kind.Full key)) s
made P c a (Some (effect.Read key value)) s = told (line_at c (kind.Read key value)) s
made P c a (Some (effect.Sent channel bytes None)) s = told (line_at c (kind.Send channel bytes)) s
made P c a (Some (effect.Sent channel bytes (Some to))) s =
    then_lines (line_at c (kind.Send channel bytes) ∷ []) (arrive P to.0.number c (fresh to.1 bytes a.serves) s)
made P c a (Some (effect.Answered bytes)) s = then_lines (answer_lines P c a.serves bytes) (reply P c a.serves bytes s)
made P c a (Some (effect.Released gate bytes)) s = record (let_in P gate bytes s) { outs = Out gate bytes ∷ [] }

-- the thread goes on, with the lines and the effect that the call has
pub record Resumes (P : Rules) (m : Module) (c : ℕ) (a : Activation Thread) (s : State Thread) (called : Called Thread)
    (after : Rows) (sandbox : Sandbox) (effect : Option Effect) : Type 0 where
  pub lines : List Line
  pub does : Does
  pub is : called ≡ Resumed (thread_of m sandbox) lines does
  pub moved : then_lines lines (apply P c a does s) ≡ made P c a effect s
  pub rows : after ≡ rows_of (made P c a effect s).state.store
  pub ready : IsReady m sandbox

-- what comes of the call is what was performed, and these are the rows after it
abbrev pub Performs : Rules → Module → ℕ → Activation Thread → State Thread → Called Thread → Rows → Performed → Type 0
Performs P m c a s called rows (performed.Resume sandbox effect) = Resumes P m c a s called rows sandbox effect
Performs P m c a s called rows (performed.Raise sandbox l) =
    (called ≡ RaisedTo l.number (thread_of m sandbox)) × (rows ≡ rows_of s.store) × IsReady m sandbox
Performs P m c a s called rows (performed.Trapped trap) = (called ≡ Refused (cause_of_call trap)) × (rows ≡ rows_of s.store)

-- where a message goes, a label and a function below these counts, and its bytes within their limit
abbrev pub IsFitMessage : ℕ → ℕ → List ℕ → Option (Label × ℕ) → Type 0
IsFitMessage labels functions bytes None = Unit {0}
IsFitMessage labels functions bytes (Some to) = (to.0.number < labels) × (to.1 < functions) × (length bytes ≤ longest_value)

-- the labels and the function of a gate below these counts, and the bytes that pass it within their limit
abbrev pub IsFitRelease : ℕ → ℕ → Gate → List ℕ → Type 0
IsFitRelease labels functions gate bytes =
    (gate.source.number < labels) × (gate.target.number < labels) × (gate.function < functions) × (length bytes ≤ longest_value)

-- labels and functions below these counts, bytes within their limits
abbrev pub IsFitEffect : ℕ → ℕ → Option Effect → Type 0
IsFitEffect labels functions None = Unit {0}
IsFitEffect labels functions (Some (effect.Wrote key value)) = Unit {0}
IsFitEffect labels functions (Some (effect.Full key)) = Unit {0}
IsFitEffect labels functions (Some (effect.Read key value)) = Unit {0}
IsFitEffect labels functions (Some (effect.Sent channel bytes to)) = IsFitMessage labels functions bytes to
IsFitEffect labels functions (Some (effect.Answered bytes)) = Unit {0}
IsFitEffect labels functions (Some (effect.Released gate bytes)) = IsFitRelease labels functions gate bytes

abbrev pub IsFitPerformed : ℕ → ℕ → Performed → Type 0
IsFitPerformed labels functions (performed.Resume sandbox effect) = IsFitEffect labels functions effect
IsFitPerformed labels functions (performed.Raise sandbox l) = l.number < labels
IsFitPerformed labels functions (performed.Trapped trap) = Unit {0}

-- the guest that goes on is ready
abbrev pub IsReadyPerformed : Module → Performed → Type 0
IsReadyPerformed m (performed.Resume sandbox effect) = IsReady m sandbox
IsReadyPerformed m (performed.Raise sandbox l) = IsReady m sandbox
IsReadyPerformed m (performed.Trapped trap) = Unit {0}
