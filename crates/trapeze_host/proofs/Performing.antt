-- A host call that was performed: its write is in the store already.
use Rattle.std.proofs.Common.{◌≡◌, ℕ, true, false, cond, List, length, Option, Some, None, refl, ◌∙◌, ap}
use Rattle.std.specs.Prelude.{nat_lt, ◌&&◌, not}
use Rattle.facet_list.specs.Rows.{Rows, rows_of}
use Rattle.trapeze_lines.specs.declared.line.Kind.TheVariants as kind
use Rattle.trapeze_lines.specs.Lines.{line_at}
use Rattle.wasm_semantics.specs.Threads.{Thread}
use Rattle.host_rules.specs.Rules.{Rules, label_of, limits_at, function_name, client_name, clearance}
use Rattle.host_rules.specs.States.{Activation, Serving, State, Moved, fresh, still, told, push, answer, id_of}
use Rattle.host_rules.specs.Effects.{arrive, reply}
use Rattle.label_lattice.specs.declared.label.Label.{Label}
use Rattle.shim_calls.specs.declared.effect.Effect.TheVariants as effect
use Rattle.shim_calls.specs.Performing.{made}
use Rattle.trapeze_host.specs.declared.kept.Kept.{Kept}
use Rattle.trapeze_host.specs.Loans.{Loan}
use Rattle.trapeze_host.specs.Keeping.{Keeps, IsWritten}

-- an arrival makes no write
pub arrive_store : (P : Rules) (l m : ℕ) (a : Activation Thread) (s : State Thread) → (arrive P l m a s).state.store ≡ s.store
arrive_store P l m a s = elim (nat_lt (length (s.lists l)) (limits_at P l).queue) as (λ b. (cond b (told (line_at l (kind.Start (label_of m) (function_name P a.function) (id_of a))) (push s l (record a { used = 0 })))
    (told (line_at l (kind.Dropped (function_name P a.function) (id_of a))) s)).state.store ≡ s.store) [ true ↦ refl | false ↦ refl ]

-- nor does a reply
pub reply_store : (P : Rules) (c : ℕ) (serves : Option Serving) (bytes : List ℕ) (s : State Thread) → (reply P c serves bytes s).state.store ≡ s.store
reply_store P c None bytes s = refl
reply_store P c (Some x) bytes s = elim (P.flows c (clearance P x.client) && not (s.answered x.request)) as (λ b. (cond b
    (told (line_at (clearance P x.client) (kind.Reply (client_name P x.client) x.id bytes)) (answer s x.request)) (still s)).state.store ≡ s.store) [ true ↦ refl | false ↦ refl ]

-- where the move makes no write, what is kept stands for the state
pub keeps_unwritten : {F : Type 0} (rows : F → Rows) (loan : Loan) (k : Kept F) (s : State Thread) (m : Moved Thread) → IsWritten rows loan k s m → m.state.store ≡ s.store → Keeps rows loan k s
keeps_unwritten rows loan k s m w e = record { store = w.store ∙ ap rows_of e; state = w.state }

-- nor does a message
pub sent_store : (P : Rules) (c : ℕ) (a : Activation Thread) (channel bytes : List ℕ) (to : Option (Label × ℕ)) (s : State Thread)
    → (made P c a (Some (effect.Sent channel bytes to)) s).state.store ≡ s.store
sent_store P c a channel bytes None s = refl
sent_store P c a channel bytes (Some to) s = arrive_store P to.0.number c (fresh to.1 bytes a.serves) s
