-- Messages, replies and releases that were granted.
use Rattle.std.proofs.Common.{◌≡◌, ℕ, Bool, true, false, nat_lt, List, [], ◌∷◌, length, Option, Some, None, refl, sym, ◌∙◌, ap, subst}
use Rattle.std.specs.Prelude.{if◌then◌else◌, not, ◌&&◌}
use Rattle.facet_list.specs.Rows.{Rows, rows_of}
use Rattle.label_lattice.specs.declared.label.Label.{Label}
use Rattle.gate_rules.specs.declared.gate.Gate.{Gate}
use Rattle.gate_rules.specs.Gates.{filtered}
use Rattle.labelled_channel.specs.declared.channels.Channel.{Channel}
use Rattle.trapeze_lines.specs.declared.line.Kind.TheVariants as kind
use Rattle.trapeze_lines.specs.Lines.{line_at}
use Rattle.wasm_ast.specs.declared.modules.Module.{Module}
use Rattle.wasm_semantics.specs.Threads.{Thread}
use Rattle.wasm_semantics.specs.Units.{answered}
use Rattle.sandbox.specs.declared.sandboxes.Sandbox.{Sandbox}
use Rattle.sandbox.specs.Threads.{thread_of, IsReady}
use Rattle.host_rules.specs.Rules.{Rules, limits_at, clearance}
use Rattle.host_rules.specs.States.{Activation, Serving, State, Moved, Out, fresh, still, then_lines}
use Rattle.host_rules.specs.Calls.{AMessage, AReply, ARelease, answer_lines, granted}
use Rattle.host_rules.specs.Effects.{arrive, reply, let_in}
use Rattle.host_rules.specs.Modules.{guest_of}
use Rattle.host_rules.specs.Wishes as wishes
use Rattle.shim_calls.specs.declared.effect.Effect.TheVariants as effect
use Rattle.shim_calls.specs.declared.wish.Wish.TheVariants as asks
use Rattle.shim_calls.specs.Performing.{made, Resumes}
use Rattle.shim_calls.proofs.ShownWishes.{Means}
use Rattle.shim_calls.proofs.Resuming.{resumed}

either : {A : Type 0} (Q : A → Type 0) (b : Bool) (x y : A) → Q x → Q y → Q (if b then x else y)
either Q true x y h k = h
either Q false x y h k = k

-- an arrival and a reply keep the writes
arrive_keeps : (P : Rules) (l m : ℕ) (a : Activation Thread) (s : State Thread) → s.store ≡ (arrive P l m a s).state.store
arrive_keeps P l m a s = either (λ (moved : Moved Thread). s.store ≡ moved.state.store) (nat_lt (length (s.lists l)) (limits_at P l).queue) _ _ refl refl

reply_keeps : (P : Rules) (c : ℕ) (serves : Option Serving) (bytes : List ℕ) (s : State Thread) → s.store ≡ (reply P c serves bytes s).state.store
reply_keeps P c None bytes s = refl
reply_keeps P c (Some x) bytes s = either (λ (moved : Moved Thread). s.store ≡ moved.state.store) (P.flows c (clearance P x.client) && not (s.answered x.request)) _ _ refl refl

module _ (P : Rules) (m : Module) (modules : List Module) (c : ℕ) (a : Activation Thread) (s : State Thread) (t : Thread) (rows : Rows) (sandbox : Sandbox) where
  -- a message, which starts an activation or vanishes
  pub sent_on : (name bytes : List ℕ) (to : Option (Label × ℕ)) (x : wishes.Wish) → Means P c (asks.Send name bytes to) x → thread_of m sandbox ≡ answered t None → IsReady m sandbox → rows ≡ rows_of s.store
      → Resumes P m c a s (granted P (guest_of modules) c a s.store t x) rows sandbox (Some (effect.Sent name bytes to))
  sent_on name bytes to x means thread ready stored =
      let channel : Channel = means.0 in
      let line = line_at c (kind.Send name bytes) in
      let start = arrive P channel.at.number c (fresh channel.function bytes a.serves) s in
      let way = λ (b : Bool). (let to : Option (Label × ℕ) = if b then Some (channel.at, channel.function) else None in to) in
      let moved : then_lines (line ∷ []) (if P.flows c channel.at.number then start else still s) ≡ made P c a (Some (effect.Sent name bytes (way (P.flows c channel.at.number)))) s =
      elim (P.flows c channel.at.number) as (λ b. then_lines (line ∷ []) (if b then start else still s) ≡ made P c a (Some (effect.Sent name bytes (way b))) s) [ true ↦ refl | false ↦ refl ] in
      let kept : s.store ≡ (made P c a (Some (effect.Sent name bytes (way (P.flows c channel.at.number)))) s).state.store =
      elim (P.flows c channel.at.number) as (λ b. s.store ≡ (made P c a (Some (effect.Sent name bytes (way b))) s).state.store) [ true ↦ arrive_keeps P channel.at.number c (fresh channel.function bytes a.serves) s | false ↦ refl ] in
      subst (λ x. Resumes P m c a s (granted P (guest_of modules) c a s.store t x) rows sandbox (Some (effect.Sent name bytes to))) (sym means.1)
      (subst (λ to. Resumes P m c a s (granted P (guest_of modules) c a s.store t (wishes.Sends name channel bytes)) rows sandbox (Some (effect.Sent name bytes to))) (sym means.2)
      (resumed P m modules c a s t rows sandbox None (line ∷ []) (AMessage channel bytes) (Some (effect.Sent name bytes (way (P.flows c channel.at.number)))) thread ready moved (stored ∙ ap rows_of kept)))

  -- a reply
  pub replied : (bytes : List ℕ) (x : wishes.Wish) → x ≡ wishes.Replies bytes → thread_of m sandbox ≡ answered t None → IsReady m sandbox → rows ≡ rows_of s.store
      → Resumes P m c a s (granted P (guest_of modules) c a s.store t x) rows sandbox (Some (effect.Answered bytes))
  replied bytes x is thread ready stored =
      subst (λ x. Resumes P m c a s (granted P (guest_of modules) c a s.store t x) rows sandbox (Some (effect.Answered bytes))) (sym is)
      (resumed P m modules c a s t rows sandbox None (answer_lines P c a.serves bytes) (AReply bytes) (Some (effect.Answered bytes)) thread ready refl (stored ∙ ap rows_of (reply_keeps P c a.serves bytes s)))

  -- a release that passes its gate
  pub released_on : (gate : Gate) (bytes : List ℕ) (x : wishes.Wish) → Means P c (asks.Release gate bytes) x → thread_of m sandbox ≡ answered t None → IsReady m sandbox → rows ≡ rows_of s.store
      → Resumes P m c a s (granted P (guest_of modules) c a s.store t x) rows sandbox (Some (effect.Released gate bytes))
  released_on gate bytes x means thread ready stored =
      let passing = filtered gate.filter means.0 in
      let out = record (let_in P gate passing s) { outs = Out gate passing ∷ [] } in
      subst (λ x. Resumes P m c a s (granted P (guest_of modules) c a s.store t x) rows sandbox (Some (effect.Released gate bytes))) (sym means.1)
      (subst (λ bytes. Resumes P m c a s (granted P (guest_of modules) c a s.store t (wishes.Releases gate means.0)) rows sandbox (Some (effect.Released gate bytes))) (sym means.3)
      (resumed P m modules c a s t rows sandbox None [] (ARelease gate passing) (Some (effect.Released gate passing)) thread ready
      (ap (λ b. then_lines [] (if b then out else still s)) means.2) (stored ∙ ap rows_of (arrive_keeps P gate.target.number gate.source.number (fresh gate.function passing None) s))))

  -- a release that vanishes
  pub vanished : (x : wishes.Wish) → Means P c asks.Nothing x → thread_of m sandbox ≡ answered t None → IsReady m sandbox → rows ≡ rows_of s.store
      → Resumes P m c a s (granted P (guest_of modules) c a s.store t x) rows sandbox None
  vanished x means thread ready stored =
      let gate : Gate = means.0 in
      let passing = filtered gate.filter means.1 in
      let out = record (let_in P gate passing s) { outs = Out gate passing ∷ [] } in
      subst (λ x. Resumes P m c a s (granted P (guest_of modules) c a s.store t x) rows sandbox None) (sym means.2)
      (resumed P m modules c a s t rows sandbox None [] (ARelease gate passing) None thread ready (ap (λ b. then_lines [] (if b then out else still s)) means.3) stored)
