-- A wish of the rules, from the one that the code has.
use Rattle.std.proofs.Common.{◌≡◌, ℕ, true, false, List, Some, None, Result, Ok, Err, refl, sym, ap, ◌∙◌, subst}
use Rattle.std.specs.Prelude.{if◌then◌else◌}
use Rattle.gate_rules.specs.Gates.{filtered}
use Rattle.gate_rules.specs.declared.gate.Gate.{Gate}
use Rattle.labelled_channel.specs.declared.channels.Channel.{Channel}
use Rattle.trapeze_lines.specs.declared.outcome.Cause.{Cause}
use Rattle.host_rules.specs.Rules.{Rules}
use Rattle.host_rules.specs.Wishes as wishes
use Rattle.shim_calls.specs.declared.wish.Wish.{Wish}
use Rattle.shim_calls.specs.declared.wish.Wish.TheVariants as asks
use Rattle.shim_calls.specs.Wished.{shown, wished}

-- where a wish of the code is one that is shown, the wish of the rules is this
abbrev pub Means : Rules → ℕ → Wish → wishes.Wish → Type 0
Means P c (asks.Input at cap) x = x ≡ wishes.Inputs at cap
Means P c (asks.Read key at cap) x = x ≡ wishes.Reads key at cap
Means P c (asks.Write key value) x = x ≡ wishes.Writes key value
Means P c (asks.Send name bytes to) x =
    (channel : Channel) × (x ≡ wishes.Sends name channel bytes) × (to ≡ (if P.flows c channel.at.number then Some (channel.at, channel.function) else None))
Means P c (asks.Raise label) x = x ≡ wishes.Raises label.number
Means P c (asks.Reply bytes) x = x ≡ wishes.Replies bytes
Means P c (asks.OwnLabel at cap) x = x ≡ wishes.OwnLabels at cap
Means P c (asks.Release gate bytes) x = (all : List ℕ) × (x ≡ wishes.Releases gate all) × (P.flows c gate.source.number ≡ true) × (bytes ≡ filtered gate.filter all)
Means P c asks.Nothing x = (gate : Gate) × (all : List ℕ) × (x ≡ wishes.Releases gate all) × (P.flows c gate.source.number ≡ false)

means_shown : (P : Rules) (c : ℕ) (x : wishes.Wish) → Means P c (shown P c x) x
means_shown P c (wishes.Inputs at cap) = refl
means_shown P c (wishes.Reads key at cap) = refl
means_shown P c (wishes.Writes key value) = refl
means_shown P c (wishes.Sends name channel bytes) = (channel, refl, refl)
means_shown P c (wishes.Raises l) = refl
means_shown P c (wishes.Replies bytes) = refl
means_shown P c (wishes.OwnLabels at cap) = refl
means_shown P c (wishes.Releases gate bytes) =
    elim (P.flows c gate.source.number) as (λ b. P.flows c gate.source.number ≡ b → Means P c (if b then asks.Release gate (filtered gate.filter bytes) else asks.Nothing) (wishes.Releases gate bytes)) [
      | true ↦ λ flows. (bytes, refl, flows, refl)
      | false ↦ λ flows. (gate, bytes, refl, flows)
    ] refl

pub means : (P : Rules) (c : ℕ) (w v : Wish) (x : wishes.Wish) → w ≡ v → w ≡ shown P c x → Means P c v x
means P c w v x is e = subst (λ w. Means P c w x) (sym e ∙ is) (means_shown P c x)

-- what was read is a wish of the rules, and what the code has is that wish shown
pub was_read : (P : Rules) (c : ℕ) (read : Result wishes.Wish Cause) (w : Wish) → wished P c read ≡ Ok w → (x : wishes.Wish) × (read ≡ Ok x) × (w ≡ shown P c x)
was_read P c (Ok x) w e = (x, refl, cc)
was_read P c (Err cause) w e = absurd (let k : Err cause ≡ Ok w = e in cc)

-- what was refused for a cause, the rules refuse for that cause
pub was_refused : (P : Rules) (c : ℕ) (read : Result wishes.Wish Cause) (cause : Cause) → wished P c read ≡ Err cause → read ≡ Err cause
was_refused P c (Ok x) cause e = absurd (let k : Ok (shown P c x) ≡ Err cause = e in cc)
was_refused P c (Err other) cause e = let same : other ≡ cause = cc in ap Err same
