-- What stands under a name in a policy is within its counts.
use Rattle.std.proofs.Common.{ap, ◌≡◌, ℕ, ◌<◌, ◌≤◌, true, false, List, length, Option, Some, None, Ok, Err, refl, sym, subst, arith}
use Rattle.std.specs.Prelude.{All, IsTrue, nat_eq, if◌then◌else◌, ok_or}
use Rattle.std.specs.Cmp.Lexicographic.{pointwise}
use Rattle.std.proofs.lemmas.List.{length-take}
use Rattle.trapeze_io.specs.Names.{is_name}
use Rattle.trapeze_io.specs.Answers.{◌>>=◌}
use Rattle.label_lattice.specs.declared.label.Label.{Label}
use Rattle.label_lattice.specs.Order.{Order}
use Rattle.label_lattice.specs.Reach.{flows}
use Rattle.label_lattice.proofs.Tables.{lookup_all, no_value}
use Rattle.labelled_channel.specs.declared.channels.Channel.{Channel}
use Rattle.labelled_channel.specs.declared.channels.Delivery.{Delivery}
use Rattle.labelled_channel.specs.declared.channels.Delivery.TheVariants as delivery
use Rattle.labelled_channel.specs.Delivering.{channel_of, delivered, AreUnderNames}
use Rattle.gate_rules.specs.declared.filter.Filter.{Filter}
use Rattle.gate_rules.specs.declared.filter.Filter.TheVariants as filter
use Rattle.gate_rules.specs.declared.gate.Gate.{Gate}
use Rattle.gate_rules.specs.declared.gates.Passage.{Passage}
use Rattle.gate_rules.specs.declared.gates.Passage.TheVariants as passage
use Rattle.gate_rules.specs.Gates.{gate_of, filtered, passed}
use Rattle.policy_toml.specs.Channels.{IsChannel}
use Rattle.policy_toml.specs.Gates.{IsGate}
use Rattle.trapeze_lines.specs.declared.outcome.Cause.TheVariants.{Unknown}
use Rattle.host_rules.specs.Rules.{Rules, channel_named}
use Rattle.host_rules.specs.Wishes as wishes
use Rattle.shim_calls.specs.Performing.{IsFitRelease}
use Rattle.shim_calls.specs.Wished.{wished, sends}

-- where bytes are no name, no channel has them
pub unnamed : (P : Rules) (c : ℕ) (name bytes : List ℕ) → AreUnderNames P.channels → (IsTrue (is_name name) → ⊥) → wished P c (sends P name bytes) ≡ Err Unknown
unnamed P c name bytes under bad = ap (λ o. wished P c (ok_or o Unknown >>= (λ channel. Ok (wishes.Sends name channel bytes)))) (no_value name P.channels bad under)

abbrev IsFitDelivery : ℕ → ℕ → Delivery → Type 0
IsFitDelivery labels functions (delivery.Start label function) = (label.number < labels) × (function < functions)
IsFitDelivery labels functions delivery.Vanishes = Unit {0}
IsFitDelivery labels functions delivery.Unknown = Unit {0}

found_delivery : (labels functions c : ℕ) (order : Order) (o : Option Channel) → ((channel : Channel) → o ≡ Some channel → (channel.at.number < labels) × (channel.function < functions))
    → IsFitDelivery labels functions (delivered order c o)
found_delivery labels functions c order None h = tt
found_delivery labels functions c order (Some channel) h =
    elim (flows order c channel.at.number) as (λ b. IsFitDelivery labels functions (if b then delivery.Start channel.at channel.function else delivery.Vanishes)) [
      | true ↦ h channel refl
      | false ↦ tt
    ]

-- a channel of a policy leads to one of its functions at one of its labels
pub channel_is_fit : (labels functions c : ℕ) (order : Order) (name : List ℕ) (channels : List (List ℕ × Channel)) (label : Label) (function : ℕ) → All (IsChannel labels functions) channels
    → delivery.Start label function ≡ delivered order c (channel_of name channels) → (label.number < labels) × (function < functions)
channel_is_fit labels functions c order name channels label function all e =
    subst (IsFitDelivery labels functions) (sym e)
    (found_delivery labels functions c order (channel_of name channels) (λ channel found. lookup_all (pointwise nat_eq name) (λ (channel : Channel). (channel.at.number < labels) × (channel.function < functions)) channels all channel found))

filtered_few : (f : Filter) (bytes : List ℕ) → length bytes ≤ 65536 → length (filtered f bytes) ≤ 65536
filtered_few filter.All bytes few = few
filtered_few filter.Length bytes few = omega arith
filtered_few (filter.First count) bytes few = rw length-take (omega arith)

abbrev IsFitPassage : ℕ → ℕ → Passage → Type 0
IsFitPassage labels functions (passage.Pass gate bytes) = IsFitRelease labels functions gate bytes
IsFitPassage labels functions passage.Vanishes = Unit {0}
IsFitPassage labels functions passage.Unknown = Unit {0}

abbrev IsFitGate : ℕ → ℕ → Gate → Type 0
IsFitGate labels functions gate = (gate.source.number < labels) × (gate.target.number < labels) × (gate.function < functions)

found_passage : (labels functions c : ℕ) (order : Order) (bytes : List ℕ) (o : Option Gate) → length bytes ≤ 65536 → ((gate : Gate) → o ≡ Some gate → IsFitGate labels functions gate)
    → IsFitPassage labels functions (passed order c bytes o)
found_passage labels functions c order bytes None few h = tt
found_passage labels functions c order bytes (Some gate) few h =
    elim (flows order c gate.source.number) as (λ b. IsFitPassage labels functions (if b then passage.Pass gate (filtered gate.filter bytes) else passage.Vanishes)) [
      | true ↦ let g : IsFitGate labels functions gate = h gate refl in (g.0, g.1, g.2, filtered_few gate.filter bytes few)
      | false ↦ tt
    ]

-- a gate of a policy leads to one of its functions between its labels, and few bytes pass it
pub gate_is_fit : (labels functions c : ℕ) (order : Order) (name bytes passing : List ℕ) (gates : List (List ℕ × Gate)) (gate : Gate) → length bytes ≤ 65536 → All (IsGate labels functions) gates
    → passage.Pass gate passing ≡ passed order c bytes (gate_of name gates) → IsFitRelease labels functions gate passing
gate_is_fit labels functions c order name bytes passing gates gate few all e =
    subst (IsFitPassage labels functions) (sym e)
    (found_passage labels functions c order bytes (gate_of name gates) few (λ gate found. lookup_all (pointwise nat_eq name) (IsFitGate labels functions) gates all gate found))
