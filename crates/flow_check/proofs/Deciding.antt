-- From what is kept of the lines to what the rules say of them.
use Rattle.std.proofs.Common.{◌≡◌, ℕ, ◌<◌, Bool, true, false, List, Option, Some, None, cond, refl, sym, ◌∙◌, ap, subst, arith}
use Rattle.std.specs.Prelude.{IfSome}
use Rattle.std.specs.Bool.{Decides}
use Rattle.label_lattice.specs.Order.{Order}
use Rattle.label_lattice.specs.Reach.{flows}
use Rattle.labelled_channel.specs.declared.channels.Channel.{Channel}
use Rattle.labelled_channel.specs.declared.channels.Delivery.TheVariants.{Start, Vanishes}
use Rattle.std.specs.Prelude.{All, nat_eq}
use Rattle.std.specs.Cmp.Lexicographic.{pointwise}
use Rattle.std.proofs.lemmas.Map.Entries.{All-lookup}
use Rattle.std.proofs.lemmas.List.Elements.{All-weaker}
use Rattle.policy_toml.specs.Channels.{IsChannel}
use Rattle.labelled_channel.specs.Delivering.{channel_of, delivered}
use Rattle.label_lattice.specs.declared.label.Label.{Label}
use Rattle.facet_list.specs.Store.{last_at}
use Rattle.facet_list.specs.Rows.{Rows, rows_of, row_of, read_row, facet_at}
use Rattle.facet_list.proofs.RowLaws.{read_rows_of}
use Rattle.facet_list.proofs.RowFacets.{last_of}
use Rattle.trapeze_lines.specs.declared.line.Line.{Line}
use Rattle.policy_toml.specs.Parts.{Parts}
use Rattle.host_rules.specs.Rules.{Rules, label_of, function_name}
use Rattle.host_rules.specs.Policies.{rules_of}
use Rattle.host_rules.specs.Stores.{read}
use Rattle.flow_check.specs.declared.last.Last.TheVariants as last
use Rattle.flow_check.specs.Kept.{sent}
use Rattle.trapeze_lines.specs.declared.line.Kind.{Kind}
use Rattle.std.proofs.lemmas.Bool.Decides.{not_from_Decides}
use Rattle.flow_check.specs.declared.verdict.Rule.{Rule}
use Rattle.flow_check.specs.Verdicts.{rule_of, IsFault}
use Rattle.flow_check.specs.Sound.{writes_in, Passes}

-- the rows tell what is read, and what was written last
pub decides_read : (b : Bool) (P : Rules) (l : ℕ) (key : List ℕ) (value : Option (List ℕ)) (rows : Rows) (before : List Line) → rows ≡ rows_of (writes_in before)
    → Decides b (value ≡ read_row P.flows l (row_of rows key)) → Decides b (value ≡ read P l key (writes_in before))
decides_read b P l key value rows before e d =
    subst (λ v. Decides b (value ≡ v)) (ap (λ r. read_row P.flows l (row_of r key)) e ∙ read_rows_of P.flows l key (writes_in before)) d

pub decides_last : (b : Bool) (l : ℕ) (key : List ℕ) (value : Option (List ℕ)) (rows : Rows) (before : List Line) → rows ≡ rows_of (writes_in before)
    → Decides b (facet_at rows (key, l) ≡ Some value) → Decides b (last_at (key, l) (writes_in before) ≡ Some value)
decides_last b l key value rows before e d =
    subst (λ (v : Option (Option (List ℕ))). Decides b (v ≡ Some value)) (ap (λ r. facet_at r (key, l)) e ∙ last_of (writes_in before) (key, l)) d

-- what is kept of a message that arrives
pub sent_start : (parts : Parts) (from : Label) (o : Option Channel) (to : Label) (f : ℕ) (name : List ℕ) → name ≡ function_name (rules_of parts) f
    → Start to f ≡ delivered parts.lattice from.number o → last.Sent from to name ≡ sent (rules_of parts) from.number o
sent_start parts from None to f name is e = cc
sent_start parts from (Some channel) to f name is e = elim (flows parts.lattice from.number channel.at.number) as (λ b. Start to f ≡ cond b (Start channel.at channel.function) Vanishes
    → last.Sent from to name ≡ cond b (last.Sent (label_of from.number) channel.at (function_name (rules_of parts) channel.function)) last.Other) [
      | true ↦ λ e. (let same : f ≡ channel.function = cc in let there : to ≡ channel.at = cc in
          ap (λ t. last.Sent from t name) there ∙ ap (last.Sent from channel.at) (is ∙ ap (function_name (rules_of parts)) same))
      | false ↦ λ e. cc
    ] e

-- the channel that is reached
started : (n : ℕ) (order : Order) (at : ℕ) (o : Option Channel) (to : Label) (f : ℕ) → IfSome o (λ channel. channel.function < n) → Start to f ≡ delivered order at o → f < n
started n order at None to f h e = cc
started n order at (Some channel) to f h e = starts (flows order at channel.at.number) e
  where
    starts : (b : Bool) → Start to f ≡ cond b (Start channel.at channel.function) Vanishes → f < n
    starts true e = (let same : f ≡ channel.function = cc in omega arith)
    starts false e = cc

pub reached : (labels n : ℕ) (order : Order) (at : ℕ) (name : List ℕ) (channels : List (List ℕ × Channel)) (to : Label) (f : ℕ) → All (IsChannel labels n) channels
    → Start to f ≡ delivered order at (channel_of name channels) → f < n
reached labels n order at name channels to f all e = started n order at (channel_of name channels) to f
    (All-lookup (λ (channel : Channel). channel.function < n) (pointwise nat_eq name) channels (All-weaker (IsChannel labels n) (λ (e : List ℕ × Channel). e.1.function < n) (λ e h. h.1) channels all)) e

-- a test of the rule tells whether it is broken
pub fault_from : (P : Rules) (before : List Line) (line : Line) (rule : Rule) (k : Kind) (b : Bool) (found : Option Rule) → line.kind ≡ k → rule_of k ≡ Some rule
    → Decides b (Passes P before line.label.number k None) → found ≡ cond b None (Some rule) → IsFault P before line found
fault_from P before line rule k b found e r d f = subst (IsFault P before line) (sym f) (chosen b (subst (λ k. Decides b (Passes P before line.label.number k None)) (sym e) d))
  where
    chosen : (b : Bool) → Decides b (Passes P before line.label.number line.kind None) → IsFault P before line (cond b None (Some rule))
    chosen true d = d.0 refl
    chosen false d = (ap rule_of e ∙ r, not_from_Decides false d refl)
