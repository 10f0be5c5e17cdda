use Rattle.std.proofs.Common.{◌<◌, ℕ, List, sym, ap, ◌∙◌, subst, length, get_or}
use Rattle.std.specs.Prelude.{All, []}
use Rattle.labelled_channel.specs.declared.channels.Channel.{Channel}
use Rattle.labelled_channel.specs.Delivering.{channel_of, delivered}
use Rattle.label_lattice.specs.Order.{count, Order}
use Rattle.policy_toml.specs.Channels.{IsChannel}
use Rattle.flow_check.proofs.Deciding.{reached, sent_start}
use Rattle.std.proofs.lemmas.List.{get_or_default}
use Rattle.flow_check.proofs.last.sent.Goals as goal

-- the function is one of the policy's
pub bounds-functions-function : goal.bounds-functions-function
bounds-functions-function c =
    let n = length c.args.policy.now.functions in
    let channels = c.channels.result.now in
    let labels = count c.args.policy.now.lattice in
    let all : All (IsChannel labels n) channels = subst (All (IsChannel labels n)) (sym c.channels.ensures.channels) c.channels.ensures.policy.channels in
    subst (λ (names : List (List ℕ)). c.in-Start.function < length names) (sym c.functions.ensures.functions)
    (reached labels n c.lattice.result.now c.args.from.number c.as_bytes.result.now channels c.in-Start.to c.in-Start.function all c.in-Start.ensures.delivered)

-- and the same once it is looked up
bounds : (c : goal.After-index-functions-function) → c.in-Start.function < length c.functions.result.now
bounds c =
    let n = length c.args.policy.now.functions in
    let channels = c.channels.result.now in
    let labels = count c.args.policy.now.lattice in
    let all : All (IsChannel labels n) channels = subst (All (IsChannel labels n)) (sym c.channels.ensures.channels) c.channels.ensures.policy.channels in
    subst (λ (names : List (List ℕ)). c.in-Start.function < length names) (sym c.functions.ensures.functions)
    (reached labels n c.lattice.result.now c.args.from.number c.as_bytes.result.now channels c.in-Start.to c.in-Start.function all c.in-Start.ensures.delivered)

pub returns-in-Start-clause-kept : goal.returns-in-Start-clause-kept
returns-in-Start-clause-kept c =
    let names = c.functions.result.now in
    sent_start c.args.policy.now c.args.from (channel_of c.args.channel.now c.args.policy.now.channels) c.in-Start.to c.in-Start.function c.index-functions-function.result
    (c.index-functions-function.is ∙ get_or_default names c.in-Start.function c.index-functions-function.result [] (bounds c) ∙ ap (λ (xs : List (List ℕ)). get_or xs c.in-Start.function []) c.functions.ensures.functions)
    (c.in-Start.ensures.delivered ∙ ap (λ (o : Order). delivered o c.args.from.number (channel_of c.as_bytes.result.now c.channels.result.now)) c.lattice.ensures.lattice
    ∙ ap (λ (name : List ℕ). delivered c.args.policy.now.lattice c.args.from.number (channel_of name c.channels.result.now)) c.as_bytes.ensures.value
    ∙ ap (λ (channels : List (List ℕ × Channel)). delivered c.args.policy.now.lattice c.args.from.number (channel_of c.args.channel.now channels)) c.channels.ensures.channels)
