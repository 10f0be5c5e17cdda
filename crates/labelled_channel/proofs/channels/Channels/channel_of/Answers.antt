use Rattle.std.proofs.Common.{◌∙◌, ap, sym}
use Rattle.label_lattice.proofs.Tables.{found_value, no_value}
use Rattle.labelled_channel.specs.Delivering.{channel_of}
use Rattle.labelled_channel.proofs.channels.Channels.channel_of.Goals as goal

pub returns-in_err-name-clause-channel : goal.returns-in_err-name-clause-channel
returns-in_err-name-clause-channel c = c.from_residual.ensures ∙ sym (no_value c.args.name.now c.self.inside.channels.entries c.in_err-name.ensures c.self.invariant.1) ∙ ap (channel_of c.args.name.now) c.self.view_is

pub returns-clause-channel : goal.returns-clause-channel
returns-clause-channel c =
    c.copied.ensures ∙ c.get.ensures.value ∙ found_value c.in_ok-name.name c.self.inside.channels.entries
    ∙ ap (λ name. channel_of name c.self.inside.channels.entries) c.in_ok-name.ensures.1 ∙ ap (channel_of c.args.name.now) c.self.view_is
