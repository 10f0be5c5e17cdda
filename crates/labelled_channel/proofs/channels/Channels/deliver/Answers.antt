use Rattle.std.proofs.Common.{◌<◌, sym, ◌∙◌, nat_eq}
use Rattle.std.specs.Cmp.Lexicographic.{pointwise}
use Rattle.label_lattice.specs.Order.{count}
use Rattle.label_lattice.proofs.Tables.{lookup_all}
use Rattle.labelled_channel.proofs.channels.Channels.deliver.Goals as goal

pub flows-requires-clause-to : goal.flows-requires-clause-to
flows-requires-clause-to c = lookup_all (pointwise nat_eq c.args.name.now) (λ channel. channel.at.number < count c.args.lattice.now) c.args.self.now c.requires.labels c.in-Some.channel (sym c.channel_of.ensures.channel ∙ c.in-Some.is)
