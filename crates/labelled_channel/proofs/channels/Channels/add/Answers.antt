use Rattle.std.proofs.Common.{◌≡◌, [], ◌∷◌, ◌++◌, None, ◌∙◌, ap}
use Rattle.label_lattice.proofs.Tables.{inserted_last, inserted_named, named_apart}
use Rattle.labelled_channel.specs.Delivering.{channel_of}
use Rattle.labelled_channel.specs.declared.channels.Channel.{Channel}
use Rattle.labelled_channel.proofs.channels.Channels.add.Goals as goal
use Rattle.labelled_channel.proofs.channels.Channels.add.Goals.{in-Ok, in-Err}

pub invariant_of-self : goal.invariant_of-self
invariant_of-self c =
    let channel : Channel = record { at = c.args.at; function = c.args.function } in
    let fresh : channel_of c.args.name c.self.inside.channels.entries ≡ None = ap (channel_of c.args.name) c.self.view_is ∙ c.requires.fresh in (
      named_apart c.insert.new.self.entries c.insert.ensures.unique,
      inserted_named c.self.inside.channels c.args.name channel fresh c.insert.result c.insert.new.self.entries c.self.invariant.1 c.as_bytes-bytes.ensures.named c.insert.ensures.entries c.insert.ensures.err,
    )

pub returns-clause-ok : goal.returns-clause-ok
returns-clause-ok c = elim c.match-insert.branch [
  | in-Ok w ↦ rw w.result-is (
      let channel : Channel = record { at = c.args.at; function = c.args.function } in
      let fresh : channel_of c.args.name c.self.inside.channels.entries ≡ None = ap (channel_of c.args.name) c.self.view_is ∙ c.requires.fresh in
      w.in-Ok.ensures.entries ∙ inserted_last c.self.inside.channels c.args.name channel fresh ∙ ap (λ channels. channels ++ (c.args.name, channel) ∷ []) c.self.view_is)
  | in-Err w ↦ rw w.result-is tt
]
