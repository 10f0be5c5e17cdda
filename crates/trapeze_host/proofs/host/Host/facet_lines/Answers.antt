use Rattle.std.proofs.Common.{length, ap, ◌∙◌, subst}
use Rattle.trapeze_host.specs.Adding.{KeepsLabelled}
use Rattle.trapeze_host.proofs.Hosts.{facets_inside, labelled_inside}
use Rattle.trapeze_host.proofs.host.Host.facet_lines.Goals as goal

pub returns-clause-added : goal.returns-clause-added
returns-clause-added g c = λ s stands. facets_inside _ c.args.self.now c.self.view_is g.F.Facets.rows c.add_facets.result c.args.lines.now c.add_facets.new.lines s stands c.add_facets.ensures.added

pub returns-clause-labelled : goal.returns-clause-labelled
returns-clause-labelled g c = labelled_inside _ c.args.self.now c.self.view_is c.args.lines.now c.add_facets.new.lines
    (subst (λ n. KeepsLabelled n c.args.lines.now c.add_facets.new.lines) (ap length c.self.invariant.sound.stored ∙ c.self.invariant.sound.limited) c.add_facets.ensures.labelled)
