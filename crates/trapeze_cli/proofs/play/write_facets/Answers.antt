use Rattle.trapeze_host.specs.Standing.{modules_lent}
use Rattle.trapeze_cli.proofs.Playing.{err_is}
use Rattle.trapeze_io.proofs.Appended.{prefix_none}
use Rattle.trapeze_cli.proofs.ToldLines.{facets_told, all_labelled}
use Rattle.trapeze_cli.proofs.play.write_facets.Goals as goal

pub returns-in_err-facet_lines-clause-lines : goal.returns-in_err-facet_lines-clause-lines
returns-in_err-facet_lines-clause-lines g c = λ s is. rw (err_is _ _ c.from_residual.ensures.1) (prefix_none _ _)

pub write_lines-requires-clause-labelled : goal.write_lines-requires-clause-labelled
write_lines-requires-clause-labelled g c =
    all_labelled c.args.scene.now.policy.now _ _ _ c.requires.can.is_lent c.new-lines.ensures (rw c.as_slice.ensures c.in_ok-facet_lines.ensures.labelled)

pub returns-clause-lines : goal.returns-clause-lines
returns-clause-lines g c = λ s is.
    facets_told c.args.scene.now.policy.now (modules_lent c.args.host.now) c.args.scene.now.shown s _ c.facet_lines.new.lines c.write_lines.result _ _ c.new-lines.ensures
    (c.in_ok-facet_lines.ensures.added s is) (rw c.as_slice.ensures at c.write_lines.ensures.lines)
