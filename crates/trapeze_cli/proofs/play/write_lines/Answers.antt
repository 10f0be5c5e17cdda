use Rattle.trapeze_cli.proofs.Playing.{err_is}
use Rattle.trapeze_cli.proofs.ToldLines.{told_all, told_less}
use Rattle.trapeze_cli.proofs.play.write_lines.Goals as goal

pub returns-in_err-write_whole-clause-lines : goal.returns-in_err-write_whole-clause-lines
returns-in_err-write_whole-clause-lines g c =
    rw (err_is _ _ c.from_residual-in_err-write_whole.ensures.1)
    (told_less c.args.scene.now.policy.now c.args.scene.now.shown c.args.lines.now _ _ _ _ c.clear.ensures c.in_ok-tell.ensures (rw c.as_slice.ensures at c.in_err-write_whole.ensures.part))

pub returns-clause-lines : goal.returns-clause-lines
returns-clause-lines g c =
    told_all c.args.scene.now.policy.now c.args.scene.now.shown c.args.lines.now _ _ _ _ c.clear.ensures c.in_ok-tell.ensures (rw c.as_slice.ensures at c.in_ok-write_whole.ensures.all)
