use Rattle.trapeze_io.proofs.Appended.{OnErr-always, less_of_pieces}
use Rattle.trapeze_io.proofs.in_pieces.write_pieces.Goals as goal

pub returns-in_err-write_whole-clause-part : goal.returns-in_err-write_whole-clause-part
returns-in_err-write_whole-clause-part g c =
    OnErr-always c.from_residual.result
    (less_of_pieces _ _ _ (λ piece. piece.now) c.args.pieces.now c.pieces.piece-index _ c.pieces-test.true c.pieces.invariant.0 c.in_err-write_whole.ensures.part)
