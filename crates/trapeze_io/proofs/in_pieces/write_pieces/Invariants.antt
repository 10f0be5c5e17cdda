use Rattle.std.proofs.Common.{◌≤◌, take}
use Rattle.std.specs.List.{flat_map}
use Rattle.trapeze_io.specs.Appends.{AppendsAll}
use Rattle.trapeze_io.proofs.in_pieces.write_pieces.Given as goal

-- the pieces so far are written, and the count did not fall
abbrev pub invariant-pieces : goal.invariant-pieces
invariant-pieces g l =
    AppendsAll (flat_map (λ piece. piece.now) (take l.piece-index l.pieces)) (g.S.Sink.written l.fn.sink) (g.S.Sink.written l.sink)
    × (g.S.Sink.faults l.fn.sink ≤ g.S.Sink.faults l.sink)
