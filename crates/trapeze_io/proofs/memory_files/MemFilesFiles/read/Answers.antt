use Rattle.std.proofs.Common.{ℕ, arith, length-drop, length-append}
use Rattle.trapeze_io.specs.Places.{bytes_at}
use Rattle.trapeze_io.proofs.Pieces.{piece_read}
use Rattle.trapeze_io.proofs.memory_files.MemFilesFiles.read.Goals as goal

pub returns-clause-bytes : goal.returns-clause-bytes
returns-clause-bytes c =
    let xs = bytes_at c.self.inside.held.items c.self.inside.current in
    let at = c.self.inside.at in
    let room = rw (c.left-rest.ensures.rest, c.deref.ensures.value, length-drop at xs) at c.min.ensures in
    rw (← c.self.view_is)
    (piece_read xs c.copy_from_slice.new.self c.args.buf.now at c.min-count.result
    (rw (c.left-rest.ensures.rest, c.deref.ensures.value) at c.copy_from_slice.ensures.after)
    (omega (arith, room, c.min-count.ensures, c.self.invariant.0.given))
    (λ z h. omega (arith, room, c.min-count.ensures, z, h, c.most.ensures.some, length-append {A = ℕ}, length-drop {A = ℕ}, c.copy_from_slice.ensures.len)))
