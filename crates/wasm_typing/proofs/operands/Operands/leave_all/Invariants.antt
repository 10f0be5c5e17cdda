use Rattle.std.proofs.Common.{take, length, true}
use Rattle.std.specs.Prelude.{reverse}
use Rattle.wasm_typing.specs.Operands.{Stand, Image, PutsOn}
use Rattle.wasm_typing.proofs.operands.Operands.leave_all.Given as goal

abbrev pub invariant-loop-val_type : goal.invariant-loop-val_type
invariant-loop-val_type l =
    (goal.iterator-loop-val_type).can_next l.val_type-iterator × (goal.iterator-loop-val_type).is_finite l.val_type-iterator
    × Image (PutsOn (reverse (take (length l.yielded) (reverse l.val_types)))) (Stand l.initial.self) (Stand l.self) true
