-- What a stack ends as, where a reference to its topmost item is handed out.
use Rattle.std.specs.Prelude.{List, Option, slice_set}
use Rattle.std.specs.Borrow.{LendsIf, Fml, RattleType, MutBor}
use Rattle.wasm_stack.specs.contracts.stack.Stack.{the_row}

-- once the borrow ends, the last value written is on top; at None the stack stays as it is
abbrev pub LendsTop : (T : RattleType) → MutBor (List T.Denot) → Option (MutBor T.Denot) → Fml
LendsTop T s r = LendsIf (the_row T) T s r (slice_set s.now 0) s.now
