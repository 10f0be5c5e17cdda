-- What an array of values holds for the frame between these marks.
use Rattle.std.specs.Prelude.{ℕ, ◌-◌, ◌≤◌, List, take, drop, reverse}
use Rattle.wasm_data.specs.declared.marks.Marks.{Marks}

-- the first local, the first operand and the first free place lie in this order in an array of this size
pub record AreInArray (marks : Marks) (size : ℕ) : Type 0 where
  pub locals : marks.base ≤ marks.floor
  pub operands : marks.floor ≤ marks.sp
  pub room : marks.sp ≤ size

-- the locals, in order
unfoldable pub locals_in : ℕ → ℕ → List ℕ → List ℕ
locals_in base floor values = take (floor - base) (drop base values)

-- the operands, topmost first
unfoldable pub operands_in : ℕ → ℕ → List ℕ → List ℕ
operands_in floor sp values = reverse (drop floor (take sp values))

-- the marks with the free places from here on
abbrev pub raised : Marks → ℕ → Marks
raised marks sp = record { base = marks.base; floor = marks.floor; sp = sp }
