-- What an observer sees of lists of lines.
use Rattle.std.specs.Prelude.{◌≡◌, ℕ, Bool, List, true, ◌++◌}
use Rattle.label_lattice.specs.Order.{Order}
use Rattle.label_lattice.specs.Reach.{flows}
use Rattle.label_lattice.specs.Sound.{IsSound}
use Rattle.trapeze_lines.specs.declared.line.Line.{Line}
use Rattle.trapeze_lines.specs.Lines.{visible, run_kinds}

-- of what o sees, o sees all
abbrev pub IsSeenAgain : Type 0
IsSeenAgain = (f : ℕ → ℕ → Bool) (o : ℕ) (lines : List Line) → visible f o (visible f o lines) ≡ visible f o lines

-- p sees the same of what o sees as of all lines, and o sees all that p sees
pub record SeesLess (f : ℕ → ℕ → Bool) (p o : ℕ) (lines : List Line) : Type 0 where
  pub of_the_other : visible f p (visible f o lines) ≡ visible f p lines
  pub by_the_other : visible f o (visible f p lines) ≡ visible f p lines

-- so it is where p flows to o
abbrev pub SeesOfTheOther : Type 0
SeesOfTheOther =
    (order : Order) → IsSound order → (p o : ℕ) → flows order p o ≡ true
    → (lines : List Line) → SeesLess (flows order) p o lines

-- lines that follow others are seen after them
abbrev pub GoesByPieces : Type 0
GoesByPieces =
    (f : ℕ → ℕ → Bool) (o : ℕ) (lines more : List Line) → visible f o (lines ++ more) ≡ visible f o lines ++ visible f o more

-- of the lines that a run prints the visible ones are those that it prints of the visible ones
abbrev pub IsPrintedOrSeenFirst : Type 0
IsPrintedOrSeenFirst =
    (f : ℕ → ℕ → Bool) (o : ℕ) (lines : List Line) → visible f o (run_kinds lines) ≡ run_kinds (visible f o lines)
