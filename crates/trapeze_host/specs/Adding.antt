-- Lines that were appended, or the first of them.
use Rattle.std.specs.Prelude.{◌≡◌, ℕ, List, ◌++◌, All, Result, Ok, Err}
use Rattle.trapeze_io.specs.declared.failures.NoMemory.{NoMemory}
use Rattle.trapeze_lines.specs.declared.line.Line.{Line}
use Rattle.trapeze_lines.specs.Lines.{IsLabelled}

-- the first of these lines were appended
pub record AddsPart (lines before after : List Line) : Type 0 where
  pub part : List Line
  pub rest : List Line
  pub added : after ≡ before ++ part
  pub whole : lines ≡ part ++ rest

-- all of these lines were appended, or, out of memory, the first of them
abbrev pub Adds : {X : Type 0} → Result X NoMemory → List Line → List Line → List Line → Type 0
Adds (Ok x) lines before after = after ≡ before ++ lines
Adds (Err e) lines before after = AddsPart lines before after

-- where the labels of the lines before are among so many, so are those of the lines after
abbrev pub KeepsLabelled : ℕ → List Line → List Line → Type 0
KeepsLabelled n before after = All (IsLabelled n) before → All (IsLabelled n) after
