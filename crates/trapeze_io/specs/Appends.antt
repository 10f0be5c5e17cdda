-- How much of a text a sink was given.
use Rattle.std.specs.Prelude.{◌≡◌, ◌⊎◌, ℕ, ◌<◌, List, [], ◌++◌, length, Option}
use Rattle.std.specs.Io.KnownBytes.{append_known}
use Rattle.trapeze_io.specs.Causes.{Rose}

-- the whole text was appended
abbrev pub AppendsAll : List ℕ → Option (List ℕ) → Option (List ℕ) → Type 0
AppendsAll text old new = new ≡ append_known old text

-- a prefix of the text was appended that holds this much of it, and perhaps all
pub record AppendsPrefix (least text : List ℕ) (old new : Option (List ℕ)) : Type 0 where
  pub more : List ℕ
  pub left : List ℕ
  pub split : text ≡ (least ++ more) ++ left
  pub appended : new ≡ append_known old (least ++ more)

-- such a prefix was appended that is not all
pub record AppendsLess (least text : List ℕ) (old new : Option (List ℕ)) : Type 0 where
  pub prefix : AppendsPrefix least text old new
  pub proper : 0 < length prefix.left

-- the text was appended, or a prefix of it that is not all where the sink's count of faults rose
abbrev pub Says : Option (List ℕ) → Option (List ℕ) → ℕ → ℕ → List ℕ → Type 0
Says old new before now text = AppendsAll text old new ⊎ (AppendsLess [] text old new × Rose before now)
