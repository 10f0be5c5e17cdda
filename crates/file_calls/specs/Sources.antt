-- The files of a call, in the order in which it opens them.
use Rattle.std.specs.Prelude.{◌≡◌, ℕ, ◌+◌, ◌≤◌, List, [], ◌∷◌, ◌++◌, length, map, IfSome}
use Rattle.std.specs.declared.option.Option.{Option}
use Rattle.trapeze_io.specs.Causes.{Rose}
use Rattle.trapeze_io.specs.Seen.{Seen, Held, OpenFile, GivesPrefix, OpensAll}

-- a file that a call may open: its name, and the most bytes that it may have
pub record Source : Type 0 where
  pub name : List ℕ
  pub limit : ℕ

abbrev pub names_of : List Source → List (List ℕ)
names_of sources = map (λ s. s.name) sources

-- what was given of an open file is a prefix of the one that is held, and at most its limit and one byte more
pub record TakesPart (source : Source) (held : Option Held) (current : Option OpenFile) : Type 0 where
  pub prefix : GivesPrefix held source.name current
  pub most : IfSome current (λ file. length file.given ≤ source.limit + 1)

-- all of these files were opened, in order and each once, and no other
pub record OpensEach (sources : List Source) (old new : Seen) : Type 0 where
  pub opens : OpensAll (names_of sources) old new
  pub taken : (before : List Source) (last : Source) → sources ≡ before ++ last ∷ [] → TakesPart last old.held new.current

-- of these files, of which the first has this place, each up to the one at a place was opened, and no other
pub record OpensUpTo (first : ℕ) (sources : List Source) (place : ℕ) (old new : Seen) : Type 0 where
  pub before : List Source
  pub last : Source
  pub after : List Source
  pub split : sources ≡ before ++ last ∷ after
  pub placed : place ≡ first + length before
  pub opens : OpensAll (names_of (before ++ last ∷ [])) old new
  pub taken : TakesPart last old.held new.current

-- the count of faults rose, and since the last open
pub record FaultsRose (old new : Seen) : Type 0 where
  pub rose : Rose old.faults new.faults
  pub marked : Rose new.mark new.faults
