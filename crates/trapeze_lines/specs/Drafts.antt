-- What contracts see of a text that is being written.
use Rattle.std.specs.Prelude.{◌≡◌, ℕ, List, ◌∷◌, ◌++◌, Result, OnOk}
use Rattle.std.specs.List.{flat_map}

-- the bytes that were there before, and those that were written after them
pub record Drafted : Type 0 where
  pub before : List ℕ
  pub written : List ℕ

-- words, each after a space
abbrev pub spaced : List (List ℕ) → List ℕ
spaced words = flat_map (λ word. 32 ∷ word) words

-- more was written, or else some of it; the bytes before stay
pub record AddsMore {E : Type 0} (old new : Drafted) (more : List ℕ) (result : Result Unit E) : Type 0 where
  pub before : new.before ≡ old.before
  pub ok : OnOk result (new.written ≡ old.written ++ more)
