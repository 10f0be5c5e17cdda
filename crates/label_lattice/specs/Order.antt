-- An order of labels, as it is written: their names and pairs of them.
use Rattle.std.specs.Prelude.{ℕ, List, length, Option, position, nat_eq}
use Rattle.std.specs.Cmp.Lexicographic.{pointwise}

-- the names by position, and the pairs of labels by which one flows to another
pub record Order : Type 0 where
  pub names : List (List ℕ)
  pub pairs : List (ℕ × ℕ)

abbrev pub count : Order → ℕ
count order = length order.names

-- where the name stands, if it does
abbrev pub place_of : List ℕ → List (List ℕ) → Option ℕ
place_of name names = position (pointwise nat_eq name) names
