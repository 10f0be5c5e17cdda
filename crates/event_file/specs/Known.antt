-- The names that the lines of an event file may use.
use Rattle.std.specs.Prelude.{ℕ, ◌^◌, ◌<◌, List, length}
use Rattle.trapeze_io.specs.Names.{Ascend}

-- the names of the labels, of the clients and of the functions, each at the place that is its number
pub record Known : Type 0 where
  pub labels : List (List ℕ)
  pub clients : List (List ℕ)
  pub functions : List (List ℕ)

-- names in byte order without repeats, that 32 bits can count
pub record AreNumbered (names : List (List ℕ)) : Type 0 where
  pub ascending : Ascend names
  pub few : length names < 2 ^ 32

-- the clients and the functions can be told by their numbers
pub record IsNumbered (known : Known) : Type 0 where
  pub clients : AreNumbered known.clients
  pub functions : AreNumbered known.functions
