-- Where the faults of a policy stand.
use Rattle.std.specs.Prelude.{ℕ}
use Rattle.policy_toml.specs.declared.place.Part.{Part}
use Rattle.policy_toml.specs.declared.place.Place.{Place}

-- a whole part
abbrev pub whole : Part → Place
whole part = record { part = part; row = 0; item = 0 }

-- a whole row of a part; rows count from 1
abbrev pub row_place : Part → ℕ → Place
row_place part row = record { part = part; row = row; item = 0 }

-- a field of a row; fields count from 1
abbrev pub field_of : Part → ℕ → ℕ → Place
field_of part row item = record { part = part; row = row; item = item }
