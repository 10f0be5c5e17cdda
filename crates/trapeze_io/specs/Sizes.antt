-- How long names, keys, values, messages and bodies may be.
use Rattle.std.specs.Prelude.{ℕ, ◌≤◌, List, length, Option, Some, None}

-- the most bytes of a name
abbrev pub longest_name : ℕ
longest_name = 64

-- the most bytes of a key
abbrev pub longest_key : ℕ
longest_key = 1024

-- the most bytes of a value, a message, a reply or a body
abbrev pub longest_value : ℕ
longest_value = 65536

-- a key is no longer than a key may be
abbrev pub IsKey : List ℕ → Type 0
IsKey key = length key ≤ longest_key

-- the length of a value, 0 where it is absent
abbrev pub value_length : Option (List ℕ) → ℕ
value_length None = 0
value_length (Some value) = length value

-- a value is no longer than a value may be
abbrev pub IsValue : Option (List ℕ) → Type 0
IsValue value = value_length value ≤ longest_value
