-- The events of the exercise.
use Rattle.std.specs.Prelude.{ℕ, ◌+◌, ◌*◌, ◌/◌, ◌%◌, ◌==◌, nat_le, if◌then◌else◌, List, [], ◌∷◌, ◌++◌, map, codes, decimal, Some, None}
use Rattle.std.specs.List.{range_with_len}
use Rattle.label_lattice.specs.declared.label.Label.{Label}
use Rattle.event_file.specs.declared.entry.Event.{Event}
use Rattle.event_file.specs.declared.entry.Event.TheVariants.{Put, Ask, Turn}

-- the number that is drawn for position i
unfoldable pub drawn : ℕ → ℕ → ℕ
drawn number i = (number % 1000000 * 40503 + i * 30011 + 12345) % 65536

-- the middle of its square, of which the parts of an event are digits
unfoldable pub mixed : ℕ → ℕ
mixed z = z * z / 256 % 65536

-- which of four labels
abbrev pub label_of : ℕ → Label
label_of w = record { number = w % 4 }

-- what kind of event, of eight
abbrev pub kind_of : ℕ → ℕ
kind_of w = w / 4 % 8

-- which of eight keys, or of the clients
abbrev pub detail_of : ℕ → ℕ
detail_of w = w / 32 % 8

-- which of six functions
abbrev pub function_of : ℕ → ℕ
function_of w = w / 256 % 6

-- a key of one byte, from `a` on
abbrev pub key_of : ℕ → List ℕ
key_of w = (97 + detail_of w) ∷ []

-- a value or a body: the number drawn, the high byte first
abbrev pub body_of : ℕ → List ℕ
body_of z = (z / 256) ∷ (z % 256) ∷ []

-- `r` and the position in decimal
abbrev pub id_of : ℕ → List ℕ
id_of i = codes "r" ++ decimal i

-- the event that the numbers say: one kind in eight puts a value, one an absent one, two ask, and four are turns
abbrev pub event_of : ℕ → ℕ → ℕ → Event
event_of i z w =
    if kind_of w == 0 then Put (label_of w) (key_of w) (Some (body_of z))
    else if kind_of w == 1 then Put (label_of w) (key_of w) None
    else if nat_le (kind_of w) 3 then Ask (label_of w) (detail_of w % 3) (function_of w) (id_of i) (body_of z)
    else Turn (label_of w)

-- the event of the exercise with this number at position i
abbrev pub generated : ℕ → ℕ → Event
generated number i = event_of i (drawn number i) (mixed (drawn number i))

-- so many of them, from position 0 on
unfoldable pub first_generated : ℕ → ℕ → List Event
first_generated number count = map (generated number) (range_with_len 0 count)

-- all of them
abbrev pub all_generated : ℕ → List Event
all_generated number = first_generated number 20000
