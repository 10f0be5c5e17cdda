-- Channels by their names, and what becomes of a message sent into one.
use Rattle.std.specs.Prelude.{◌≢◌, ℕ, ◌<◌, List, Option, Some, None, nat_eq, if◌then◌else◌, All, IsTrue}
use Rattle.std.specs.List.{AllPairs}
use Rattle.std.specs.Cmp.Lexicographic.{pointwise}
use Rattle.std.specs.Map.{lookup}
use Rattle.label_lattice.specs.Order.{Order}
use Rattle.label_lattice.specs.Reach.{flows}
use Rattle.trapeze_io.specs.Names.{is_name}
use Rattle.labelled_channel.specs.declared.channels.Channel.{Channel}
use Rattle.labelled_channel.specs.declared.channels.Delivery.{Delivery}
use Rattle.labelled_channel.specs.declared.channels.Delivery.TheVariants.{Start, Vanishes, Unknown}

-- the channel with the name, if there is one
abbrev pub channel_of : List ℕ → List (List ℕ × Channel) → Option Channel
channel_of name channels = lookup (pointwise nat_eq name) channels

-- no two channels have one name
abbrev pub AreNamedApart : List (List ℕ × Channel) → Type 0
AreNamedApart channels = AllPairs (λ c d. c.0 ≢ d.0) channels

-- each channel stands under a name
abbrev pub AreUnderNames : List (List ℕ × Channel) → Type 0
AreUnderNames channels = All (λ c. IsTrue (is_name c.0)) channels

-- a message from the label at starts the channel's function where the label flows to the channel's, and vanishes elsewhere
abbrev pub delivered : Order → ℕ → Option Channel → Delivery
delivered order at None = Unknown
delivered order at (Some channel) = if flows order at channel.at.number then Start channel.at channel.function else Vanishes

-- the channels have labels below the count
abbrev pub AreAtLabels : ℕ → List (List ℕ × Channel) → Type 0
AreAtLabels count channels = All (λ c. c.1.at.number < count) channels
