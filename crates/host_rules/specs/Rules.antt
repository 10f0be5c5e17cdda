-- What the rules see of a policy.
use Rattle.std.specs.Prelude.{◌≡◌, ℕ, Bool, true, List, [], Option, slice_index, slice_index_or}
use Rattle.label_lattice.specs.Order.{place_of}
use Rattle.label_lattice.specs.declared.label.Label.{Label}
use Rattle.label_limits.specs.declared.limits.Limits.{Limits}
use Rattle.labelled_channel.specs.declared.channels.Channel.{Channel}
use Rattle.labelled_channel.specs.Delivering.{channel_of}
use Rattle.gate_rules.specs.declared.gate.Gate.{Gate}
use Rattle.gate_rules.specs.Gates.{gate_of}

-- labels, functions and clients are numbers, and stand in their lists by number; channels and gates go by their names
pub record Rules : Type 0 where
  -- the names of the labels
  pub labels : List (List ℕ)
  -- flow: whether a label flows to another
  pub flows : ℕ → ℕ → Bool
  -- join: the least label that both flow to
  pub join : ℕ → ℕ → ℕ
  -- the limits of a label
  pub limits : List Limits
  -- the names of the functions
  pub functions : List (List ℕ)
  pub channels : List (List ℕ × Channel)
  -- the names of the clients, and their clearances
  pub clients : List (List ℕ)
  pub clearances : List ℕ
  pub gates : List (List ℕ × Gate)

abbrev pub label_of : ℕ → Label
label_of l = record { number = l }

-- a number that is no label's has no room for anything
abbrev pub no_limits : Limits
no_limits = record { quantum = 0; fuel = 0; pages = 0; queue = 0; facets = 0; bytes = 0 }

-- the limits of a label, of that label alone: there is none over all labels
abbrev pub limits_at : Rules → ℕ → Limits
limits_at P l = slice_index_or P.limits l no_limits

abbrev pub label_name : Rules → ℕ → List ℕ
label_name P l = slice_index_or P.labels l []

abbrev pub function_name : Rules → ℕ → List ℕ
function_name P f = slice_index_or P.functions f []

abbrev pub client_name : Rules → ℕ → List ℕ
client_name P client = slice_index_or P.clients client []

-- the clearance of a client, a label
abbrev pub clearance : Rules → ℕ → ℕ
clearance P client = slice_index P.clearances client

abbrev pub label_named : Rules → List ℕ → Option ℕ
label_named P name = place_of name P.labels

abbrev pub channel_named : Rules → List ℕ → Option Channel
channel_named P name = channel_of name P.channels

abbrev pub gate_named : Rules → List ℕ → Option Gate
gate_named P name = gate_of name P.gates

-- what the laws use of the order: each label flows to itself, flows chain, and a label flows to its join with any other
pub record IsOrdered (P : Rules) : Type 0 where
  pub reflexive : (a : ℕ) → P.flows a a ≡ true
  pub transitive : (a b c : ℕ) → P.flows a b ≡ true → P.flows b c ≡ true → P.flows a c ≡ true
  pub upper : (a b : ℕ) → P.flows a (P.join a b) ≡ true

-- the policy has no gate
abbrev pub HasNoGates : Rules → Type 0
HasNoGates P = P.gates ≡ []
