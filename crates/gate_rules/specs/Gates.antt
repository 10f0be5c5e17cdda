-- Gates by their names, and what becomes of bytes that are released through one.
use Rattle.std.specs.Prelude.{◌≢◌, ℕ, ◌<◌, Bool, true, false, ◌==◌, ◌&&◌, List, Option, Some, None, nat_eq, if◌then◌else◌, take, length, All, IsTrue}
use Rattle.std.specs.Int.{w32, to_le_bytes}
use Rattle.std.specs.Cmp.Lexicographic.{pointwise}
use Rattle.std.specs.List.{list_any, AllPairs}
use Rattle.std.specs.Map.{lookup}
use Rattle.label_lattice.specs.Order.{Order}
use Rattle.label_lattice.specs.Reach.{flows}
use Rattle.label_lattice.specs.declared.label.Label.{Label}
use Rattle.trapeze_io.specs.Names.{is_name}
use Rattle.gate_rules.specs.declared.gate.Gate.{Gate}
use Rattle.gate_rules.specs.declared.filter.Filter.{Filter}
use Rattle.gate_rules.specs.declared.filter.Filter.TheVariants as filter
use Rattle.gate_rules.specs.declared.gates.Passage.{Passage}
use Rattle.gate_rules.specs.declared.gates.Passage.TheVariants.{Pass, Vanishes, Unknown}

-- the gate with the name, if there is one
abbrev pub gate_of : List ℕ → List (List ℕ × Gate) → Option Gate
gate_of name gates = lookup (pointwise nat_eq name) gates

-- no two gates have one name
abbrev pub AreNamedApart : List (List ℕ × Gate) → Type 0
AreNamedApart gates = AllPairs (λ g h. g.0 ≢ h.0) gates

-- each gate stands under a name
abbrev pub AreUnderNames : List (List ℕ × Gate) → Type 0
AreUnderNames gates = All (λ g. IsTrue (is_name g.0)) gates

-- what a filter lets through: all bytes, their number as four bytes with the low one first, or the first of them
abbrev pub filtered : Filter → List ℕ → List ℕ
filtered filter.All bytes = bytes
filtered filter.Length bytes = to_le_bytes w32 (length bytes)
filtered (filter.First count) bytes = take count bytes

-- bytes from the label at pass the gate, filtered, where the label flows to the gate's source, and vanish elsewhere
abbrev pub passed : Order → ℕ → List ℕ → Option Gate → Passage
passed order at bytes None = Unknown
passed order at bytes (Some gate) =
    if flows order at gate.source.number then Pass gate (filtered gate.filter bytes) else Vanishes

-- whether the bytes pass a gate
abbrev pub is_pass : Passage → Bool
is_pass (Pass gate bytes) = true
is_pass Vanishes = false
is_pass Unknown = false

-- a gate leads from the source to the target, into the function
abbrev pub leads : Label → Label → ℕ → Gate → Bool
leads source target function gate =
    gate.source.number == source.number && gate.target.number == target.number && gate.function == function

-- some gate leads so
abbrev pub has : Label → Label → ℕ → List (List ℕ × Gate) → Bool
has source target function gates = list_any (λ g. leads source target function g.1) gates

-- the sources of the gates are labels below the count
abbrev pub AreFromLabels : ℕ → List (List ℕ × Gate) → Type 0
AreFromLabels count gates = All (λ g. g.1.source.number < count) gates
