-- The policy and the modules of the exercise.
use Rattle.std.specs.Prelude.{ℕ, List, [], ◌∷◌, codes}
use Rattle.label_lattice.specs.Reach.{order_of}
use Rattle.label_limits.specs.declared.limits.Limits.{Limits}
use Rattle.labelled_channel.specs.declared.channels.Channel.{Channel}
use Rattle.policy_toml.specs.Parts.{Parts}
use Rattle.event_file.specs.Known.{Known}
use Rattle.wasm_ast.specs.declared.modules.Module.{Module}
use Rattle.wasm_ast.specs.Validity.{Valid}
use Rattle.wasm_ast.specs.TestModules.{echo, lift, look, spin, store, twin}
use Rattle.wasm_decode.specs.Grammar.{Spells}

-- the labels
abbrev pub labels : List (List ℕ)
labels = codes "low" ∷ codes "alice" ∷ codes "bob" ∷ codes "top" ∷ []

-- which label flows to which
abbrev pub flows : List (List ℕ × List ℕ)
flows =
    (codes "low", codes "alice") ∷ (codes "low", codes "bob") ∷ (codes "alice", codes "top") ∷ (codes "bob", codes "top") ∷ []

-- the limits of each label
abbrev pub narrow : Limits
narrow = record { quantum = 8; fuel = 100; pages = 4; queue = 16; facets = 8; bytes = 64 }

abbrev pub limits : List Limits
limits = narrow ∷ narrow ∷ narrow ∷ narrow ∷ []

-- the functions, and the file of each
abbrev pub functions : List (List ℕ)
functions = codes "hello" ∷ codes "lift" ∷ codes "look" ∷ codes "spin" ∷ codes "store" ∷ codes "twin" ∷ []

abbrev pub files : List (List ℕ)
files =
    codes "echo.wasm" ∷ codes "lift.wasm" ∷ codes "look.wasm" ∷ codes "spin.wasm" ∷ codes "store.wasm" ∷ codes "twin.wasm" ∷ []

-- the channel `mail` leads to `top`, into `hello`
abbrev pub channels : List (List ℕ × Channel)
channels = (codes "mail", record { at = record { number = 3 }; function = 0 }) ∷ []

-- the clients, and the label for which each is cleared: `ann` for `alice`, `carol` for `low` and `sam` for `top`
abbrev pub clients : List (List ℕ)
clients = codes "ann" ∷ codes "carol" ∷ codes "sam" ∷ []

abbrev pub clearances : List ℕ
clearances = 1 ∷ 0 ∷ 3 ∷ []

-- the policy; it has no gates
abbrev pub built_in : Parts
built_in = record {
  lattice = order_of labels flows;
  limits = limits;
  channels = channels;
  functions = functions;
  files = files;
  clients = clients;
  clearances = clearances;
  gates = [];
}

-- the names that the events may use
abbrev pub known : Known
known = record { labels = labels; clients = clients; functions = functions }

-- the modules, in the order of the functions
abbrev pub built_in_modules : List Module
built_in_modules = echo ∷ lift ∷ look ∷ spin ∷ store ∷ twin ∷ []

-- the bytes spell a module that is valid
abbrev pub SpellValid : List ℕ → Type 0
SpellValid bytes = (m : Module) × Spells m bytes × Valid m
