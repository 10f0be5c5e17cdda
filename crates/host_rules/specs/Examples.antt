-- A small policy, and a guest that follows a script, for the worked examples.
use Rattle.std.specs.Prelude.{ℕ, Bool, ◌==◌, ◌||◌, List, [], ◌∷◌, ◌++◌, Some}
use Rattle.std.specs.Prelude.{Option, None, slice_index_or, option_to_list, codes, if◌then◌else◌}
use Rattle.label_limits.specs.declared.limits.Limits.{Limits}
use Rattle.gate_rules.specs.declared.filter.Filter.TheVariants as filter
use Rattle.gate_rules.specs.declared.gate.Gate.{Gate}
use Rattle.trapeze_lines.specs.declared.line.Line.{Line}
use Rattle.trapeze_lines.specs.declared.line.Kind.TheVariants as kind
use Rattle.trapeze_lines.specs.declared.line.Kind.{Kind}
use Rattle.trapeze_lines.specs.declared.outcome.Outcome.{Outcome}
use Rattle.trapeze_lines.specs.declared.outcome.Outcome.TheVariants as outcome
use Rattle.trapeze_lines.specs.Lines.{line_at}
use Rattle.wasm_ast.specs.declared.hosts.HostName.{HostName}
use Rattle.wasm_ast.specs.declared.hosts.HostName.TheVariants as host
use Rattle.event_file.specs.declared.entry.Event.{Event}
use Rattle.event_file.specs.declared.entry.Event.TheVariants.{Put, Ask, Turn}
use Rattle.host_rules.specs.Guests.{Guest, OneUnit, Goes, Calls, Done}
use Rattle.host_rules.specs.Rules.{Rules, label_of}
use Rattle.host_rules.specs.Views.{view}
use Rattle.host_rules.specs.States.{Item, start}
use Rattle.host_rules.specs.Play.{trace, whole, items_of}

-- one unit of a script: it works, it goes round for ever, or it asks the host, with the last answer behind these operands
pub data Act : Type 0 where
  Works : Act
  Spins : Act
  Asks : HostName → List ℕ → Act

-- the acts that are left, the memory, and the last answer
pub record Acting : Type 0 where
  pub acts : List Act
  pub memory : List ℕ
  pub last : List ℕ

abbrev pub unit_of_script : Acting → OneUnit Acting
unit_of_script t = act t.acts
  where
    act : List Act → OneUnit Acting
    act [] = Done
    act (Works ∷ rest) = Goes (record t { acts = rest })
    act (Spins ∷ rest) = Goes t
    act (Asks name operands ∷ rest) = Calls (record { name = name; args = operands ++ t.last }) (record t { acts = rest })

-- each function has a script and a memory to begin with, and needs two pages
abbrev pub scripts : List Acting → Guest Acting
scripts functions = record {
  begin = λ f. slice_index_or functions f (record { acts = []; memory = []; last = [] });
  minimum = λ f. 2;
  unit = λ f pages t. unit_of_script t;
  memory = λ t. t.memory;
  answer = λ t memory answer. record t { memory = memory; last = option_to_list answer };
}

-- low flows to alice and bob, and both flow to top
abbrev pub low : ℕ
low = 0

abbrev pub alice : ℕ
alice = 1

abbrev pub bob : ℕ
bob = 2

abbrev pub top : ℕ
top = 3

abbrev pub diamond : ℕ → ℕ → Bool
diamond a b = a == b || (a == low || b == top)

abbrev pub diamond_join : ℕ → ℕ → ℕ
diamond_join a b = if diamond a b then b else if diamond b a then a else top

abbrev pub roomy : Limits
roomy = record { quantum = 10; fuel = 100; pages = 2; queue = 4; facets = 4; bytes = 100 }

-- a gate that lets one byte of what alice may see into the second function at low
abbrev pub one_byte : Gate
one_byte = record { source = label_of alice; target = label_of low; function = 1; filter = filter.First 1 }

-- two functions, a channel into the second one at low, a client cleared for alice, one gate
abbrev pub village : Limits → Rules
village limits = record {
  labels = codes "low" ∷ codes "alice" ∷ codes "bob" ∷ codes "top" ∷ [];
  flows = diamond;
  join = diamond_join;
  limits = limits ∷ limits ∷ limits ∷ limits ∷ [];
  functions = codes "f" ∷ codes "g" ∷ [];
  channels = (codes "c", record { at = label_of low; function = 1 }) ∷ [];
  clients = codes "ann" ∷ [];
  clearances = alice ∷ [];
  gates = (codes "g", one_byte) ∷ [];
}

-- a function that follows this script, over a memory with the names of the channel, of alice and of the gate, and two bytes
abbrev pub follows : List Act → Acting
follows acts = record { acts = acts; memory = codes "calicegHI"; last = [] }

-- it reads the key `g` into the two bytes and replies with as many as there are
abbrev pub read_acts : List Act
read_acts = Asks host.Read (6 ∷ 1 ∷ 7 ∷ 2 ∷ []) ∷ Asks host.Reply (7 ∷ []) ∷ []

-- it sends the two bytes into the channel
abbrev pub send_acts : List Act
send_acts = Asks host.Send (0 ∷ 1 ∷ 7 ∷ 2 ∷ []) ∷ []

-- it raises itself to alice and works on
abbrev pub raise_acts : List Act
raise_acts = Asks host.Raise (1 ∷ 5 ∷ []) ∷ Works ∷ []

-- it works for two units, raises itself to alice in the third, and then replies with the two bytes
abbrev pub climb_acts : List Act
climb_acts = Works ∷ Works ∷ Asks host.Raise (1 ∷ 5 ∷ []) ∷ Asks host.Reply (7 ∷ 2 ∷ []) ∷ []

-- it works for two units, and is done in the third
abbrev pub work_acts : List Act
work_acts = Works ∷ Works ∷ []

-- it replies with the two bytes
abbrev pub reply_acts : List Act
reply_acts = Asks host.Reply (7 ∷ 2 ∷ []) ∷ []

-- it releases the two bytes through the gate
abbrev pub release_acts : List Act
release_acts = Asks host.Release (6 ∷ 1 ∷ 7 ∷ 2 ∷ []) ∷ []

-- a put of the key `g`, one of absent, an ask of ann for the first function, and a turn
abbrev pub put_at : ℕ → List ℕ → Event
put_at l value = Put (label_of l) (codes "g") (Some value)

abbrev pub clear_at : ℕ → Event
clear_at l = Put (label_of l) (codes "g") None

-- a put of another key
abbrev pub put_key : ℕ → List ℕ → List ℕ → Event
put_key l key value = Put (label_of l) key (Some value)

abbrev pub ask_at : ℕ → Event
ask_at l = Ask (label_of l) 0 0 (codes "r") (codes "in")

abbrev pub turn_at : ℕ → Event
turn_at l = Turn (label_of l)

-- an ask of ann for the second function
abbrev pub ask_second_at : ℕ → Event
ask_second_at l = Ask (label_of l) 0 1 (codes "r") (codes "in")

-- the guest whose first and second function follow these acts
abbrev pub guest : List Act → List Act → Guest Acting
guest first second = scripts (follows first ∷ follows second ∷ [])

-- what is told of events under these limits
abbrev pub told_of : Limits → List Act → List Act → List Event → List Line
told_of limits first second events = trace (village limits) (guest first second) (start []) (items_of events)

-- what is told of items, which may be releases
abbrev pub told_of_items : List Act → List Act → List Item → List Line
told_of_items first second items = trace (village roomy) (guest first second) (start []) items

-- what is told of events, and then of the facets in the end
abbrev pub whole_of : List Act → List Event → List Line
whole_of first events = whole (village roomy) (guest first []) (start []) (items_of events)

-- how the first turn of a function with one act ends
abbrev pub ends_of : List Line → Outcome
ends_of [] = outcome.Waits
ends_of (l ∷ []) = ending l.kind
  where
    ending : Kind → Outcome
    ending (kind.Turn number function id how) = how
    ending _ = outcome.Waits
ends_of (l ∷ next ∷ lines) = ends_of (next ∷ lines)

abbrev pub trap_of : Act → Outcome
trap_of act = ends_of (told_of roomy (act ∷ []) [] (ask_at low ∷ turn_at low ∷ []))

-- the view that low has of them
abbrev pub low_view : List Act → List Event → List Item
low_view first events = view (village roomy) (guest first []) low (start []) events

-- a write of the key `g`
abbrev pub wrote : ℕ → List ℕ → Line
wrote l value = line_at l (kind.Write (codes "g") (Some value))

-- the first function arrived for ann, and the second without a request
abbrev pub started : ℕ → ℕ → Line
started l from = line_at l (kind.Start (label_of from) (codes "f") (Some (codes "r")))

abbrev pub let_in_at : ℕ → ℕ → Line
let_in_at l from = line_at l (kind.Start (label_of from) (codes "g") None)

-- a turn of the first function for ann, and of the second without a request
abbrev pub turned : ℕ → ℕ → Outcome → Line
turned l number how = line_at l (kind.Turn number (codes "f") (Some (codes "r")) how)

abbrev pub unasked : ℕ → ℕ → Outcome → Line
unasked l number how = line_at l (kind.Turn number (codes "g") None how)

-- the second function arrived for ann, and its turn for her
abbrev pub started_second : ℕ → ℕ → Line
started_second l from = line_at l (kind.Start (label_of from) (codes "g") (Some (codes "r")))

abbrev pub turned_second : ℕ → ℕ → Outcome → Line
turned_second l number how = line_at l (kind.Turn number (codes "g") (Some (codes "r")) how)

-- the two bytes were sent into the channel
abbrev pub sent : ℕ → Line
sent l = line_at l (kind.Send (codes "c") (codes "HI"))

-- a function answered ann, and the answer reached her
abbrev pub answered : ℕ → List ℕ → Line
answered l bytes = line_at l (kind.Answer (codes "ann") (codes "r") bytes)

abbrev pub replied : List ℕ → Line
replied bytes = line_at alice (kind.Reply (codes "ann") (codes "r") bytes)

-- a live facet in the end
abbrev pub facet_of : ℕ → List ℕ → Option (List ℕ) → Line
facet_of l key value = line_at l (kind.Facet key value)
