-- What the host keeps: writes, lists of activations, numbers of turns and requests, and the requests that were answered.
use Rattle.std.specs.Prelude.{◌≡◌, ℕ, ◌+◌, Bool, false, ◌==◌, ◌&&◌, ◌||◌, List, [], ◌∷◌, ◌++◌}
use Rattle.std.specs.Prelude.{Option, Some, None, Contains, drop, option_map, if◌then◌else◌}
use Rattle.facet_list.specs.Store.{Write}
use Rattle.event_file.specs.declared.entry.Event.{Event}
use Rattle.gate_rules.specs.declared.gate.Gate.{Gate}
use Rattle.trapeze_lines.specs.declared.line.Line.{Line}

-- a request is named by its label and its number at that label
pub record Request : Type 0 where
  pub label : ℕ
  pub number : ℕ

-- the request that is served, with its client and its id
pub record Serving : Type 0 where
  pub request : Request
  pub client : ℕ
  pub id : List ℕ

-- activation: one run of a function on an input, for a request or for none; its thread, which is there from its first
-- turn on, and the units used since it arrived at its label, which is that of the list that holds it
pub record Activation (T : Type 0) : Type 0 where
  pub function : ℕ
  pub input : List ℕ
  pub serves : Option Serving
  pub thread : Option T
  pub used : ℕ

-- a new activation has no thread yet
abbrev pub fresh : {T : Type 0} → ℕ → List ℕ → Option Serving → Activation T
fresh function input serves = record { function = function; input = input; serves = serves; thread = None; used = 0 }

-- state: the writes made so far; for each label a list of activations, a turn number and a request number; the answered requests
pub record State (T : Type 0) : Type 0 where
  pub store : List Write
  pub lists : ℕ → List (Activation T)
  pub turns : ℕ → ℕ
  pub requests : ℕ → ℕ
  pub answered : Request → Bool

-- an activation in the label's list serves this
pub record Serves {T : Type 0} (s : State T) (l : ℕ) (x : Serving) : Type 0 where
  pub activation : Activation T
  pub listed : Contains (s.lists l) activation
  pub serves : activation.serves ≡ Some x

-- the start from these writes: no activation, no turn, no request
abbrev pub start : {T : Type 0} → List Write → State T
start w = record { store = w; lists = λ l. []; turns = λ l. 0; requests = λ l. 0; answered = λ r. false }

-- this at one label, and the same as before at each other
abbrev pub set_at : {A : Type 0} → (ℕ → A) → ℕ → A → ℕ → A
set_at f l v k = if k == l then v else f k

-- one write more
abbrev pub keep : {T : Type 0} → State T → Write → State T
keep s x = record s { store = s.store ++ x ∷ [] }

-- one activation more at the back of the label's list
abbrev pub push : {T : Type 0} → State T → ℕ → Activation T → State T
push s l a = record s { lists = set_at s.lists l (s.lists l ++ a ∷ []) }

-- the front activation leaves the label's list
abbrev pub leave : {T : Type 0} → State T → ℕ → State T
leave s l = record s { lists = set_at s.lists l (drop 1 (s.lists l)) }

-- the next turn number of the label is taken
abbrev pub count_turn : {T : Type 0} → State T → ℕ → State T
count_turn s l = record s { turns = set_at s.turns l (s.turns l + 1) }

-- the next request number of the label is taken
abbrev pub count_request : {T : Type 0} → State T → ℕ → State T
count_request s l = record s { requests = set_at s.requests l (s.requests l + 1) }

abbrev pub same_request : Request → Request → Bool
same_request r q = r.label == q.label && r.number == q.number

-- one request more is answered
abbrev pub answer : {T : Type 0} → State T → Request → State T
answer s q = record s { answered = λ r. same_request r q || s.answered r }

-- an item: an event, or a release that did not vanish, with its gate and its filtered bytes
pub data Item : Type 0 where
  Happens : Event → Item
  Out : Gate → List ℕ → Item

-- what a rule makes of a state: the state after it, the lines that it gives, and the releases that did not vanish
pub record Moved (T : Type 0) : Type 0 where
  pub state : State T
  pub lines : List Line
  pub outs : List Item

-- nothing happens
abbrev pub still : {T : Type 0} → State T → Moved T
still s = record { state = s; lines = []; outs = [] }

-- a state with one line
abbrev pub told : {T : Type 0} → Line → State T → Moved T
told line s = record { state = s; lines = line ∷ []; outs = [] }

-- lines, and then a move
abbrev pub then_lines : {T : Type 0} → List Line → Moved T → Moved T
then_lines lines m = record { state = m.state; lines = lines ++ m.lines; outs = m.outs }

-- a move, and then one from the state after it
abbrev pub then_move : {T : Type 0} → Moved T → Moved T → Moved T
then_move x y = record { state = y.state; lines = x.lines ++ y.lines; outs = x.outs ++ y.outs }

-- the id of the request that is served, if there is one
abbrev pub id_of : {T : Type 0} → Activation T → Option (List ℕ)
id_of a = option_map (λ x. x.id) a.serves
